use Rattle.std.proofs.Common.{◌≡◌, ◌++◌, [], List, map}
use Rattle.nl_fields.specs.declared.entry.Entry.{Entry}
use Rattle.nl_table.specs.Table.{all_entered_table, entry_names}
use Rattle.nl_builds.specs.Recorded.{recorded, recorded_from}
use Rattle.nl_builds.proofs.reading.keep_recorded.Given as goal

abbrev pub invariant-loop-entry : goal.invariant-loop-entry
invariant-loop-entry l = record {
  kept : (rest : List Entry) → l.kept.items ++ recorded_from l.last l.stood rest ≡ recorded (l.yielded ++ rest);
  last : l.last ≡ all_entered_table l.yielded [];
  names : map (λ n. n.now) l.names.items ≡ entry_names l.last;
}
