use Rattle.std.proofs.Common.{◌≡◌, ◌++◌, drop}
use Rattle.nl_reports.proofs.NameLemmas.{comma_before, names_text}
use Rattle.nl_reports.proofs.trace.append_command.Given as goal

-- a comma stands before each name but the first; the names so far, and those that follow
abbrev pub invariant-loop-entry : goal.invariant-loop-entry
invariant-loop-entry l = record {
  comma : l.comma ≡ comma_before l.entry-index;
  told : l.out.items ++ names_text l.entry-index (drop l.entry-index l.entry-items) ≡ l.initial.out.items ++ names_text 0 l.entry-items;
}
