use Rattle.std.proofs.Common.{◌≡◌, map, take}
use Rattle.nl_reports.specs.Kinds.{AreNamed, AreSumsOf, kind_pair, kinds}
use Rattle.nl_reports.specs.Rows.{told_row}
use Rattle.nl_reports.proofs.kinds.kinds_of.Given as goal

-- the kinds of the commands before this one
abbrev pub invariant-loop-command : goal.invariant-loop-command
invariant-loop-command l = record {
  value : map kind_pair l.rows.entries ≡ kinds l.rule (map told_row (take l.command-index l.commands));
  few : AreSumsOf l.command-index (map kind_pair l.rows.entries);
  named : AreNamed l.rows.entries;
}
