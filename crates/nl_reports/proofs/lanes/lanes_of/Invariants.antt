use Rattle.std.proofs.Common.{◌≡◌, ◌++◌, drop}
use Rattle.nl_reports.specs.Lanes.{AreLow, lanes, lanes_from}
use Rattle.nl_reports.proofs.lanes.lanes_of.Given as goal

-- the lanes so far, and those of the commands that follow
abbrev pub invariant-loop-command : goal.invariant-loop-command
invariant-loop-command l = record {
  low : AreLow l.open;
  lanes : l.found.items ++ lanes_from l.open.ends.items (drop l.command-index l.commands) ≡ lanes l.commands;
}
