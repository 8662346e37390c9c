use Rattle.std.proofs.Common.{◌≡◌, ◌++◌, [], drop}
use Rattle.std.specs.List.Sorted.{IsNonDecreasing}
use Rattle.nl_builds.specs.Commands.{waits_from}
use Rattle.nl_builds.proofs.command.rows_of.Given as goal

-- the commands so far, and those of what is left
abbrev pub invariant-loop-command : goal.invariant-loop-command
invariant-loop-command l = record {
  told : l.rows.items ++ waits_from l.row.items (drop l.command-index l.commands) ≡ waits_from [] l.commands;
  rises : IsNonDecreasing l.row.items;
}
