use Rattle.std.proofs.Common.{◌≡◌, ◌++◌, drop}
use Rattle.nl_builds.specs.Commands.{tops}
use Rattle.nl_builds.proofs.command.moved_rows.Given as goal

-- the commands so far, and those of what is left
abbrev pub invariant-loop-command : goal.invariant-loop-command
invariant-loop-command l = record { told : l.found.items ++ tops l.top (drop l.command-index l.commands) ≡ tops 0 l.commands }
