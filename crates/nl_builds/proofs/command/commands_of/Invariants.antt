use Rattle.std.proofs.Common.{◌≡◌, ◌+◌, ◌++◌, drop}
use Rattle.nl_builds.specs.Commands.{commands, commands_from}
use Rattle.nl_builds.proofs.command.commands_of.Given as goal

-- the commands so far, and those of what is left
abbrev pub invariant-loop-entry : goal.invariant-loop-entry
invariant-loop-entry l = record {
  told : l.found.items ++ commands_from l.place l.current l.first l.last (drop l.entry-index l.later) ≡ commands l.fn.entries;
  place : l.place ≡ l.entry-index + 1;
}
