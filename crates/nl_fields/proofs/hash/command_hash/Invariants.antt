use Rattle.std.proofs.Common.{◌≡◌, length, take}
use Rattle.std.specs.Prelude.{fold}
use Rattle.nl_fields.specs.CommandHash.{xor, seed, times, with_group}
use Rattle.nl_fields.proofs.hash.command_hash.Given as goal

-- The hash of the groups so far.
abbrev pub invariant-loop-group : goal.invariant-loop-group
invariant-loop-group l = l.hash ≡ fold with_group (xor seed (times (length l.command))) (take l.group-index l.groups)
