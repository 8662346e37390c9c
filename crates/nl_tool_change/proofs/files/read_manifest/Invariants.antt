use Rattle.std.proofs.Common.{◌≡◌}
use Rattle.nl_tool_change.proofs.files.read_manifest.Given as goal

-- the names so far are those of the targets so far
abbrev pub invariant-loop-target : goal.invariant-loop-target
invariant-loop-target g l = l.names.items ≡ l.yielded
