use Rattle.std.proofs.Common.{◌≡◌, ◌++◌, drop}
use Rattle.std.specs.List.{flat_map}
use Rattle.nl_tool_doubt.specs.Doubts.{doubt_line}
use Rattle.nl_tool_doubt.proofs.doubts.write_doubts.Given as goal

abbrev pub invariant-loop-it : goal.invariant-loop-it
invariant-loop-it g l = l.text.items ++ flat_map doubt_line (drop l.it-index l.named) ≡ flat_map doubt_line l.fn.named
