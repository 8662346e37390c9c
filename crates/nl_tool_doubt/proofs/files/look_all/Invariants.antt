use Rattle.std.proofs.Common.{take}
use Rattle.nl_tool_doubt.specs.Doubts.{AreLooked}
use Rattle.nl_tool_doubt.proofs.files.look_all.Given as goal

-- the files of the entries before the place were looked at
abbrev pub invariant-loop-place : goal.invariant-loop-place
invariant-loop-place g l = AreLooked (take l.place l.table) (g.F.OutputFiles.states l.files) l.looked.items
