use Rattle.std.proofs.Common.{◌≡◌, ◌++◌, ◌+◌, drop, map}
use Rattle.nl_reports.specs.Jobs.{seen}
use Rattle.nl_reports.specs.Picture.{long_head, long_lines}
use Rattle.nl_reports.proofs.picture.append_longest.Given as goal

-- what is appended, and the lines that are left
abbrev pub invariant-loop-i : goal.invariant-loop-i
invariant-loop-i l = l.out.items ++ long_lines l.frame (l.i + 1) (map seen (drop l.i l.kept.items))
    ≡ (l.fn.out.items ++ long_head l.frame) ++ long_lines l.frame 1 (map seen l.kept.items)
