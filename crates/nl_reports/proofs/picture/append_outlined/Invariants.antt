use Rattle.std.proofs.Common.{◌≡◌, ◌++◌, Some, drop, map}
use Rattle.std.specs.List.{flat_map}
use Rattle.nl_reports.specs.Picture.{outline, outlined}
use Rattle.nl_reports.specs.Reaches.{ran_seen}
use Rattle.nl_reports.proofs.picture.append_outlined.Given as goal

-- what is appended, and the outlines that are left
abbrev pub invariant-loop-ran : goal.invariant-loop-ran
invariant-loop-ran l = l.out.items ++ flat_map (outline l.frame l.lanes) (map ran_seen (drop l.ran-index l.commands))
    ≡ l.fn.out.items ++ outlined l.fn.frame l.fn.lanes (Some (map ran_seen l.commands))
