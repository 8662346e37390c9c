use Rattle.std.proofs.Common.{◌≡◌, ◌++◌, map, take}
use Rattle.std.specs.List.{flat_map}
use Rattle.nl_reports.specs.Compare.{class_lines, compared_of, head, total_line}
use Rattle.nl_reports.proofs.sides.compare_lines.Given as goal

-- the totals of the classes before this one, and their commands
abbrev pub invariant-loop-class : goal.invariant-loop-class
invariant-loop-class l = record {
  totals : l.lines.items ≡ head l.screen l.hashes ++ flat_map (total_line l.screen (map compared_of l.rows)) (take l.class-index l.class-items);
  lists : l.lists.items ≡ flat_map (class_lines l.screen l.most (map compared_of l.rows)) (take l.class-index l.class-items);
}
