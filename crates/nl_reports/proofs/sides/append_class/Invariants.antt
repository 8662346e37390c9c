use Rattle.std.proofs.Common.{◌≡◌, ◌+◌, ◌*◌, ◌≤◌, ◌^◌, ◌++◌, drop, map, take}
use Rattle.std.specs.List.{flat_map}
use Rattle.nl_reports.specs.Compare.{class_heading, compared_of, new_time, of_class, old_time, row_line}
use Rattle.nl_reports.proofs.sides.append_class.Given as goal

-- those of the class so far and their times, and those of what is left
abbrev pub invariant-loop-row : goal.invariant-loop-row
invariant-loop-row l = record {
  kept : map compared_of l.kept.items ++ of_class l.class (map compared_of (drop l.row-index l.rows)) ≡ of_class l.class (map compared_of l.rows);
  old : l.before + old_time (of_class l.class (map compared_of (drop l.row-index l.rows))) ≡ old_time (of_class l.class (map compared_of l.rows));
  new : l.after + new_time (of_class l.class (map compared_of (drop l.row-index l.rows))) ≡ new_time (of_class l.class (map compared_of l.rows));
  early : l.before ≤ l.row-index * 2 ^ 64;
  late : l.after ≤ l.row-index * 2 ^ 64;
}

-- the line of each row before this one
abbrev pub invariant-loop-row-2 : goal.invariant-loop-row-2
invariant-loop-row-2 l = l.lists.items ≡ (l.fn.lists.items ++ class_heading l.screen l.fn.class (map compared_of l.listed))
    ++ flat_map (row_line l.screen l.fn.class) (map compared_of (take l.row-index l.listed))
