use Rattle.std.proofs.Common.{◌≡◌, ◌++◌, map, take}
use Rattle.std.specs.List.{flat_map}
use Rattle.nl_reports.specs.Rows.{heading, highest_told, list_line, told_row}
use Rattle.nl_reports.specs.declared.rows.Rank.{Rank}
use Rattle.nl_reports.proofs.rows.Ranked.append.Given as goal

-- the lines of each rank before this one
abbrev pub invariant-loop-rank : goal.invariant-loop-rank
invariant-loop-rank l =
    l.lines.items ≡ (l.fn.lines.items ++ heading l.self.lists.screen l.self.of_kinds)
    ++ flat_map (λ (rank : Rank). flat_map (list_line l.self rank) (highest_told l.self.lists.most rank (map told_row l.all))) (take l.rank-index l.rank-items)

-- the line of each before this one
abbrev pub invariant-loop-item : goal.invariant-loop-item
invariant-loop-item l = l.lines.items ≡ l.initial.lines.items ++ flat_map (list_line l.self l.rank) (map told_row (take l.item-index l.item-items))
