use Rattle.std.proofs.Common.{◌≡◌, length, map}
use Rattle.nl_tool_texts.specs.Columns.{rows_up_to, widths, widths_up_to}
use Rattle.nl_tool_texts.proofs.columns.in_columns.Given as goal

abbrev pub invariant-loop-i : goal.invariant-loop-i
invariant-loop-i l = record {
  told : l.out.items ≡ rows_up_to l.i l.most (map (λ line. line.now) l.lines.items);
  found : l.found.items ≡ widths (length l.found.items) (map (λ line. line.now) l.lines.items);
}

abbrev pub invariant-loop-place : goal.invariant-loop-place
invariant-loop-place l = l.found.items ≡ widths_up_to l.place l.count (map (λ line. line.now) l.lines.items)
