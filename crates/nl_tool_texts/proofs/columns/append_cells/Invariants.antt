use Rattle.std.proofs.Common.{◌≡◌, ◌++◌}
use Rattle.nl_tool_texts.specs.Columns.{cells_up_to, room_behind, spaces}
use Rattle.nl_tool_texts.proofs.columns.append_cells.Given as goal

abbrev pub invariant-loop-place : goal.invariant-loop-place
invariant-loop-place l = record {
  items : l.out.items ≡ l.fn.out.items ++ cells_up_to l.place l.widths l.line;
  room : l.room ≡ room_behind l.place l.most l.widths;
}

abbrev pub invariant-spaces : goal.invariant-spaces
invariant-spaces l = l.out.items ≡ l.initial.out.items ++ spaces l.counter
