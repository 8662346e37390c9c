use Rattle.std.proofs.Common.{◌≡◌, ◌≤◌, ◌-◌, drop, length}
use Rattle.nl_tool_texts.specs.Columns.{end_of, width}
use Rattle.nl_tool_texts.proofs.columns.end_of.Given as goal

abbrev pub invariant-loop-at : goal.invariant-loop-at
invariant-loop-at l = record {
  within : l.at ≤ length l.field;
  left : l.left ≡ width (drop l.at l.field);
  same : end_of l.room (drop l.at l.field) ≡ end_of l.room l.field;
}

abbrev pub decreases-loop-at : goal.decreases-loop-at
decreases-loop-at l = length l.field - l.at
