use Rattle.std.proofs.Common.{◌≤◌, ◌-◌, ℕ, length, take}
use Rattle.nl_tool_texts.specs.Columns.{Passes}
use Rattle.nl_tool_texts.proofs.terminal.plain_len.Given as goal

abbrev pub invariant-loop-count : goal.invariant-loop-count
invariant-loop-count l = record {
  within : l.count ≤ length l.bytes;
  plain : (n : ℕ) → n ≤ l.count → Passes (take n l.bytes);
}

abbrev pub decreases-loop-count : goal.decreases-loop-count
decreases-loop-count l = length l.bytes - l.count
