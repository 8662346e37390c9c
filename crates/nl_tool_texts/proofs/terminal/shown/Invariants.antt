use Rattle.std.proofs.Common.{◌≡◌, ◌≤◌, ◌++◌, drop, length}
use Rattle.nl_tool_texts.specs.Columns.{begun_by, by_numbers, shown, shown_of}
use Rattle.nl_tool_texts.proofs.terminal.shown.Given as goal

-- what is appended, and what the rest becomes
abbrev pub invariant-loop-byte : goal.invariant-loop-byte
invariant-loop-byte l = record {
  few : length l.begun.items ≤ 3;
  items : l.out.items ++ (shown_of l.begun.items (drop l.byte-index l.text) ++ by_numbers (begun_by l.begun.items (drop l.byte-index l.text))) ≡ shown l.text;
}
