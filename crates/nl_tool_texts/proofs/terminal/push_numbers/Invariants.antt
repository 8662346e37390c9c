use Rattle.std.proofs.Common.{◌≡◌, ◌≤◌, ◌+◌, ◌*◌, ◌++◌, drop, length}
use Rattle.nl_tool_texts.specs.Columns.{by_numbers}
use Rattle.nl_tool_texts.proofs.terminal.push_numbers.Given as goal

-- there is room for the bytes that are left, and they make of what is appended what all of them make
abbrev pub invariant-loop-byte : goal.invariant-loop-byte
invariant-loop-byte l = record {
  room : length l.shown.items + 4 * length (drop l.byte-index l.bytes) ≤ 16;
  items : l.shown.items ++ by_numbers (drop l.byte-index l.bytes) ≡ l.initial.shown.items ++ by_numbers l.bytes;
}
