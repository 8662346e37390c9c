use Rattle.std.proofs.Common.{◌≡◌, ◌++◌, take}
use Rattle.nl_tool_texts.proofs.terminal.push_all.Given as goal

abbrev pub invariant-loop-byte : goal.invariant-loop-byte
invariant-loop-byte g l = l.out.items ≡ l.initial.out.items ++ take l.byte-index l.bytes
