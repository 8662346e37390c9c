use Rattle.std.proofs.Common.{◌≡◌, ◌++◌, drop}
use Rattle.nl_tool_texts.specs.Escape.{escaped, escaped_behind}
use Rattle.nl_tool_texts.proofs.escape.append_escaped.Given as goal

-- what is appended, and what the rest becomes
abbrev pub invariant-loop-byte : goal.invariant-loop-byte
invariant-loop-byte l = l.out.items ++ escaped_behind l.first l.second (drop l.byte-index l.text) ≡ l.initial.out.items ++ escaped l.text
