use Rattle.std.proofs.Common.{◌≡◌, ◌++◌, drop}
use Rattle.nl_tool_texts.specs.Texts.{parts_text}
use Rattle.nl_tool_texts.proofs.text.append_parts.Given as goal

-- what is appended, and what is left of the parts
abbrev pub invariant-loop-part : goal.invariant-loop-part
invariant-loop-part l = l.out.items ++ parts_text (drop l.part-index l.parts) ≡ l.initial.out.items ++ parts_text l.parts
