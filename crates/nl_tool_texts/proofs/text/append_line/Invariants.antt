use Rattle.std.proofs.Common.{◌≡◌, ◌++◌, drop, map}
use Rattle.nl_tool_texts.specs.Texts.{fields_text, line, part_text}
use Rattle.nl_tool_texts.proofs.text.append_line.Given as goal

-- what is appended, and what is left of the fields
abbrev pub invariant-loop-field : goal.invariant-loop-field
invariant-loop-field l = l.out.items ++ fields_text l.before (map part_text (drop l.field-index l.fields)) ≡ l.initial.out.items ++ line (map part_text l.fields)
