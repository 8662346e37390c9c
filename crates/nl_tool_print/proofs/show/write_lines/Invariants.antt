use Rattle.std.proofs.Common.{◌≤◌, map, take, vec_capacity}
use Rattle.nl_fields.specs.EntryLine.{line_of}
use Rattle.nl_fields.specs.Limits.{max_entry_line}
use Rattle.nl_lines.specs.Split.{joined}
use Rattle.nl_tool_texts.specs.Writing.{HoldsAllBut}
use Rattle.nl_tool_print.proofs.show.write_lines.Given as goal

-- of the lines of the entries before the place, a prefix is written and the rest is held
abbrev pub invariant-loop-place : goal.invariant-loop-place
invariant-loop-place g l = (max_entry_line ≤ vec_capacity l.piece) × (vec_capacity l.fn.piece ≤ vec_capacity l.piece)
    × HoldsAllBut (g.W.Write.contents l.fn.writer) (g.W.Write.contents l.writer) (joined (map line_of (take l.place l.table))) l.piece.items
