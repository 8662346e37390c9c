use Rattle.std.proofs.Common.{◌≡◌, ◌++◌, ℕ, List, length}
use Rattle.std.specs.Io.KnownBytes.{Appends}
use Rattle.nl_tool_texts.proofs.text.write_out.Given as goal

-- a prefix of the text stands in the writer, and the rest is still to be written
abbrev pub invariant-loop-rest : goal.invariant-loop-rest
invariant-loop-rest g l = (prefix : List ℕ) × (l.fn.text ≡ prefix ++ l.rest)
    × Appends (g.W.Write.contents l.fn.writer) (g.W.Write.contents l.writer) prefix

abbrev pub decreases-loop-rest : goal.decreases-loop-rest
decreases-loop-rest g l = length l.rest
