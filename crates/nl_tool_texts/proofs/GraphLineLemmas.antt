-- The parts of a line in quotes.
use Rattle.std.proofs.Common.{◌≡◌, ◌∙◌, ◌==◌, ◌+◌, ◌-◌, ℕ, List, None, Some, length, take, drop, ap, arith, option_map}
use Rattle.std.proofs.lemmas.List.{length-drop, take_all}
use Rattle.memchr.specs.Find.{IsFirstByte, is_byte}
use Rattle.nl_fields.proofs.SearchLemmas.{IsFirstByte-position}
use Rattle.nl_tool_texts.specs.GraphLine.{cut_at, to_quote}

-- what follows a byte, as a slice of the text
abbrev pub behind : ℕ → List ℕ → List ℕ
behind at bytes = take (length bytes - (at + 1)) (drop (at + 1) bytes)

-- what stands before the first quote, as a search finds it
pub to_quote_found : (tail : List ℕ) (at : ℕ) → IsFirstByte (is_byte 34) tail (Some at) → Some (take at tail, behind at tail) ≡ to_quote tail
to_quote_found tail at first =
    ap (λ (l : List ℕ). Some (take at tail, l)) (take_all (length tail - (at + 1)) (drop (at + 1) tail) (omega (arith, length-drop (at + 1) tail)))
    ∙ ap (option_map (cut_at tail)) (IsFirstByte-position (λ b. b == 34) tail (Some at) first)

pub to_quote_none : (tail : List ℕ) → IsFirstByte (is_byte 34) tail None → None ≡ to_quote tail
to_quote_none tail nowhere = ap (option_map (cut_at tail)) (IsFirstByte-position (λ b. b == 34) tail None nowhere)
