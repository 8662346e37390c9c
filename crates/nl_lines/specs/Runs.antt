-- What calls of `next` show of a text, one after another.
use Rattle.std.specs.Prelude.{ℕ, ◌≡◌, List, [], ◌∷◌, ◌++◌, length, map, nat_le, if◌then◌else◌, Option, Some, Ok}
use Rattle.nl_lines.specs.Split.{lines_of, rest_of, whole_len}
use Rattle.nl_lines.specs.Lines.{Reader, AnswersNext, lent_rest, max_line}
use Rattle.nl_lines.specs.declared.lines.Line.{Line}
use Rattle.nl_lines.specs.declared.lines.Line.TheVariants.{Whole, TooLong, Torn}

-- a line as it is shown
pub data Shown : Type 0 where
  ALine : List ℕ → Shown
  ALongLine : Shown
  ARest : ℕ → ℕ → List ℕ → Shown

-- what a line that `next` gave shows
abbrev pub as_shown : Line → Shown
as_shown (Whole bytes) = ALine bytes.now
as_shown TooLong = ALongLine
as_shown (Torn at len bytes) = ARest at len bytes.now

-- how a line of a text is shown
abbrev pub line_shown : List ℕ → Shown
line_shown line = if nat_le (length line) max_line then ALine line else ALongLine

-- of a rest that stands after `at` bytes; an empty one isn't shown
abbrev pub rest_shown : ℕ → List ℕ → List Shown
rest_shown at [] = []
rest_shown at (b ∷ rest) = ARest at (length (b ∷ rest)) (lent_rest (b ∷ rest)) ∷ []

-- what is shown of a text: its lines in order, and then its rest
abbrev pub text_shown : List ℕ → List Shown
text_shown text = map line_shown (lines_of text) ++ rest_shown (whole_len text) (rest_of text)

-- calls of `next`, over one source that nothing else reads, gave these lines
abbrev pub GivenInTurn : Reader → Option (List ℕ) → List Line → Reader → Option (List ℕ) → Type 0
GivenInTurn old a [] new b = (new ≡ old) × (b ≡ a)
GivenInTurn old a (line ∷ lines) new b =
    (next : Reader) × (ahead : Option (List ℕ)) × AnswersNext old a next ahead (Ok (Some line)) × GivenInTurn next ahead lines new b
