-- What a run of `next` shows is what the text shows.
use Rattle.std.proofs.Common.{◌≡◌, ◌+◌, ◌<◌, ◌∙◌, ℕ, List, [], ◌∷◌, ◌++◌, length, inl, inr, refl, sym, ap, subst, arith, length-append}
use Rattle.std.specs.Prelude.{Option, None, Some, Ok, map}
use Rattle.std.proofs.lemmas.Bool.{le-leb, lt-leb}
use Rattle.nl_lines.specs.Split.{with_newline, joined, lines_of, rest_of, whole_len}
use Rattle.nl_lines.specs.Lines.{Reader, IsReading, HasEnded, fresh, text_left, TakesLine, TakesRest, AnswersNext, Gives, max_line, lent_rest}
use Rattle.nl_lines.specs.Runs.{Shown, ALine, ALongLine, ARest, GivenInTurn, as_shown, line_shown, rest_shown, text_shown}
use Rattle.nl_lines.specs.declared.window.Phase.{Phase}
use Rattle.nl_lines.specs.declared.window.Phase.TheVariants.{Reading, Ended}
use Rattle.nl_lines.specs.declared.lines.Line.{Line}
use Rattle.nl_lines.specs.declared.lines.Line.TheVariants.{Whole, TooLong, Torn}
use Rattle.nl_lines.proofs.LinesLemmas.{TakesLine-text_left, TakesRest-text_left}

pub reading_not_ended : (p : Phase) → p ≡ Reading → p ≡ Ended → ⊥
reading_not_ended p reading ended = cc

-- what is shown of a text that stands after `at` bytes
abbrev shown_behind : ℕ → List ℕ → List Shown
shown_behind at text = map line_shown (lines_of text) ++ rest_shown (at + whole_len text) (rest_of text)

rest_shown-some : (at : ℕ) (rest : List ℕ) → 0 < length rest → rest_shown at rest ≡ ARest at (length rest) (lent_rest rest) ∷ []
rest_shown-some at [] some = absurd (omega arith)
rest_shown-some at (b ∷ rest) some = refl

-- no line comes after the end
pub ended_run : (lines : List Line) (s : Reader) (a : Option (List ℕ)) (last : Reader) (b : Option (List ℕ)) → HasEnded s
    → GivenInTurn s a lines last b → lines ≡ []
ended_run [] s a last b ended run = refl
ended_run (Whole bytes ∷ lines) s a last b ended run = absurd (reading_not_ended s.phase run.2.0.was ended)
ended_run (TooLong ∷ lines) s a last b ended run = absurd (reading_not_ended s.phase run.2.1.was ended)
ended_run (Torn at len bytes ∷ lines) s a last b ended run = absurd (reading_not_ended s.phase run.2.1.was ended)

module _ (s : Reader) (a : Option (List ℕ)) (t : Reader) (d : Option (List ℕ)) (text : List ℕ) (is : text_left s a ≡ Some text) where
  -- a line is shown, and then what is left
  behind_line : (line : List ℕ) (takes : TakesLine s a t d line)
      → (left : List ℕ) × (text_left t d ≡ Some left) × (shown_behind s.position text ≡ line_shown line ∷ shown_behind t.position left)
  behind_line line takes =
      let left = TakesLine-text_left s a t d line takes text is in
      let lens : whole_len text ≡ length (with_newline line) + whole_len left.0 =
      ap (λ (l : List (List ℕ)). length (joined l)) left.3 ∙ length-append (with_newline line) (joined (lines_of left.0)) in
      let places : s.position + whole_len text ≡ t.position + whole_len left.0 = omega (arith, lens, takes.position) in (
        left.0,
        left.1,
        ap (λ (l : List (List ℕ)). map line_shown l ++ rest_shown (s.position + whole_len text) (rest_of text)) left.3
            ∙ ap (λ (n : ℕ). line_shown line ∷ map line_shown (lines_of left.0) ++ rest_shown n (rest_of text)) places
            ∙ ap (λ (r : List ℕ). line_shown line ∷ map line_shown (lines_of left.0) ++ rest_shown (t.position + whole_len left.0) r)
            left.4,
      )

  -- the rest is all that is shown
  behind_rest : (rest : List ℕ) (takes : TakesRest s a t d rest) → shown_behind s.position text ≡ rest_shown s.position rest
  behind_rest rest takes =
      let left = TakesRest-text_left s a t d rest takes text is in
      let lens : whole_len text ≡ 0 = ap (λ (l : List (List ℕ)). length (joined l)) left.1 in
      ap (λ (l : List (List ℕ)). map line_shown l ++ rest_shown (s.position + whole_len text) (rest_of text)) left.1
      ∙ ap (λ (n : ℕ). rest_shown n (rest_of text)) {y = s.position} (omega (arith, lens)) ∙ ap (rest_shown s.position) left.2

run_shows : (lines : List Line) (s : Reader) (a : Option (List ℕ)) (text : List ℕ) (last : Reader) (b : Option (List ℕ)) (end : Reader)
    (c : Option (List ℕ)) → IsReading s → text_left s a ≡ Some text → GivenInTurn s a lines last b → Gives last b end c None
    → map as_shown lines ≡ shown_behind s.position text
run_shows [] s a text last b end c reading is run none =
    elim none [
      | inl takes ↦
          let here : TakesRest s a end c [] = subst (λ (r : Reader). TakesRest r a end c []) run.0
          (subst (λ (o : Option (List ℕ)). TakesRest last o end c []) run.1 takes) in
          sym (behind_rest s a end c text is [] here)
      | inr stays ↦ absurd (reading_not_ended s.phase reading (sym (ap (λ (r : Reader). r.phase) run.0) ∙ stays.0))
    ]
run_shows (Whole bytes ∷ lines) s a text last b end c reading is run none =
    let left = behind_line s a run.0 run.1 text is bytes.now run.2.0 in
    let line : line_shown bytes.now ≡ ALine bytes.now = rw (le-leb (length bytes.now) max_line run.2.1) refl in
    (λ i. sym line i ∷ run_shows lines run.0 run.1 left.0 last b end c run.2.0.is left.1 run.3 none i) ∙ sym left.2
run_shows (TooLong ∷ lines) s a text last b end c reading is run none =
    let left = behind_line s a run.0 run.1 text is run.2.0 run.2.1 in
    let line : line_shown run.2.0 ≡ ALongLine = rw (lt-leb (length run.2.0) max_line run.2.2) refl in
    (λ i. sym line i ∷ run_shows lines run.0 run.1 left.0 last b end c run.2.1.is left.1 run.3 none i) ∙ sym left.2
run_shows (Torn at len bytes ∷ lines) s a text last b end c reading is run none =
    let over : lines ≡ [] = ended_run lines run.0 run.1 last b run.2.1.is run.3 in
    let shown : ARest at len bytes.now ≡ ARest s.position (length run.2.0) (lent_rest run.2.0) =
    (λ i. ARest (run.2.3 i) (run.2.4 i) (run.2.5 i)) in
    (λ i. shown i ∷ map as_shown (over i)) ∙ sym (rest_shown-some s.position run.2.0 run.2.2)
    ∙ sym (behind_rest s a run.0 run.1 text is run.2.0 run.2.1)

pub run_of_text : (text : List ℕ) (lines : List Line) (last : Reader) (b : Option (List ℕ)) (end : Reader) (c : Option (List ℕ))
    → GivenInTurn fresh (Some text) lines last b → AnswersNext last b end c (Ok None) → map as_shown lines ≡ text_shown text
run_of_text text lines last b end c run none =
    run_shows lines fresh (Some text) text last b end c refl refl run none
    ∙ ap (λ (n : ℕ). map line_shown (lines_of text) ++ rest_shown n (rest_of text)) {y = whole_len text} (omega arith)
