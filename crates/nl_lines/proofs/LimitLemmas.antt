-- A run of `next` ends well exactly where the text is within the limit.
use Rattle.std.proofs.Common.{◌≡◌, ◌+◌, ◌<◌, ◌≤◌, ◌∙◌, ℕ, List, [], ◌∷◌, length, inl, inr, refl, sym, ap, subst, arith, length-append}
use Rattle.std.specs.Prelude.{Option, None, Some}
use Rattle.nl_lines.specs.Lines.{Reader, IsReading, HasEnded, fresh, text_left, TakesLine, TakesRest, Gives, Refuses, PassesLimit, max_log}
use Rattle.nl_lines.specs.Runs.{GivenInTurn}
use Rattle.nl_lines.specs.declared.lines.Line.{Line}
use Rattle.nl_lines.specs.declared.lines.Line.TheVariants.{Whole, TooLong, Torn}
use Rattle.nl_lines.specs.declared.lines.LineFault.TheVariants.{TooLarge}
use Rattle.nl_lines.proofs.LinesLemmas.{TakesLine-text_left, TakesRest-text_left, PassesLimit-text_left}
use Rattle.nl_lines.proofs.RunLemmas.{reading_not_ended}

-- the text after a line ends where the text did
behind_line : (s : Reader) (a : Option (List ℕ)) (t : Reader) (d : Option (List ℕ)) (line : List ℕ)
    → TakesLine s a t d line → (text : List ℕ) → text_left s a ≡ Some text
    → (left : List ℕ) × (text_left t d ≡ Some left) × (s.position + length text ≡ t.position + length left)
behind_line s a t d line takes text is =
    let left = TakesLine-text_left s a t d line takes text is in
    (left.0, left.1, omega (arith, takes.position, ap length left.2, length-append line (10 ∷ left.0), length-append line (10 ∷ [])))

ended_last : (lines : List Line) (s : Reader) (a : Option (List ℕ)) (last : Reader) (b : Option (List ℕ)) → HasEnded s
    → GivenInTurn s a lines last b → HasEnded last
ended_last [] s a last b ended run = ap (λ (r : Reader). r.phase) run.0 ∙ ended
ended_last (Whole bytes ∷ lines) s a last b ended run = absurd (reading_not_ended s.phase run.2.0.was ended)
ended_last (TooLong ∷ lines) s a last b ended run = absurd (reading_not_ended s.phase run.2.1.was ended)
ended_last (Torn at len bytes ∷ lines) s a last b ended run = absurd (reading_not_ended s.phase run.2.1.was ended)

run_within : (lines : List Line) (s : Reader) (a : Option (List ℕ)) (text : List ℕ) (last : Reader) (b : Option (List ℕ)) (end : Reader)
    (c : Option (List ℕ)) → IsReading s → text_left s a ≡ Some text → GivenInTurn s a lines last b → Gives last b end c None
    → s.position + length text ≤ max_log
run_within [] s a text last b end c reading is run none =
    elim none [
      | inl takes ↦
          let here : TakesRest s a end c [] = subst (λ (r : Reader). TakesRest r a end c []) run.0
          (subst (λ (o : Option (List ℕ)). TakesRest last o end c []) run.1 takes) in
          omega (arith, here.fits, ap length (TakesRest-text_left s a end c [] here text is).0)
      | inr stays ↦ absurd (reading_not_ended s.phase reading (sym (ap (λ (r : Reader). r.phase) run.0) ∙ stays.0))
    ]
run_within (Whole bytes ∷ lines) s a text last b end c reading is run none =
    let left = behind_line s a run.0 run.1 bytes.now run.2.0 text is in
    omega (arith, left.2, run_within lines run.0 run.1 left.0 last b end c run.2.0.is left.1 run.3 none)
run_within (TooLong ∷ lines) s a text last b end c reading is run none =
    let left = behind_line s a run.0 run.1 run.2.0 run.2.1 text is in
    omega (arith, left.2, run_within lines run.0 run.1 left.0 last b end c run.2.1.is left.1 run.3 none)
run_within (Torn at len bytes ∷ lines) s a text last b end c reading is run none =
    omega (arith, run.2.1.fits, ap length (TakesRest-text_left s a run.0 run.1 run.2.0 run.2.1 text is).0)

run_beyond : (lines : List Line) (s : Reader) (a : Option (List ℕ)) (text : List ℕ) (last : Reader) (b : Option (List ℕ)) (end : Reader)
    (c : Option (List ℕ)) → IsReading s → text_left s a ≡ Some text → GivenInTurn s a lines last b → Refuses last b end c TooLarge
    → max_log < s.position + length text
run_beyond [] s a text last b end c reading is run refuses =
    PassesLimit-text_left s a c
    (subst (λ (r : Reader). PassesLimit r a c) run.0 (subst (λ (o : Option (List ℕ)). PassesLimit last o c) run.1 refuses.1)) text is
run_beyond (Whole bytes ∷ lines) s a text last b end c reading is run refuses =
    let left = behind_line s a run.0 run.1 bytes.now run.2.0 text is in
    omega (arith, left.2, run_beyond lines run.0 run.1 left.0 last b end c run.2.0.is left.1 run.3 refuses)
run_beyond (TooLong ∷ lines) s a text last b end c reading is run refuses =
    let left = behind_line s a run.0 run.1 run.2.0 run.2.1 text is in
    omega (arith, left.2, run_beyond lines run.0 run.1 left.0 last b end c run.2.1.is left.1 run.3 refuses)
run_beyond (Torn at len bytes ∷ lines) s a text last b end c reading is run refuses =
    absurd (reading_not_ended last.phase refuses.0.was (ended_last lines run.0 run.1 last b run.2.1.is run.3))

pub run_of_text_within : (text : List ℕ) (lines : List Line) (last : Reader) (b : Option (List ℕ)) (end : Reader) (c : Option (List ℕ))
    → GivenInTurn fresh (Some text) lines last b → Gives last b end c None → length text ≤ max_log
run_of_text_within text lines last b end c run none = omega (arith, run_within lines fresh (Some text) text last b end c refl refl run none)

pub run_of_text_beyond : (text : List ℕ) (lines : List Line) (last : Reader) (b : Option (List ℕ)) (end : Reader) (c : Option (List ℕ))
    → GivenInTurn fresh (Some text) lines last b → Refuses last b end c TooLarge → max_log < length text
run_of_text_beyond text lines last b end c run refuses =
    omega (arith, run_beyond lines fresh (Some text) text last b end c refl refl run refuses)
