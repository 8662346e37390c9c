-- The points of a curve, and the lines of an axis, one by one.
use Rattle.std.proofs.Common.{◌≡◌, ◌∙◌, ℕ, suc, ◌+◌, ◌*◌, List, ◌++◌, sym, ap, arith, append_assoc, append-nil, refl}
use Rattle.nl_reports.specs.declared.moments.Span.{Span}
use Rattle.nl_reports.specs.Curve.{point, points}
use Rattle.nl_reports.specs.Ticks.{tick, ticks_of}
use Rattle.nl_reports.specs.declared.frame.Frame.{Frame}

pub no_points : (f : Frame) (cs : List Span) (front : List ℕ) → front ≡ front ++ points f cs 0
unfolding points
no_points f cs front = sym (append-nil front)

points_next : (f : Frame) (cs : List Span) (i : ℕ) → points f cs (suc i) ≡ points f cs i ++ point f cs i
unfolding points
points_next f cs i = refl

pub one_more_point : (f : Frame) (cs : List Span) (i : ℕ) (front old new : List ℕ) → old ≡ front ++ points f cs i → new ≡ old ++ point f cs i
    → new ≡ front ++ points f cs (i + 1)
one_more_point f cs i front old new before more =
    let next : i + 1 ≡ suc i = omega arith in
    more ∙ ap (λ (l : List ℕ). l ++ point f cs i) before ∙ append_assoc front (points f cs i) (point f cs i)
    ∙ ap (λ (l : List ℕ). front ++ l) (sym (ap (points f cs) next ∙ points_next f cs i))

pub no_ticks : (f : Frame) (step : ℕ) (front : List ℕ) → front ≡ front ++ ticks_of f step 0
unfolding ticks_of
no_ticks f step front = sym (append-nil front)

ticks_next : (f : Frame) (step i : ℕ) → ticks_of f step (suc i) ≡ ticks_of f step i ++ tick f (i * step)
unfolding ticks_of
ticks_next f step i = refl

pub one_more_tick : (f : Frame) (step i : ℕ) (front old new : List ℕ) → old ≡ front ++ ticks_of f step i → new ≡ old ++ tick f (i * step)
    → new ≡ front ++ ticks_of f step (i + 1)
one_more_tick f step i front old new before more =
    let next : i + 1 ≡ suc i = omega arith in
    more ∙ ap (λ (l : List ℕ). l ++ tick f (i * step)) before ∙ append_assoc front (ticks_of f step i) (tick f (i * step))
    ∙ ap (λ (l : List ℕ). front ++ l) (sym (ap (ticks_of f step) next ∙ ticks_next f step i))
