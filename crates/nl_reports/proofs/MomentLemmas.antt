-- How many commands run at a moment, by when they began and ended, each in order.
use Rattle.std.proofs.Common.{◌≡◌, ℕ, zero, suc, ◌+◌, ◌-◌, ◌<◌, ◌≤◌, max, cond, List, [], ◌∷◌, length, map, get_or, refl, arith}
use Rattle.std.specs.Prelude.{count_by, nat_le}
use Rattle.std.proofs.lemmas.Bool.Decides.{nat_tests}
use Rattle.std.proofs.lemmas.List.Sums.{sum_by-cons}
use Rattle.std.proofs.lemmas.List.Sorted.{sum_by-IsPermutation}
use Rattle.nl_reports.specs.declared.moments.Span.{Span}
use Rattle.nl_reports.specs.Sweep.{running, runs_at}
use Rattle.nl_reports.specs.SweepSteps.{Rises}
use Rattle.nl_reports.specs.Spans.{began_of, closed_of}
use Rattle.nl_reports.specs.declared.moments.Moments.{Moments}
use Rattle.nl_reports.specs.Moments.{AreMoments}

-- those that have begun run or are over
pub count_begun : (cs : List Span) (t : ℕ) → count_by (λ s. nat_le s t) (map began_of cs)
    ≡ count_by (runs_at t) cs + count_by (λ e. nat_le e t) (map closed_of cs)
count_begun [] t = refl
count_begun (c ∷ cs) t =
    let rest = count_begun cs t in
    let one : ◌≡◌ {A = ℕ} (cond (nat_le c.began t) 1 0) (cond (runs_at t c) 1 0 + cond (nat_le (max c.began c.ended) t) 1 0) = grind (arith, nat_tests) in
    omega (
      arith,
      rest,
      one,
      sum_by-cons (λ (s : ℕ). cond (nat_le s t) 1 0) (began_of c) (map began_of cs),
      sum_by-cons (λ (d : Span). cond (runs_at t d) 1 0) c cs,
      sum_by-cons (λ (e : ℕ). cond (nat_le e t) 1 0) (closed_of c) (map closed_of cs),
    )

pub running_is : (cs : List Span) (m : Moments) (t : ℕ) → AreMoments cs m
    → count_by (λ s. nat_le s t) m.starts.items - count_by (λ e. nat_le e t) m.ends.items ≡ running cs t
running_is cs m t are = omega (
  arith,
  count_begun cs t,
  sum_by-IsPermutation (λ (s : ℕ). cond (nat_le s t) 1 0) (map began_of cs) m.starts.items are.starts,
  sum_by-IsPermutation (λ (e : ℕ). cond (nat_le e t) 1 0) (map closed_of cs) m.ends.items are.ends,
)

-- so many are at a moment or before, if those before a place are and the others aren't
pub counted_up_to : (xs : List ℕ) (place at : ℕ) → place ≤ length xs → ((k : ℕ) → k < place → get_or xs k 0 ≤ at)
    → ((k : ℕ) → place ≤ k → k < length xs → at < get_or xs k 0) → count_by (λ m. nat_le m at) xs ≡ place
counted_up_to [] place at within before after = omega (arith, within)
counted_up_to (x ∷ xs) zero at within before after =
    let later : at < x = after 0 (omega arith) (omega arith) in
    let none : ◌≡◌ {A = ℕ} (cond (nat_le x at) 1 0) 0 = grind (arith, nat_tests) in
    omega (
      arith,
      none,
      sum_by-cons (λ (m : ℕ). cond (nat_le m at) 1 0) x xs,
      counted_up_to xs zero at (omega arith) (λ k below. absurd (omega (arith, below))) (λ k above there. after (suc k) (omega arith) (omega (arith, there))),
    )
counted_up_to (x ∷ xs) (suc place) at within before after =
    let earlier : x ≤ at = before 0 (omega arith) in
    let one : ◌≡◌ {A = ℕ} (cond (nat_le x at) 1 0) 1 = grind (arith, nat_tests) in
    omega (
      arith,
      one,
      sum_by-cons (λ (m : ℕ). cond (nat_le m at) 1 0) x xs,
      counted_up_to xs place at (omega (arith, within)) (λ k below. before (suc k) (omega (arith, below)))
          (λ k above there. after (suc k) (omega (arith, above)) (omega (arith, there))),
    )

-- they end at a place if the moment before it is, and the one at it isn't
pub ends_before : (xs : List ℕ) (place at : ℕ) → Rises xs → place ≤ length xs → (0 < place → get_or xs (place - 1) 0 ≤ at)
    → (k : ℕ) → k < place → get_or xs k 0 ≤ at
ends_before xs place at rise within last k below =
    omega (arith, last (omega (arith, below)), rise.order k (place - 1) (omega (arith, below)) (omega (arith, within, below)))

pub begins_after : (xs : List ℕ) (place at : ℕ) → Rises xs → (place < length xs → at < get_or xs place 0)
    → (k : ℕ) → place ≤ k → k < length xs → at < get_or xs k 0
begins_after xs place at rise first k above there =
    omega (arith, first (omega (arith, above, there)), rise.order place k above there)
