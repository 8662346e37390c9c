-- How little is left over where shares don't come out even.
use Rattle.std.proofs.Common.{◌≡◌, ◌∙◌, ℕ, zero, suc, ◌-◌, ◌*◌, ◌≤◌, false, List, [], ◌∷◌}
use Rattle.std.proofs.Common.{refl, sym, arith, inl, inr}
use Rattle.std.specs.Prelude.{if◌then◌else◌}
use Rattle.std.specs.List.{All, sum_by}
use Rattle.std.proofs.lemmas.Bool.{cases_lt}
use Rattle.std.proofs.lemmas.Bool.Decides.{eqb_tells, nat_tests}
use Rattle.std.proofs.lemmas.List.Elements.{All-head, All-tail}
use Rattle.std.proofs.lemmas.List.Sums.{sum_by-cons}
use Rattle.nl_reports.specs.declared.moments.Span.{Span}
use Rattle.nl_reports.specs.Sweep.{before, runs_at, running, left_of, last_moment, left_over}
use Rattle.nl_reports.proofs.SweepLemmas.{before-same, before-swap, before-within, counted}
use Rattle.nl_reports.proofs.SharesLemmas.{before-beyond, below_last}

pub before-below : (f g : ℕ → ℕ) (n : ℕ) → ((t : ℕ) → f t ≤ g t) → before f n ≤ before g n
before-below f g zero under = omega arith
before-below f g (suc n) under = omega (arith, before-below f g n under, under n)

before-one : (n : ℕ) → before (λ t. 1) n ≡ n
before-one zero = refl
before-one (suc n) = omega (arith, before-one n)

left_of_below : (k : ℕ) → left_of k ≤ k
left_of_below k =
    elim (eqb_tells k 0) [
      | inl h ↦ grind (arith, nat_tests)
      | inr h ↦ rw h.0 (omega (arith, h.1))
    ]

-- a command runs at as many moments as it takes milliseconds
runs_for : (s : Span) (n : ℕ) → s.ended ≤ n → before (λ t. if runs_at t s then 1 else 0) n ≡ s.ended - s.began
runs_for s n within =
    elim (cases_lt s.began s.ended) [
      | inl h ↦ omega (arith, before-within (λ t. 1) s.began s.ended n (omega arith) within, before-one s.began, before-one s.ended)
      | inr h ↦ omega (arith, before-beyond (λ t. if runs_at t s then 1 else 0) 0 n (omega arith) (λ t after. never h t))
    ]
  where
    never : s.ended ≤ s.began → (t : ℕ) → ◌≡◌ {A = ℕ} (if runs_at t s then 1 else 0) 0
    never short t =
        let none : runs_at t s ≡ false = grind (arith, nat_tests) in
        rw none refl

times : (cs : List Span) (n : ℕ) → All (λ c. c.ended ≤ n) cs
    → sum_by (λ c. before (λ t. if runs_at t c then 1 else 0) n) cs ≡ sum_by (λ c. c.ended - c.began) cs
times [] n all = refl
times (c ∷ cs) n all =
    omega (
      arith,
      runs_for c n (All-head (λ (d : Span). d.ended ≤ n) c cs all),
      times cs n (All-tail (λ (d : Span). d.ended ≤ n) c cs all),
      sum_by-cons (λ (d : Span). before (λ t. if runs_at t d then 1 else 0) n) c cs,
      sum_by-cons (λ (d : Span). d.ended - d.began) c cs,
    )

-- their times are how many run at each moment
pub total_is : (cs : List Span) → sum_by (λ c. c.ended - c.began) cs ≡ before (λ t. running cs t * 1) (last_moment cs)
total_is cs =
    let n = last_moment cs in
    sym (times cs n (below_last cs)) ∙ before-swap (λ c t. if runs_at t c then 1 else 0) cs n
    ∙ before-same (λ t. sum_by (λ c. if runs_at t c then 1 else 0) cs) (λ t. running cs t * 1) n (λ t. counted (runs_at t) 1 cs)

-- no more parts than the commands' times have milliseconds
pub little_left : (cs : List Span) → left_over cs ≤ sum_by (λ c. c.ended - c.began) cs
little_left cs =
    let n = last_moment cs in
    omega (
      arith,
      before-below (λ t. left_of (running cs t)) (λ t. running cs t * 1) n (λ t. omega (arith, left_of_below (running cs t))),
      total_is cs,
    )
