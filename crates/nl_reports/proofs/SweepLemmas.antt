-- Sums over moments, and the weighted times of commands.
use Rattle.std.proofs.Common.{◌≡◌, ◌∙◌, ℕ, zero, suc, ◌+◌, ◌*◌, ◌<◌, ◌≤◌, ◌&&◌, Bool, true, false, cond, List, [], ◌∷◌}
use Rattle.std.proofs.Common.{refl, sym, ap, arith, inl, inr, add-zero, add-suc}
use Rattle.std.specs.Prelude.{if◌then◌else◌, count_by, nat_le, nat_lt}
use Rattle.std.specs.List.{sum_by}
use Rattle.std.proofs.lemmas.Bool.{cases_lt}
use Rattle.std.proofs.lemmas.Bool.Decides.{nat_tests, eqb_tells}
use Rattle.std.proofs.lemmas.List.Sums.{sum_by-cons}
use Rattle.nl_reports.specs.declared.moments.Span.{Span}
use Rattle.nl_reports.specs.Sweep.{before, runs_at, running, parts, share_of, left_of, any_of, last_moment, busy_time, weight, left_over}

-- ---- sums over moments

pub before-same : (f g : ℕ → ℕ) (n : ℕ) → ((t : ℕ) → f t ≡ g t) → before f n ≡ before g n
before-same f g zero same = refl
before-same f g (suc n) same = omega (arith, before-same f g n same, same n)

pub before-plus : (f g : ℕ → ℕ) (n : ℕ) → before (λ t. f t + g t) n ≡ before f n + before g n
before-plus f g zero = refl
before-plus f g (suc n) = omega (arith, before-plus f g n)

pub before-times : (k : ℕ) (f : ℕ → ℕ) (n : ℕ) → before (λ t. k * f t) n ≡ k * before f n
before-times k f zero = omega arith
before-times k f (suc n) = omega (arith, before-times k f n)

pub before-zero : (n : ℕ) → before (λ t. 0) n ≡ 0
before-zero zero = refl
before-zero (suc n) = omega (arith, before-zero n)

-- the sum over some moments at which the function is the same
pub before-constant : (f : ℕ → ℕ) (at n v : ℕ) → ((t : ℕ) → at ≤ t → t < at + n → f t ≡ v) → before f (at + n) ≡ before f at + n * v
before-constant f at zero v same = rw add-zero (omega arith)
before-constant f at (suc n) v same =
    let rest : before f (at + n) ≡ before f at + n * v = before-constant f at n v (λ t low high. same t low (omega arith)) in
    let here : f (at + n) ≡ v = same (at + n) (omega arith) (omega arith) in
    let next : before f (at + suc n) ≡ before f (at + n) + f (at + n) = rw add-suc refl in
    omega (arith, rest, here, next)

-- sums over commands of sums over moments
pub before-swap : (g : Span → ℕ → ℕ) (cs : List Span) (n : ℕ)
    → sum_by (λ c. before (g c) n) cs ≡ before (λ t. sum_by (λ c. g c t) cs) n
before-swap g [] n = sym (before-zero n)
before-swap g (c ∷ cs) n =
    sum_by-cons (λ (d : Span). before (g d) n) c cs ∙ ap (λ (k : ℕ). before (g c) n + k) (before-swap g cs n)
    ∙ sym (before-same (λ t. sum_by (λ d. g d t) (c ∷ cs)) (λ t. g c t + sum_by (λ d. g d t) cs) n
    (λ t. sum_by-cons (λ (d : Span). g d t) c cs) ∙ before-plus (g c) (λ t. sum_by (λ d. g d t) cs) n)

-- each of those that pass a test counts for as much
pub counted : (p : Span → Bool) (v : ℕ) (cs : List Span) → sum_by (λ c. if p c then v else 0) cs ≡ count_by p cs * v
counted p v [] = omega arith
counted p v (c ∷ cs) =
    sum_by-cons (λ (d : Span). if p d then v else 0) c cs ∙ go (p c) (counted p v cs)
    ∙ ap (λ (k : ℕ). k * v) (sym (sum_by-cons (λ (d : Span). cond (p d) 1 0) c cs))
  where
    go : (b : Bool) → sum_by (λ d. if p d then v else 0) cs ≡ count_by p cs * v
        → (if b then v else 0) + sum_by (λ d. if p d then v else 0) cs ≡ (cond b 1 0 + count_by p cs) * v
    go true rest = omega (arith, rest)
    go false rest = omega (arith, rest)

-- the shares of a millisecond and what is left of it
shared : (k : ℕ) → k * share_of k + left_of k ≡ parts * any_of k
shared k =
    elim (eqb_tells k 0) [
      | inl h ↦ grind (arith, nat_tests)
      | inr h ↦ rw h.0 (omega (arith, h.1))
    ]

-- the weighted times and what is left over add up to the time in which one command at least runs
pub weights_add_up : (cs : List Span) → sum_by (weight cs) cs + left_over cs ≡ parts * busy_time cs
weights_add_up cs =
    let n = last_moment cs in
    let share : ℕ → ℕ = λ t. share_of (running cs t) in
    let swapped = before-swap (λ c t. if runs_at t c then share_of (running cs t) else 0) cs n in
    let counts = before-same (λ t. sum_by (λ c. if runs_at t c then share_of (running cs t) else 0) cs)
    (λ t. running cs t * share_of (running cs t)) n (λ t. counted (runs_at t) (share_of (running cs t)) cs) in
    ap (λ (k : ℕ). k + left_over cs) (swapped ∙ counts)
    ∙ sym (before-plus (λ t. running cs t * share_of (running cs t)) (λ t. left_of (running cs t)) n)
    ∙ before-same (λ t. running cs t * share_of (running cs t) + left_of (running cs t)) (λ t. parts * any_of (running cs t)) n
    (λ t. shared (running cs t)) ∙ before-times parts (λ t. any_of (running cs t)) n

-- no more is left over than the commands' own times
left_of_below : (k : ℕ) → left_of k ≤ k
left_of_below k =
    elim (eqb_tells k 0) [
      | inl h ↦ grind (arith, nat_tests)
      | inr h ↦ rw h.0 (omega (arith, h.1))
    ]

-- the weight of a command is the difference of the shares before its end and before its beginning
pub before-within : (f : ℕ → ℕ) (low high n : ℕ) → low ≤ high → high ≤ n
    → before (λ t. if nat_le low t && nat_lt t high then f t else 0) n + before f low ≡ before f high
before-within f low high n order within = go n within
  where
    upto : (n : ℕ) → n ≤ low → before (λ t. if nat_le low t && nat_lt t high then f t else 0) n ≡ 0
    upto zero le = refl
    upto (suc n) le =
        let none : nat_le low n ≡ false = grind (arith, nat_tests) in
        rw none (omega (arith, upto n (omega arith)))

    middle : (n : ℕ) → low ≤ n → n ≤ high → before (λ t. if nat_le low t && nat_lt t high then f t else 0) n + before f low ≡ before f n
    middle zero le under = let same : low ≡ 0 = omega arith in rw same refl
    middle (suc n) le under =
        elim (cases_lt n low) [
          | inr h ↦
              let first : nat_le low n ≡ true = grind (arith, nat_tests) in
              let second : nat_lt n high ≡ true = grind (arith, nat_tests) in
              rw (first, second) (omega (arith, middle n h (omega arith)))
          | inl h ↦
              let same : low ≡ suc n = omega arith in
              omega (arith, upto (suc n) (omega arith), ap (before f) same)
        ]

    go : (n : ℕ) → high ≤ n → before (λ t. if nat_le low t && nat_lt t high then f t else 0) n + before f low ≡ before f high
    go zero le = middle zero (omega arith) (omega arith) ∙ (let same : high ≡ 0 = omega arith in rw same refl)
    go (suc n) le =
        elim (cases_lt n high) [
          | inr h ↦
              let first : nat_le low n ≡ true = grind (arith, nat_tests) in
              let none : nat_lt n high ≡ false = grind (arith, nat_tests) in
              rw (first, none) (omega (arith, go n h))
          | inl h ↦
              let same : high ≡ suc n = omega arith in
              middle (suc n) (omega arith) (omega arith) ∙ ap (before f) (sym same)
        ]
