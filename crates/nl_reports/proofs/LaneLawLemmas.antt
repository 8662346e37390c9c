-- No lane holds two commands at one time, and there are no more lanes than commands that run at one time.
use Rattle.std.proofs.Common.{◌≡◌, ℕ, zero, suc, ◌+◌, ◌<◌, ◌≤◌, cond, true, List, [], ◌∷◌, ◌++◌, length, get_or, take, refl, sym, ap, subst, arith, append_assoc, append-nil, inl, inr}
use Rattle.std.specs.Prelude.{count_by, nat_lt}
use Rattle.std.proofs.lemmas.Bool.Decides.{leb_tells, nat_tests}
use Rattle.std.proofs.lemmas.List.Sums.{sum_by-cons, sum_by_push}
use Rattle.nl_reports.specs.declared.moments.Span.{Span}
use Rattle.nl_reports.specs.Spans.{closed_of}
use Rattle.nl_reports.specs.Sweep.{runs_at}
use Rattle.nl_reports.specs.Lanes.{Begin, first_free, given, lanes_from}
use Rattle.nl_reports.proofs.LaneLemmas.{free_within}

-- ---- a lane is given again once its last command has ended

free_is : (at : ℕ) (ends : List ℕ) → first_free at ends < length ends → get_or ends (first_free at ends) 0 ≤ at
free_is at [] within = absurd (omega arith)
free_is at (e ∷ ends) within =
    elim (leb_tells e at) [
      | inl h ↦ rw h.0 h.1
      | inr h ↦ rw h.0 (free_is at ends (omega (arith, (rw h.0 at within))))
    ]

given_at : (ends : List ℕ) (lane end : ℕ) → lane ≤ length ends → get_or (given lane end ends) lane 0 ≡ end
given_at [] zero end within = refl
given_at [] (suc lane) end within = absurd (omega (arith, within))
given_at (e ∷ ends) zero end within = refl
given_at (e ∷ ends) (suc lane) end within = given_at ends lane end (omega (arith, within))

given_length : (ends : List ℕ) (lane end : ℕ) → lane ≤ length ends → lane < length (given lane end ends)
given_length [] lane end within = omega (arith, within)
given_length (e ∷ ends) zero end within = omega arith
given_length (e ∷ ends) (suc lane) end within = omega (arith, given_length ends lane end (omega (arith, within)))

given_longer : (ends : List ℕ) (lane end : ℕ) → length ends ≤ length (given lane end ends)
given_longer [] lane end = omega arith
given_longer (e ∷ ends) zero end = omega arith
given_longer (e ∷ ends) (suc lane) end = omega (arith, given_longer ends lane end)

-- the end of a lane doesn't fall, where it is given to a command that ends behind it
given_up : (ends : List ℕ) (lane end k : ℕ) → k < length ends → (lane ≡ k → get_or ends k 0 ≤ end)
    → get_or ends k 0 ≤ get_or (given lane end ends) k 0
given_up [] lane end k within up = absurd (omega (arith, within))
given_up (e ∷ ends) zero end zero within up = up refl
given_up (e ∷ ends) zero end (suc k) within up = omega arith
given_up (e ∷ ends) (suc lane) end zero within up = omega arith
given_up (e ∷ ends) (suc lane) end (suc k) within up = given_up ends lane end k (omega (arith, within)) (λ is. up (ap suc is))

-- what has a lane begins no earlier than the lane's last command ended
later : (cs : List Span) (ends : List ℕ) (k j : ℕ) (d : Span) → k < length ends → j < length cs
    → get_or (lanes_from ends cs) j 0 ≡ k → get_or ends k 0 ≤ (get_or cs j d).began
later [] ends k j d within there is = absurd (omega (arith, there))
later (c ∷ cs) ends k zero d within there is =
    subst (λ (l : ℕ). get_or ends l 0 ≤ c.began) is (free_is c.began ends (omega (arith, is, within)))
later (c ∷ cs) ends k (suc j) d within there is =
    let lane = first_free c.began ends in
    let up : get_or ends k 0 ≤ get_or (given lane (closed_of c) ends) k 0 = given_up ends lane (closed_of c) k within
    (λ same.
    let free : get_or ends k 0 ≤ c.began = subst (λ (l : ℕ). get_or ends l 0 ≤ c.began) same (free_is c.began ends (omega (arith, same, within))) in
    omega (arith, free)) in
    let rest = later cs (given lane (closed_of c) ends) k j d (omega (arith, given_longer ends lane (closed_of c), within)) (omega (arith, there)) is in
    omega (arith, up, rest)

-- of two commands in one lane the one has ended as the other begins
pub apart : (cs : List Span) (ends : List ℕ) (i j : ℕ) (d : Span) → i < j → j < length cs
    → get_or (lanes_from ends cs) i 0 ≡ get_or (lanes_from ends cs) j 0 → closed_of (get_or cs i d) ≤ (get_or cs j d).began
apart [] ends i j d order there same = absurd (omega (arith, there))
apart (c ∷ cs) ends i zero d order there same = absurd (omega (arith, order))
apart (c ∷ cs) ends zero (suc j) d order there same =
    let lane = first_free c.began ends in
    let new = given lane (closed_of c) ends in
    let within = free_within c.began ends in
    let rest = later cs new lane j d (given_length ends lane (closed_of c) within) (omega (arith, there)) (sym same) in
    subst (λ (e : ℕ). e ≤ (get_or cs j d).began) (given_at ends lane (closed_of c) within) rest
apart (c ∷ cs) ends (suc i) (suc j) d order there same =
    apart cs (given (first_free c.began ends) (closed_of c) ends) i j d (omega (arith, order)) (omega (arith, there)) same

pub never_both : (a b : Span) (t : ℕ) → closed_of a ≤ b.began → runs_at t a ≡ true → runs_at t b ≡ true → ⊥
never_both a b t before first second = grind (arith, nat_tests)

-- ---- a new lane is for a command beside which so many run

abbrev busy_at : ℕ → List ℕ → ℕ
busy_at t ends = count_by (λ e. nat_lt t e) ends

free_count : (at : ℕ) (ends : List ℕ) → first_free at ends ≤ busy_at at ends
free_count at [] = omega arith
free_count at (e ∷ ends) =
    let rest = free_count at ends in
    let more = sum_by-cons (λ (x : ℕ). cond (nat_lt at x) 1 0) e ends in
    elim (leb_tells e at) [
      | inl h ↦ rw h.0 (omega arith)
      | inr h ↦
          let one : ◌≡◌ {A = ℕ} (cond (nat_lt at e) 1 0) 1 = grind (arith, nat_tests) in
          rw h.0 (omega (arith, rest, more, one))
    ]

given_count : (t : ℕ) (ends : List ℕ) (lane end : ℕ) → busy_at t (given lane end ends) ≤ busy_at t ends + cond (nat_lt t end) 1 0
given_count t [] lane end = omega (arith, sum_by-cons (λ (x : ℕ). cond (nat_lt t x) 1 0) end [])
given_count t (e ∷ ends) zero end =
    omega (arith, sum_by-cons (λ (x : ℕ). cond (nat_lt t x) 1 0) end ends, sum_by-cons (λ (x : ℕ). cond (nat_lt t x) 1 0) e ends)
given_count t (e ∷ ends) (suc lane) end =
    omega (
      arith,
      given_count t ends lane end,
      sum_by-cons (λ (x : ℕ). cond (nat_lt t x) 1 0) e ends,
      sum_by-cons (λ (x : ℕ). cond (nat_lt t x) 1 0) e (given lane end ends),
    )

runs_then : (t : ℕ) (c : Span) → c.began ≤ t → ◌≤◌ (cond (nat_lt t (closed_of c)) 1 0) (cond (runs_at t c) 1 0)
runs_then t c begun = grind (arith, nat_tests)

pub few : (cs : List Span) (ends : List ℕ) (past : List Span) (at i : ℕ) (d : Span)
    → ((t : ℕ) → at ≤ t → busy_at t ends ≤ count_by (runs_at t) past)
    → ((k : ℕ) → k < length cs → at ≤ (get_or cs k d).began)
    → Begin cs → i < length cs → get_or (lanes_from ends cs) i 0 ≤ count_by (runs_at (get_or cs i d).began) (past ++ take i cs)
few [] ends past at i d counted begins order within = absurd (omega (arith, within))
few (c ∷ cs) ends past at zero d counted begins order within =
    let first = free_count c.began ends in
    let all = counted c.began (begins 0 (omega arith)) in
    subst (λ (l : List Span). first_free c.began ends ≤ count_by (runs_at c.began) l) (sym (append-nil past)) (omega (arith, first, all))
few (c ∷ cs) ends past at (suc i) d counted begins order within =
    let lane = first_free c.began ends in
    subst (λ (l : List Span). get_or (lanes_from (given lane (closed_of c) ends) cs) i 0 ≤ count_by (runs_at (get_or cs i d).began) l)
    (append_assoc past (c ∷ []) (take i cs))
    (few cs (given lane (closed_of c) ends) (past ++ c ∷ []) c.began i d
    (λ t after. omega (
      arith,
      given_count t ends lane (closed_of c),
      counted t (omega (arith, after, begins 0 (omega arith))),
      runs_then t c after,
      sum_by_push (λ (s : Span). cond (runs_at t s) 1 0) past c,
    ))
    (λ k there. order 0 (suc k) d (omega arith) (omega (arith, there)))
    (λ k l e le there. order (suc k) (suc l) e (omega (arith, le)) (omega (arith, there)))
    (omega (arith, within)))
