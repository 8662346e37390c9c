-- The shares of commands, by their starts and ends in order.
use Rattle.std.proofs.Common.{◌≡◌, ◌∙◌, ℕ, zero, suc, ◌-◌, ◌<◌, ◌≤◌, ◌^◌, max, false, cond, List, [], ◌∷◌, length, map, get_or}
use Rattle.std.proofs.Common.{refl, sym, ap, arith, inl, inr}
use Rattle.std.specs.Prelude.{nat_le, if◌then◌else◌}
use Rattle.std.specs.List.{All, Contains, fold}
use Rattle.std.specs.List.Sorted.{IsPermutation}
use Rattle.std.proofs.lemmas.Bool.{cases_lt}
use Rattle.std.proofs.lemmas.Bool.Decides.{nat_tests}
use Rattle.std.proofs.lemmas.List.{get_or-map, length-map, take_all}
use Rattle.std.proofs.lemmas.List.Elements.{All-cons, All-contains, All-from_get_or, All-head, All-tail, All-weaker}
use Rattle.std.proofs.lemmas.List.Sorted.{All-permutation, Contains-permutation, IsPermutation-sym, sum_by-IsPermutation}
use Rattle.std.proofs.lemmas.List.Sums.{sum_by-cons}
use Rattle.nl_reports.specs.declared.moments.Span.{Span}
use Rattle.nl_reports.specs.declared.moments.Shares.{Shares}
use Rattle.nl_reports.specs.Sweep.{before, runs_at, running, share_of, any_of, alone_of, last_moment, busy_time, alone_time, most_at_once, weight}
use Rattle.nl_reports.specs.SweepSteps.{Rises, running_by, shares_before}
use Rattle.nl_reports.specs.Shares.{AreSharesOf}
use Rattle.nl_reports.specs.Spans.{began_of, closed_of}
use Rattle.nl_reports.proofs.MomentLemmas.{count_begun}
use Rattle.nl_reports.proofs.SweepLemmas.{before-same, before-within}

-- the greatest of some numbers of elements
module _ {A : Type 0} (f : A → ℕ) where
  upper : (xs : List A) (at : ℕ) → at ≤ fold (λ n x. max n (f x)) at xs
  upper [] at = omega arith
  upper (x ∷ xs) at = omega (arith, upper xs (max at (f x)))

  -- none is greater, and it is no greater than what is no less than each
  up_to_greatest : (xs : List A) (at : ℕ) → All (λ x. f x ≤ fold (λ n x. max n (f x)) at xs) xs
  up_to_greatest [] at = λ k d within. absurd (omega (arith, within))
  up_to_greatest (x ∷ xs) at =
      All-cons (λ (y : A). f y ≤ fold (λ n x. max n (f x)) (max at (f x)) xs) x xs (omega (arith, upper xs (max at (f x))))
      (up_to_greatest xs (max at (f x)))

  greatest_below : (xs : List A) (at n : ℕ) → at ≤ n → All (λ x. f x ≤ n) xs → fold (λ m x. max m (f x)) at xs ≤ n
  greatest_below [] at n under all = under
  greatest_below (x ∷ xs) at n under all =
      greatest_below xs (max at (f x)) n (omega (arith, under, All-head (λ (y : A). f y ≤ n) x xs all)) (All-tail (λ (y : A). f y ≤ n) x xs all)

  greatest-permutation : (xs ys : List A) → IsPermutation xs ys → fold (λ n x. max n (f x)) 0 ys ≡ fold (λ n x. max n (f x)) 0 xs
  greatest-permutation xs ys moved =
      let m = fold (λ n x. max n (f x)) 0 xs in
      let n = fold (λ n x. max n (f x)) 0 ys in
      omega (
        arith,
        greatest_below ys 0 m (omega arith) (All-permutation (λ (y : A). f y ≤ m) xs ys moved (up_to_greatest xs 0)),
        greatest_below xs 0 n (omega arith) (All-permutation (λ (y : A). f y ≤ n) ys xs (IsPermutation-sym xs ys moved) (up_to_greatest ys 0)),
      )

pub below_last : (cs : List Span) → All (λ c. c.ended ≤ last_moment cs) cs
below_last cs = up_to_greatest (λ (c : Span). c.ended) cs 0

last_below : (cs : List Span) (n : ℕ) → All (λ c. c.ended ≤ n) cs → last_moment cs ≤ n
last_below cs n all = greatest_below (λ (c : Span). c.ended) cs 0 n (omega arith) all

-- after it none runs
none_after : (cs : List Span) (t : ℕ) → All (λ c. c.ended ≤ t) cs → running cs t ≡ 0
none_after [] t all = refl
none_after (c ∷ cs) t all =
    let over : c.ended ≤ t = All-head (λ (d : Span). d.ended ≤ t) c cs all in
    let none : ◌≡◌ {A = ℕ} (cond (runs_at t c) 1 0) 0 = grind (arith, nat_tests) in
    omega (arith, none, none_after cs t (All-tail (λ (d : Span). d.ended ≤ t) c cs all), sum_by-cons (λ (d : Span). cond (runs_at t d) 1 0) c cs)

pub before-beyond : (f : ℕ → ℕ) (n m : ℕ) → n ≤ m → ((t : ℕ) → n ≤ t → f t ≡ 0) → before f m ≡ before f n
before-beyond f n zero order none = let same : n ≡ 0 = omega arith in ap (before f) (sym same)
before-beyond f n (suc m) order none =
    elim (cases_lt m n) [
      | inl h ↦ let same : suc m ≡ n = omega arith in ap (before f) same
      | inr h ↦ omega (arith, before-beyond f n m h none, none m h)
    ]

all_ended : (n : ℕ) (cs : List Span) → All (λ e. e ≤ n) (map closed_of cs) → All (λ c. c.ended ≤ n) cs
all_ended n [] all = λ k d within. absurd (omega (arith, within))
all_ended n (c ∷ cs) all =
    let first : max c.began c.ended ≤ n = All-head (λ (e : ℕ). e ≤ n) (closed_of c) (map closed_of cs) all in
    All-cons (λ (d : Span). d.ended ≤ n) c cs (omega arith)
    (all_ended n cs (All-tail (λ (e : ℕ). e ≤ n) (closed_of c) (map closed_of cs) all))

pub contains_map : {A B : Type 0} (f : A → B) (cs : List A) (c : A) → Contains cs c → Contains (map f cs) (f c)
contains_map f cs c among =
    (among.0, (rw length-map among.1), get_or-map f cs among.0 c (f c) among.1 ∙ ap f among.2)

get_or_past_default : (xs : List ℕ) (k d : ℕ) → k < length xs → get_or xs k 0 ≡ get_or xs k d
get_or_past_default [] k d within = absurd (omega (arith, within))
get_or_past_default (x ∷ xs) zero d within = refl
get_or_past_default (x ∷ xs) (suc k) d within = get_or_past_default xs k d (omega (arith, within))

module _ (cs : List Span) (s : Shares) (are : AreSharesOf cs s) where
  runs_as : (t : ℕ) → running_by s.moments.starts.items s.moments.ends.items t ≡ running cs t
  runs_as t = omega (
    arith,
    count_begun cs t,
    sum_by-IsPermutation (λ (m : ℕ). cond (nat_le m t) 1 0) (map began_of cs) s.moments.starts.items are.moments.starts,
    sum_by-IsPermutation (λ (m : ℕ). cond (nat_le m t) 1 0) (map closed_of cs) s.moments.ends.items are.moments.ends,
  )

  ends_by : All (λ c. c.ended ≤ s.sums.at) cs
  ends_by =
      let swept : All (λ (e : ℕ). e ≤ s.sums.at) s.moments.ends.items = All-from_get_or (λ (e : ℕ). e ≤ s.sums.at) s.moments.ends.items 0
      (λ k within. are.swept.has_ended k (omega (arith, are.ended))) in
      all_ended s.sums.at cs (All-permutation (λ (e : ℕ). e ≤ s.sums.at) s.moments.ends.items (map closed_of cs)
      (IsPermutation-sym (map closed_of cs) s.moments.ends.items are.moments.ends) swept)

  -- a sum over the moments that were gone over, where nothing counts while none runs
  gone_over : (f : ℕ → ℕ) → f 0 ≡ 0
      → before (λ t. f (running_by s.moments.starts.items s.moments.ends.items t)) s.sums.at ≡ before (λ t. f (running cs t)) (last_moment cs)
  gone_over f none =
      before-same (λ t. f (running_by s.moments.starts.items s.moments.ends.items t)) (λ t. f (running cs t)) s.sums.at (λ t. ap f (runs_as t))
      ∙ before-beyond (λ t. f (running cs t)) (last_moment cs) s.sums.at (last_below cs s.sums.at ends_by)
      (λ t after. ap f (none_after cs t
      (All-weaker (λ (c : Span). c.ended ≤ last_moment cs) (λ (c : Span). c.ended ≤ t) (λ c le. omega (arith, le, after)) cs (below_last cs))) ∙ none)

  pub busy_is : s.sums.busy ≡ busy_time cs
  busy_is = are.swept.sums.busy ∙ gone_over any_of refl

  pub alone_is : s.sums.alone ≡ alone_time cs
  alone_is = are.swept.sums.alone ∙ gone_over alone_of refl

  pub starts_shares : s.at_starts.items ≡ map (shares_before s.moments.starts.items s.moments.ends.items) s.moments.starts.items
  starts_shares = are.swept.at_starts ∙ ap (map (shares_before s.moments.starts.items s.moments.ends.items))
      (take_all (length s.at_starts.items) s.moments.starts.items (omega (arith, are.begun)))

  pub ends_shares : s.at_ends.items ≡ map (shares_before s.moments.starts.items s.moments.ends.items) s.moments.ends.items
  ends_shares = are.swept.at_ends ∙ ap (map (shares_before s.moments.starts.items s.moments.ends.items))
      (take_all (length s.at_ends.items) s.moments.ends.items (omega (arith, are.ended)))

  no_weight : (span : Span) → span.ended ≤ span.began → 0 ≡ weight cs span
  no_weight span short = sym (before-beyond (λ t. if runs_at t span then share_of (running cs t) else 0) 0 (last_moment cs) (omega arith)
      (λ t after. never t))
    where
      never : (t : ℕ) → (if runs_at t span then share_of (running cs t) else 0) ≡ 0
      never t =
          let none : runs_at t span ≡ false = grind (arith, nat_tests) in
          rw none refl

  module _ (span : Span) (among : Contains cs span) where
    pub start_there : Contains s.moments.starts.items span.began
    start_there = Contains-permutation (map began_of cs) s.moments.starts.items span.began are.moments.starts (contains_map began_of cs span among)

    pub end_there : Contains s.moments.ends.items (closed_of span)
    end_there = Contains-permutation (map closed_of cs) s.moments.ends.items (closed_of span) are.moments.ends (contains_map closed_of cs span among)

    while_runs : span.began < span.ended
        → shares_before s.moments.starts.items s.moments.ends.items span.ended - shares_before s.moments.starts.items s.moments.ends.items span.began ≡ weight cs span
    while_runs runs =
        let last : span.ended ≤ last_moment cs = All-contains (λ (c : Span). c.ended ≤ last_moment cs) cs span (below_last cs) among in
        let within = before-within (λ t. share_of (running cs t)) span.began span.ended (last_moment cs) (omega arith) last in
        let same = λ (n : ℕ). before-same (λ t. share_of (running_by s.moments.starts.items s.moments.ends.items t)) (λ t. share_of (running cs t)) n
        (λ t. ap share_of (runs_as t)) in
        omega (arith, within, same span.ended, same span.began)

    -- 0 where it ended before it began
    pub weight_is : shares_before s.moments.starts.items s.moments.ends.items (closed_of span) - shares_before s.moments.starts.items s.moments.ends.items span.began
        ≡ weight cs span
    weight_is =
        let f = shares_before s.moments.starts.items s.moments.ends.items in
        elim (cases_lt span.began span.ended) [
          | inl runs ↦
              let closed : closed_of span ≡ span.ended = grind arith in
              ap (λ (n : ℕ). f n - f span.began) closed ∙ while_runs runs
          | inr short ↦
              let closed : closed_of span ≡ span.began = grind arith in
              ap (λ (n : ℕ). f n - f span.began) closed ∙ omega (arith, no_weight span short)
        ]

-- ---- functions

pub rises : (sorted : List ℕ) → ((i j : ℕ) → i ≤ j → j < length sorted → get_or sorted i 0 ≤ get_or sorted j 0) → All (λ m. m ≤ 2 ^ 32) sorted → Rises sorted
rises sorted order early = record { order = order; early = λ i within. early i 0 within }

-- what stands before the place at which the moments up to this one end
pub found_share : (moments shares : List ℕ) (moment place : ℕ) (f : ℕ → ℕ) → Rises moments → shares ≡ map f moments → place ≤ length moments
    → ((k : ℕ) → k < place → get_or moments k 0 ≤ moment) → ((k : ℕ) → place ≤ k → k < length moments → moment < get_or moments k 0)
    → Contains moments moment → get_or shares (place - 1) 0 ≡ f moment
found_share moments shares moment place f rising is within before after among =
    let there : get_or moments among.0 0 ≡ moment = get_or_past_default moments among.0 moment among.1 ∙ among.2 in
    let below : among.0 < place = elim (cases_lt among.0 place) [
      | inl h ↦ h
      | inr h ↦ absurd (omega (arith, after among.0 h among.1, there))
    ] in
    let last : place - 1 < length moments = omega (arith, within, below) in
    let same : get_or moments (place - 1) 0 ≡ moment = omega (
      arith,
      there,
      before (place - 1) (omega (arith, below)),
      rising.order among.0 (place - 1) (omega (arith, below)) last,
    ) in
    ap (λ (l : List ℕ). get_or l (place - 1) 0) is ∙ get_or-map f moments (place - 1) 0 0 last ∙ ap f same

-- as many run at a time as when one of them begins
pub most_of_starts : (cs : List Span) (starts : List ℕ) → IsPermutation (map began_of cs) starts
    → fold (λ most t. max most (running cs t)) 0 starts ≡ most_at_once cs
most_of_starts cs starts moved = greatest-permutation (running cs) (map began_of cs) starts moved ∙ begun cs 0
  where
    begun : (ds : List Span) (at : ℕ) → fold (λ most t. max most (running cs t)) at (map began_of ds) ≡ fold (λ most s. max most (running cs s.began)) at ds
    begun [] at = refl
    begun (d ∷ ds) at = begun ds (max at (running cs d.began))
