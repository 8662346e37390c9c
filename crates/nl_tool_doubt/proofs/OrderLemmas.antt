-- Spans in order, and the places at which they part.
use Rattle.std.proofs.Common.{◌≡◌, ◌∙◌, ℕ, ◌+◌, ◌-◌, ◌<◌, ◌≤◌, List, [], ◌∷◌, ◌++◌, Option, None, Some, length, get_or, drop, take, zero, suc, refl, sym, ap, subst, arith, inl, inr, map, cond, Bool, true, false}
use Rattle.std.specs.Prelude.{min, max, nat_le, nat_lt}
use Rattle.std.specs.List.{All}
use Rattle.std.specs.List.Sorted.{IsPartitionPoint}
use Rattle.std.proofs.lemmas.Bool.Decides.{leb_tells, nat_tests}
use Rattle.std.proofs.lemmas.List.{get_or_default}
use Rattle.std.proofs.lemmas.List.Elements.{All-push, All-take}
use Rattle.std.proofs.Math.Seq.{take-append_seam}
use Rattle.std.proofs.lemmas.List.Sorted.{IsNonDecreasingBy-push, IsNonDecreasingBy-take}
use Rattle.nl_tool_doubt.specs.Moments.{least_from}
use Rattle.nl_tool_doubt.specs.Spans.{Rises, both, greatest_of, if_within, sums, within}
use Rattle.nl_tool_doubt.specs.declared.spans.Span.{Span}
use Rattle.nl_tool_doubt.proofs.SpanLemmas.{both_assoc, is_before, is_behind, is_there, joined, within-append}

-- those from a place on are at a moment or behind it
abbrev pub From : ℕ → ℕ → List Span → Type 0
From i from ss = (k : ℕ) (d : Span) → i ≤ k → k < length ss → from ≤ (get_or ss k d).first

abbrev pub Before : ℕ → ℕ → List Span → Type 0
Before i from ss = (k : ℕ) (d : Span) → k < i → k < length ss → (get_or ss k d).first < from

-- ---- between two moments

-- the first moment is none that parts them
all_from : (from to : ℕ) (ss : List Span) → From 0 from ss → within from to ss ≡ within 0 to ss
all_from from to [] late = refl
all_from from to (s ∷ ss) late =
    λ i. both (one_from (late 0 s (omega arith) (omega arith)) i) (all_from from to ss (λ k d after there. late (suc k) d (omega arith) (omega (arith, there))) i)
  where
    one_from : from ≤ s.first → if_within from to s ≡ if_within 0 to s
    one_from above = elim (leb_tells s.first to) [
      | inl h ↦ is_there from to s above h.1 ∙ sym (is_there 0 to s (omega arith) h.1)
      | inr h ↦ is_behind from to s h.1 ∙ sym (is_behind 0 to s h.1)
    ]

pub parted : (from to : ℕ) (ss : List Span) (i : ℕ) → Before i from ss → From i from ss → within from to ss ≡ within 0 to (drop i ss)
parted from to [] zero before late = refl
parted from to [] (suc i) before late = refl
parted from to (s ∷ ss) zero before late = all_from from to (s ∷ ss) late
parted from to (s ∷ ss) (suc i) before late =
    ap (λ (o : Option Span). both o (within from to ss)) (is_before from to s (before 0 s (omega arith) (omega arith)))
    ∙ parted from to ss i (λ k d under there. before (suc k) d (omega (arith, under)) (omega (arith, there)))
    (λ k d after there. late (suc k) d (omega (arith, after)) (omega (arith, there)))

-- none of those behind a moment is up to it
pub none_late : (to : ℕ) (ss : List Span) (i : ℕ) → From i (to + 1) ss → within 0 to (drop i ss) ≡ None
none_late to [] zero late = refl
none_late to [] (suc i) late = refl
none_late to (s ∷ ss) zero late =
    λ i. both (is_behind 0 to s (omega (arith, late 0 s (omega arith) (omega arith))) i)
    (none_late to ss 0 (λ k d after there. late (suc k) d (omega arith) (omega (arith, there))) i)
none_late to (s ∷ ss) (suc i) late = none_late to ss i (λ k d after there. late (suc k) d (omega (arith, after)) (omega (arith, there)))

-- in order, those from one on are no earlier
pub rises_from : (ss : List Span) (i : ℕ) (d : Span) → Rises ss → From i (get_or ss i d).first ss
rises_from ss i d rise k e after there = omega (arith, rise i k e after there, same i (omega (arith, after, there)))
  where
    same : (i : ℕ) → i < length ss → (get_or ss i d).first ≡ (get_or ss i e).first
    same i there = ap (λ (s : Span). s.first) (get_or_default ss i d e there)

-- ---- the least place from a moment on

-- the first of those from a place on, or a line's own
abbrev pub least_at : ℕ → List Span → ℕ → ℕ
least_at own [] i = own
least_at own (s ∷ ss) zero = min s.first own
least_at own (s ∷ ss) (suc i) = least_at own ss i

pub least_none : (own : ℕ) (ss : List Span) (i : ℕ) → length ss ≤ i → least_at own ss i ≡ own
least_none own [] i short = refl
least_none own (s ∷ ss) zero short = absurd (omega (arith, short))
least_none own (s ∷ ss) (suc i) short = least_none own ss i (omega (arith, short))

pub least_some : (own : ℕ) (ss : List Span) (i : ℕ) (d : Span) → i < length ss → least_at own ss i ≡ min (get_or ss i d).first own
least_some own [] i d there = absurd (omega (arith, there))
least_some own (s ∷ ss) zero d there = refl
least_some own (s ∷ ss) (suc i) d there = least_some own ss i d (omega (arith, there))

abbrev firsts : List Span → List ℕ
firsts ss = map (λ (s : Span). s.first) ss

no_less : (from own v : ℕ) (ss : List Span) → From 0 v ss → min v (least_from from own (firsts ss)) ≡ min v own
no_less from own v [] late = refl
no_less from own v (s ∷ ss) late =
    let rest = no_less from own v ss (λ k d after there. late (suc k) d (omega arith) (omega (arith, there))) in
    let above : v ≤ s.first = late 0 s (omega arith) (omega arith) in
    more (nat_le from s.first) (least_from from own (firsts ss)) rest above
  where
    more : (b : Bool) (r : ℕ) → min v r ≡ min v own → v ≤ s.first → min v (cond b (min s.first r) r) ≡ min v own
    more true r h above = omega (arith, h, above)
    more false r h above = h

pub least_is : (from own : ℕ) (ss : List Span) (i : ℕ) → Before i from ss → From i from ss → Rises ss
    → least_from from own (firsts ss) ≡ least_at own ss i
least_is from own [] zero before late rise = refl
least_is from own [] (suc i) before late rise = refl
least_is from own (s ∷ ss) zero before late rise =
    let here : nat_le from s.first ≡ true = grind (arith, nat_tests, late 0 s (omega arith) (omega arith)) in
    ap (λ (b : Bool). cond b (min s.first (least_from from own (firsts ss))) (least_from from own (firsts ss))) here
    ∙ no_less from own s.first ss (λ k d after there. rises_from (s ∷ ss) 0 s rise (suc k) d (omega arith) (omega (arith, there)))
least_is from own (s ∷ ss) (suc i) before late rise =
    let under : s.first < from = before 0 s (omega arith) (omega arith) in
    let here : nat_le from s.first ≡ false = grind (arith, nat_tests) in
    ap (λ (b : Bool). cond b (min s.first (least_from from own (firsts ss))) (least_from from own (firsts ss))) here
    ∙ least_is from own ss i (λ k d under there. before (suc k) d (omega (arith, under)) (omega (arith, there)))
    (λ k d after there. late (suc k) d (omega (arith, after)) (omega (arith, there)))
    (λ i j d order there. rise (suc i) (suc j) d (omega (arith, order)) (omega (arith, there)))

-- ---- the greatest value up to a place

pub length-sums : (most : ℕ) (ss : List Span) → length (sums most ss) ≡ length ss
length-sums most [] = refl
length-sums most (s ∷ ss) = ap suc (length-sums (max most s.greatest) ss)

first-sums : (most : ℕ) (ss : List Span) (k : ℕ) (d : Span) → (get_or (sums most ss) k d).first ≡ (get_or ss k d).first
first-sums most [] k d = refl
first-sums most (s ∷ ss) zero d = refl
first-sums most (s ∷ ss) (suc k) d = first-sums (max most s.greatest) ss k d

pub rises-sums : (most : ℕ) (ss : List Span) → Rises ss → Rises (sums most ss)
rises-sums most ss rise i j d order there =
    omega (arith, first-sums most ss i d, first-sums most ss j d, rise i j d order (omega (arith, there, length-sums most ss)))

-- what stands before a place
abbrev pub before_at : ℕ → List Span → ℕ → Span → ℕ
before_at most ss zero d = most
before_at most ss (suc i) d = (get_or ss i d).greatest

pub sum_at : (to most : ℕ) (ss : List Span) (i : ℕ) (d : Span) → i ≤ length ss
    → Before i (to + 1) ss → From i (to + 1) ss → before_at most (sums most ss) i d ≡ max most (greatest_of (within 0 to ss))
sum_at to most [] zero d there before late = omega arith
sum_at to most [] (suc i) d there before late = absurd (omega (arith, there))
sum_at to most (s ∷ ss) zero d there before late = omega (arith, ap greatest_of (none_late to (s ∷ ss) 0 late))
sum_at to most (s ∷ ss) (suc i) d there before late =
    let here : if_within 0 to s ≡ Some s = is_there 0 to s (omega arith) (omega (arith, before 0 s (omega arith) (omega arith))) in
    let rest = sum_at to (max most s.greatest) ss i d (omega (arith, there)) (λ k e under within. before (suc k) e (omega (arith, under)) (omega (arith, within)))
    (λ k e after within. late (suc k) e (omega (arith, after)) (omega (arith, within))) in
    step i ∙ rest ∙ more (within 0 to ss) ∙ ap (λ (o : Option Span). max most (greatest_of (both o (within 0 to ss)))) (sym here)
  where
    step : (i : ℕ) → before_at most (sums most (s ∷ ss)) (suc i) d ≡ before_at (max most s.greatest) (sums (max most s.greatest) ss) i d
    step zero = refl
    step (suc i) = refl

    more : (o : Option Span) → max (max most s.greatest) (greatest_of o) ≡ max most (greatest_of (both (Some s) o))
    more None = omega arith
    more (Some x) = omega arith

-- ---- one more

pub both_none : (a : Option Span) → both a None ≡ a
both_none None = refl
both_none (Some x) = refl

-- where one at a place is behind a moment, those from there on are
pub rises_behind : (to : ℕ) (ss : List Span) (i : ℕ) (d : Span) → Rises ss → to < (get_or ss i d).first → From i (to + 1) ss
rises_behind to ss i d rise above k e after there = omega (arith, above, rises_from ss i d rise k e after there)

-- the span comes after those of earlier places, or joins that of its own
pub record Joins (old : List Span) (span : Span) (new : List Span) : Type 0 where
  pub alike : (from to : ℕ) → within from to new ≡ both (within from to old) (if_within from to span)
  pub rises : Rises old → All (λ (s : Span). s.first ≤ span.first) old → Rises new
  pub last : All (λ (s : Span). s.first ≤ span.first) old → All (λ (s : Span). s.first ≤ span.first) new

-- a span was put behind some
pub joins_more : (old : List Span) (span : Span) (new : List Span) → new ≡ old ++ span ∷ [] → Joins old span new
joins_more old span new is = record {
  alike = λ from to. ap (within from to) is ∙ within-append from to old (span ∷ []) ∙ ap (both (within from to old)) (both_none (if_within from to span));
  rises = λ rise all. subst Rises (sym is) (IsNonDecreasingBy-push (λ (s : Span). s.first) old span rise (λ d some. all (length old - 1) d (omega (arith, some))));
  last = λ all. subst (λ (l : List Span). All (λ (s : Span). s.first ≤ span.first) l) (sym is) (All-push (λ (s : Span). s.first ≤ span.first) old span all (omega arith));
}

first_of_both : (n x s : Span) → Some n ≡ both (Some x) (Some s) → n.first ≡ min x.first s.first
first_of_both n x s is =
    let e : n ≡ record { first = min x.first s.first; least = min x.least s.least; greatest = max x.greatest s.greatest } = cc is in
    ap (λ (m : Span). m.first) e

all-front : (P : Span → Type 0) (old front : List Span) (x : Span) → old ≡ front ++ x ∷ [] → All P old → All P front
all-front P old front x was all =
    subst (All P) (ap (take (length front)) was ∙ take-append_seam front (x ∷ [])) (All-take P (length front) old all)

rises-front : (old front : List Span) (x : Span) → old ≡ front ++ x ∷ [] → Rises old → Rises front
rises-front old front x was rise =
    subst Rises (ap (take (length front)) was ∙ take-append_seam front (x ∷ [])) (IsNonDecreasingBy-take (λ (s : Span). s.first) (length front) old rise)

-- a span was joined to the last one, which has its place
pub joins_last : (old front : List Span) (x n span : Span) (new : List Span) → old ≡ front ++ x ∷ [] → x.first ≡ span.first
    → Some n ≡ both (Some x) (Some span) → new ≡ front ++ n ∷ [] → Joins old span new
joins_last old front x n span new was same joint is =
    let first : n.first ≡ span.first = first_of_both n x span joint ∙ omega (arith, same) in
    let above : (all : All (λ (s : Span). s.first ≤ span.first) old) → All (λ (s : Span). s.first ≤ span.first) front =
    λ all. all-front (λ (s : Span). s.first ≤ span.first) old front x was all in
    record {
      alike = λ from to.
          ap (within from to) is ∙ within-append from to front (n ∷ [])
          ∙ ap (both (within from to front)) (both_none (if_within from to n) ∙ joined from to x span n same joint)
          ∙ sym (both_assoc (within from to front) (if_within from to x) (if_within from to span))
          ∙ ap (λ (o : Option Span). both o (if_within from to span))
          (ap (both (within from to front)) (sym (both_none (if_within from to x))) ∙ sym (within-append from to front (x ∷ [])) ∙ ap (within from to) (sym was));
      rises = λ rise all. subst Rises (sym is) (IsNonDecreasingBy-push (λ (s : Span). s.first) front n (rises-front old front x was rise)
          (λ d some. omega (arith, first, above all (length front - 1) d (omega (arith, some)))));
      last = λ all. subst (λ (l : List Span). All (λ (s : Span). s.first ≤ span.first) l) (sym is)
          (All-push (λ (s : Span). s.first ≤ span.first) front n (above all) (omega (arith, first)));
    }

-- ---- the place that a test finds

-- of some in order: those before a moment stand before it, and the others behind
pub point_of : (ss : List Span) (from i : ℕ) → IsPartitionPoint (λ (s : Span). nat_lt s.first from ≡ true) (λ (s : Span). nat_lt s.first from ≡ false) ss i
    → Before i from ss × From i from ss
point_of ss from i point = (
  λ k d under there. under_from (get_or ss k d) (point.0 k d (omega arith) under),
  λ k d after there. above_from (get_or ss k d) (point.1 k d after there),
)
  where
    under_from : (s : Span) → nat_lt s.first from ≡ true → s.first < from
    under_from s is = grind (arith, nat_tests, is)

    above_from : (s : Span) → nat_lt s.first from ≡ false → from ≤ s.first
    above_from s is = grind (arith, nat_tests, is)

pub point_up_to : (ss : List Span) (to i : ℕ) → IsPartitionPoint (λ (s : Span). nat_le s.first to ≡ true) (λ (s : Span). nat_le s.first to ≡ false) ss i
    → Before i (to + 1) ss × From i (to + 1) ss
point_up_to ss to i point = (
  λ k d under there. up (get_or ss k d) (point.0 k d (omega arith) under),
  λ k d after there. behind (get_or ss k d) (point.1 k d after there),
)
  where
    up : (s : Span) → nat_le s.first to ≡ true → s.first < to + 1
    up s is = grind (arith, nat_tests, is)

    behind : (s : Span) → nat_le s.first to ≡ false → to + 1 ≤ s.first
    behind s is = grind (arith, nat_tests, is)

pub before_some : (most : ℕ) (ss : List Span) (i : ℕ) (d : Span) → 0 < i → before_at most ss i d ≡ (get_or ss (i - 1) d).greatest
before_some most ss zero d some = absurd (omega (arith, some))
before_some most ss (suc i) d some = let e : suc i - 1 ≡ i = omega arith in ap (λ n. (get_or ss n d).greatest) (sym e)

pub greatest_is : (to : ℕ) (ss ts : List Span) (i : ℕ) (d : Span) → ts ≡ sums 0 ss → Before i (to + 1) ts → From i (to + 1) ts → i ≤ length ts
    → before_at 0 ts i d ≡ greatest_of (within 0 to ss)
greatest_is to ss ts i d is before late bound =
    let long : length ts ≡ length ss = ap length is ∙ length-sums 0 ss in
    let first : (k : ℕ) (e : Span) → (get_or ts k e).first ≡ (get_or ss k e).first =
    λ k e. ap (λ (l : List Span). (get_or l k e).first) is ∙ first-sums 0 ss k e in
    ap (λ (l : List Span). before_at 0 l i d) is
    ∙ sum_at to 0 ss i d (omega (arith, bound, long)) (λ k e under there. omega (arith, before k e under (omega (arith, there, long)), first k e))
    (λ k e after there. omega (arith, late k e after (omega (arith, there, long)), first k e))
    ∙ omega arith

pub within-drop : (from to : ℕ) (ss : List Span) (i : ℕ) (d : Span) → i < length ss
    → within from to (drop i ss) ≡ both (if_within from to (get_or ss i d)) (within from to (drop (suc i) ss))
within-drop from to [] i d there = absurd (omega (arith, there))
within-drop from to (s ∷ ss) zero d there = refl
within-drop from to (s ∷ ss) (suc i) d there = within-drop from to ss i d (omega (arith, there))

pub length-behind : (ss : List Span) (i : ℕ) → length (drop i ss) ≤ length ss - i
length-behind [] zero = omega arith
length-behind [] (suc i) = omega arith
length-behind (s ∷ ss) zero = omega arith
length-behind (s ∷ ss) (suc i) = let rest = length-behind ss i in omega (arith, rest)
