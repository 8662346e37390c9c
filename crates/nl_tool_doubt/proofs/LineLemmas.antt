-- What lines tell, by the spans of what they tell.
use Rattle.std.proofs.Common.{◌≡◌, ◌∙◌, ℕ, ◌+◌, ◌-◌, ◌/◌, ◌<◌, ◌≤◌, Bool, true, false, cond, List, [], ◌∷◌, Option, None, Some, refl, sym, ap, subst, arith, inl, inr, map}
use Rattle.std.specs.Prelude.{min, max, nat_le, nat_lt, ◌&&◌, ◌||◌}
use Rattle.std.specs.List.{list_any}
use Rattle.std.proofs.lemmas.Bool.Decides.{leb_tells, nat_tests}
use Rattle.nl_fields.specs.declared.entry.Entry.{Entry}
use Rattle.nl_tool_doubt.specs.Known.{IsKnownOf, end_span, start_span}
use Rattle.nl_tool_doubt.specs.Moments.{at_of, bound, differ, is_start, is_sure, least_from, lengths_between, length_of, lo_of, m_of, nearest}
use Rattle.nl_tool_doubt.specs.Spans.{Alike, both, greatest_of, within}
use Rattle.nl_tool_doubt.specs.declared.spans.Span.{Span}
use Rattle.nl_tool_doubt.proofs.SpanLemmas.{is_before, is_behind, is_there}

-- ---- L

pub bound_is : (at : ℕ) (ls : List Entry) → greatest_of (within 0 at (map end_span ls)) ≡ bound ls at
bound_is at [] = refl
bound_is at (x ∷ xs) = elim (leb_tells (at_of x) at) [
  | inl h ↦
      ap (λ (o : Option Span). greatest_of (both o (within 0 at (map end_span xs)))) (is_there 0 at (end_span x) (omega arith) h.1)
      ∙ more (within 0 at (map end_span xs)) ∙ ap (max (lo_of x)) (bound_is at xs)
      ∙ sym (ap (λ (b : Bool). cond b (max (lo_of x) (bound xs at)) (bound xs at)) h.0)
  | inr h ↦
      ap (λ (o : Option Span). greatest_of (both o (within 0 at (map end_span xs)))) (is_behind 0 at (end_span x) h.1)
      ∙ bound_is at xs ∙ sym (ap (λ (b : Bool). cond b (max (lo_of x) (bound xs at)) (bound xs at)) h.0)
]
  where
    more : (o : Option Span) → greatest_of (both (Some (end_span x)) o) ≡ max (lo_of x) (greatest_of o)
    more None = omega arith
    more (Some y) = refl

-- ---- M

abbrev pub first_or : ℕ → Option Span → ℕ
first_or own None = own
first_or own (Some s) = s.first

first_up : (from own : ℕ) (ss : List Span) → first_or own (within from own ss) ≤ own
first_up from own [] = omega arith
first_up from own (s ∷ ss) = elim (leb_tells from s.first) [
  | inl low ↦ elim (leb_tells s.first own) [
    | inl high ↦ subst (λ o. first_or own (both o (within from own ss)) ≤ own) (sym (is_there from own s low.1 high.1)) (more high.1 (within from own ss))
    | inr high ↦ subst (λ o. first_or own (both o (within from own ss)) ≤ own) (sym (is_behind from own s high.1)) (first_up from own ss)
  ]
  | inr low ↦ subst (λ o. first_or own (both o (within from own ss)) ≤ own) (sym (is_before from own s low.1)) (first_up from own ss)
]
  where
    more : s.first ≤ own → (o : Option Span) → first_or own (both (Some s) o) ≤ own
    more high None = high
    more high (Some x) = omega (arith, high)

first_is : (from own : ℕ) (ss : List Span) → least_from from own (map (λ (s : Span). s.first) ss) ≡ first_or own (within from own ss)
first_is from own [] = refl
first_is from own (s ∷ ss) =
    let rest : List ℕ = map (λ (s : Span). s.first) ss in
    let w : Option Span = within from own ss in
    elim (leb_tells from s.first) [
      | inl low ↦
          ap (λ (b : Bool). cond b (min s.first (least_from from own rest)) (least_from from own rest)) low.0
          ∙ ap (min s.first) (first_is from own ss)
          ∙ elim (leb_tells s.first own) [
            | inl high ↦ more high.1 w ∙ ap (λ (o : Option Span). first_or own (both o w)) (sym (is_there from own s low.1 high.1))
            | inr high ↦ omega (arith, high.1, first_up from own ss) ∙ ap (λ (o : Option Span). first_or own (both o w)) (sym (is_behind from own s high.1))
          ]
      | inr low ↦
          ap (λ (b : Bool). cond b (min s.first (least_from from own rest)) (least_from from own rest)) low.0
          ∙ first_is from own ss ∙ ap (λ (o : Option Span). first_or own (both o w)) (sym (is_before from own s low.1))
    ]
  where
    more : s.first ≤ own → (o : Option Span) → min s.first (first_or own o) ≡ first_or own (both (Some s) o)
    more high None = omega (arith, high)
    more high (Some x) = refl

-- spans that are alike have the same least place from a moment on
pub least_alike : (from own : ℕ) (ss : List Span) (ls : List Entry) → Alike ss (map start_span ls)
    → least_from from own (map (λ (s : Span). s.first) ss) ≡ least_from from own (map m_of ls)
least_alike from own ss ls alike =
    first_is from own ss ∙ ap (first_or own) (alike from own) ∙ sym (first_is from own (map start_span ls)) ∙ ap (least_from from own) (moments ls)
  where
    moments : (ls : List Entry) → map (λ (s : Span). s.first) (map start_span ls) ≡ map m_of ls
    moments [] = refl
    moments (x ∷ xs) = ap (λ (ms : List ℕ). m_of x ∷ ms) (moments xs)

-- ---- how long commands ran

-- the least and the greatest of some numbers
abbrev with : ℕ → Option (ℕ × ℕ) → Option (ℕ × ℕ)
with n None = Some (n, n)
with n (Some p) = Some (min n p.0, max n p.1)

abbrev limits : List ℕ → Option (ℕ × ℕ)
limits [] = None
limits (n ∷ ns) = with n (limits ns)

abbrev limits_of : Option Span → Option (ℕ × ℕ)
limits_of None = None
limits_of (Some s) = Some (s.least, s.greatest)

limits_are : (from to : ℕ) (ls : List Entry) → limits_of (within from to (map start_span ls)) ≡ limits (lengths_between from to ls)
limits_are from to [] = refl
limits_are from to (x ∷ xs) =
    let w : Option Span = within from to (map start_span xs) in
    let ns : List ℕ = lengths_between from to xs in
    elim (leb_tells from (m_of x)) [
      | inl low ↦ elim (leb_tells (m_of x) to) [
        | inl high ↦
            ap (λ (o : Option Span). limits_of (both o w)) (is_there from to (start_span x) low.1 high.1) ∙ more w
            ∙ ap (with (length_of x)) (limits_are from to xs)
            ∙ sym (λ i. limits (cond (low.0 i && high.0 i) (length_of x ∷ ns) ns))
        | inr high ↦
            ap (λ (o : Option Span). limits_of (both o w)) (is_behind from to (start_span x) high.1) ∙ limits_are from to xs
            ∙ sym (λ i. limits (cond (low.0 i && high.0 i) (length_of x ∷ ns) ns))
      ]
      | inr low ↦
          ap (λ (o : Option Span). limits_of (both o w)) (is_before from to (start_span x) low.1) ∙ limits_are from to xs
          ∙ sym (λ i. limits (cond (low.0 i && nat_le (m_of x) to) (length_of x ∷ ns) ns))
    ]
  where
    more : (o : Option Span) → limits_of (both (Some (start_span x)) o) ≡ with (length_of x) (limits_of o)
    more None = refl
    more (Some y) = refl

abbrev above : ℕ → Option (ℕ × ℕ) → Bool
above n None = false
above n (Some p) = nat_lt n p.1

any_above : (n : ℕ) (ns : List ℕ) → list_any (λ b. nat_lt n b) ns ≡ above n (limits ns)
any_above n [] = refl
any_above n (m ∷ ms) = ap (λ (b : Bool). nat_lt n m || b) (any_above n ms) ∙ more (limits ms)
  where
    more : (o : Option (ℕ × ℕ)) → (nat_lt n m || above n o) ≡ above n (with m o)
    more None = grind (arith, nat_tests)
    more (Some p) = grind (arith, nat_tests)

abbrev Grows : (ℕ → ℕ) → Type 0
Grows allows = (a b : ℕ) → a ≤ b → allows a ≤ allows b

abbrev below : (ℕ → ℕ) → ℕ → Option (ℕ × ℕ) → Bool
below allows n None = false
below allows n (Some p) = nat_lt (allows p.0) n

any_below : (allows : ℕ → ℕ) → Grows allows → (n : ℕ) (ns : List ℕ) → list_any (λ a. nat_lt (allows a) n) ns ≡ below allows n (limits ns)
any_below allows grows n [] = refl
any_below allows grows n (m ∷ ms) = ap (λ (b : Bool). nat_lt (allows m) n || b) (any_below allows grows n ms) ∙ more (limits ms)
  where
    more : (o : Option (ℕ × ℕ)) → (nat_lt (allows m) n || below allows n o) ≡ below allows n (with m o)
    more None = grind (arith, nat_tests)
    more (Some p) = elim (leb_tells m p.0) [
      | inl h ↦
          let up : allows m ≤ allows p.0 = grows m p.0 h.1 in
          let is : min m p.0 ≡ m = omega (arith, h.1) in
          grind (arith, nat_tests, up) ∙ ap (λ k. nat_lt (allows k) n) (sym is)
      | inr h ↦
          let up : allows p.0 ≤ allows m = grows p.0 m (omega (arith, h.1)) in
          let is : min m p.0 ≡ p.0 = omega (arith, h.1) in
          grind (arith, nat_tests, up) ∙ ap (λ k. nat_lt (allows k) n) (sym is)
    ]

abbrev differ_by : (ℕ → ℕ) → Option (ℕ × ℕ) → Bool
differ_by allows None = false
differ_by allows (Some p) = nat_lt (allows p.0) p.1

differs : (allows : ℕ → ℕ) → Grows allows → (ns : List ℕ) → differ allows ns ≡ differ_by allows (limits ns)
differs allows grows ns = (λ i. list_any (λ a. any_above (allows a) ns i) ns) ∙ go (limits ns) refl
  where
    never : (ms : List ℕ) → list_any (λ a. false) ms ≡ false
    never [] = refl
    never (m ∷ ms) = never ms

    go : (o : Option (ℕ × ℕ)) → limits ns ≡ o → list_any (λ a. above (allows a) (limits ns)) ns ≡ differ_by allows (limits ns)
    go None is =
        ap (λ (o : Option (ℕ × ℕ)). list_any (λ a. above (allows a) o) ns) is ∙ never ns ∙ sym (ap (differ_by allows) is)
    go (Some p) is =
        ap (λ (o : Option (ℕ × ℕ)). list_any (λ a. above (allows a) o) ns) is ∙ any_below allows grows p.1 ns
        ∙ ap (below allows p.1) is ∙ sym (ap (differ_by allows) is)

any_short : (n : ℕ) (ns : List ℕ) → list_any (λ a. nat_le a n) ns ≡ below (λ a. a) (n + 1) (limits ns)
any_short n ns = (λ i. list_any (λ a. less a i) ns) ∙ any_below (λ a. a) (λ a b h. h) (n + 1) ns
  where
    less : (a : ℕ) → nat_le a n ≡ nat_lt a (n + 1)
    less a = grind (arith, nat_tests)

-- ---- what code asks of the spans

abbrev pub starts_by : Option Span → Bool
starts_by None = false
starts_by (Some s) = nat_lt (max (s.least / 5) 12) (s.greatest - s.least)

abbrev pub sure_by : Option Span → Bool
sure_by None = false
sure_by (Some s) = nat_le s.least 12 || nat_lt 12 (s.greatest - s.least)

module _ (ss : List Span) (ls : List Entry) (alike : Alike ss (map start_span ls)) where
  limits_here : (from to : ℕ) → limits_of (within from to ss) ≡ limits (lengths_between from to ls)
  limits_here from to = ap limits_of (alike from to) ∙ limits_are from to ls

  pub start_is : (own : ℕ) → starts_by (within (own - 8) (own + 8) ss) ≡ is_start ls own
  start_is own =
      more (within (own - 8) (own + 8) ss) ∙ ap (differ_by (λ a. a + max 12 (a / 5))) (limits_here (own - 8) (own + 8))
      ∙ sym (differs (λ a. a + max 12 (a / 5)) (λ a b h. omega (arith, h)) (lengths_between (own - 8) (own + 8) ls))
    where
      more : (o : Option Span) → starts_by o ≡ differ_by (λ a. a + max 12 (a / 5)) (limits_of o)
      more None = refl
      more (Some s) = grind (arith, nat_tests)

  pub sure_is : (m : ℕ) → sure_by (within m (m + 6) ss) ≡ is_sure ls m
  sure_is m =
      let ns : List ℕ = lengths_between m (m + 6) ls in
      more (within m (m + 6) ss)
      ∙ (λ i. below (λ a. a) 13 (limits_here m (m + 6) i) || differ_by (λ a. a + 12) (limits_here m (m + 6) i))
      ∙ sym (λ i. any_short 12 ns i || differs (λ a. a + 12) (λ a b h. omega (arith, h)) ns i)
    where
      more : (o : Option Span) → sure_by o ≡ (below (λ a. a) 13 (limits_of o) || differ_by (λ a. a + 12) (limits_of o))
      more None = refl
      more (Some s) = grind (arith, nat_tests)

module _ (ss : List Span) (ls : List Entry) (alike : Alike ss (map start_span ls)) where
  pub sure_some : (m : ℕ) (near : Span) → within m (m + 6) ss ≡ Some near
      → (nat_le near.least 12 || nat_lt 12 (near.greatest - near.least)) ≡ is_sure ls m
  sure_some m near is = sym (ap sure_by is) ∙ sure_is ss ls alike m

  pub sure_none : (m : ℕ) → within m (m + 6) ss ≡ None → false ≡ is_sure ls m
  sure_none m is = sym (ap sure_by is) ∙ sure_is ss ls alike m

  start_or : (own : ℕ) (o : Option Span) (b : Bool) → within (own - 8) (own + 8) ss ≡ o → starts_by o ≡ b → is_start ls own ≡ b
  start_or own o b is same = sym (start_is ss ls alike own) ∙ ap starts_by is ∙ same

  pub nearest_some : (own : ℕ) (near : Span) → within (own - 8) (own + 8) ss ≡ Some near
      → max (near.least / 5) 12 < near.greatest - near.least → own - 8 ≡ nearest ls own
  nearest_some own near is above =
      let b : nat_lt (max (near.least / 5) 12) (near.greatest - near.least) ≡ true = grind (arith, nat_tests, above) in
      sym (ap (λ (b : Bool). cond b (own - 8) 0) (start_or own (Some near) true is b))

  pub nearest_far : (own : ℕ) (near : Span) → within (own - 8) (own + 8) ss ≡ Some near
      → near.greatest - near.least ≤ max (near.least / 5) 12 → 0 ≡ nearest ls own
  nearest_far own near is below =
      let b : nat_lt (max (near.least / 5) 12) (near.greatest - near.least) ≡ false = grind (arith, nat_tests, below) in
      sym (ap (λ (b : Bool). cond b (own - 8) 0) (start_or own (Some near) false is b))

  pub nearest_none : (own : ℕ) → within (own - 8) (own + 8) ss ≡ None → 0 ≡ nearest ls own
  nearest_none own is = sym (ap (λ (b : Bool). cond b (own - 8) 0) (start_or own None false is refl))

-- what is known of lines
pub of_lines : {ls ms : List Entry} {coarse : Bool} {lows moments : List Span} → ls ≡ ms → IsKnownOf ls coarse lows moments → IsKnownOf ms coarse lows moments
of_lines {ls} {ms} {coarse} {lows} {moments} is known = subst (λ (l : List Entry). IsKnownOf l coarse lows moments) is known

-- what a call gave of the spans about a moment
pub window : {low : ℕ} {ss starts : List Span} {found o : Option Span} (own : ℕ) → low ≡ own - 8 → ss ≡ starts → found ≡ within low (own + 8) ss → found ≡ o
    → within (own - 8) (own + 8) starts ≡ o
window own low_is ss_is gives is = sym (gives ∙ (λ i. within (low_is i) (own + 8) (ss_is i))) ∙ is
