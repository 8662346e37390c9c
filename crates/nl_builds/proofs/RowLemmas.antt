-- What the commands of a row tell of each other: from the last one on, and of ENDs that rise.
use Rattle.std.proofs.Common.{◌≡◌, ◌∙◌, ℕ, ◌+◌, ◌-◌, ◌<◌, ◌≤◌, ◌&&◌, Bool, true, false, List, [], ◌∷◌, ◌++◌, length, get_or, max, min, set, take, drop, zero, suc, Some, append_assoc, refl, subst, sym, ap, arith, inl, inr, true≢false}
use Rattle.std.specs.Prelude.{nat_le, nat_lt, slice_get, Option, None, IfSome}
use Rattle.std.specs.Borrow.{Bor}
use Rattle.std.specs.List.{list_any}
use Rattle.std.specs.Option.{MatchOption, is_some, option_copied, unwrap_or}
use Rattle.std.specs.List.Sorted.{IsNonDecreasing, IsPartitionPoint, IsPartitionedBy}
use Rattle.std.proofs.lemmas.Bool.{cases_Bool, cases_lt, cond-false, cond-true, le-leb, le-ltb, lt-leb, lt-ltb, ltb-false, ltb-true}
use Rattle.std.proofs.lemmas.Grind.{common_steps}
use Rattle.std.proofs.lemmas.Option.{get_or_from_slice_get, slice_get-get_or, slice_get_cases, slice_get_within}
use Rattle.std.proofs.lemmas.List.{drop-set, get_or_default, take-set, take_more}
use Rattle.std.proofs.lemmas.List.Sorted.{IsNonDecreasingBy-push}
use Rattle.std.proofs.lemmas.List.Folds.{list_any_at, list_any_none}
use Rattle.nl_builds.specs.Commands.{first_of, is_at_once, next_top, row_to, row_with, top_row, tops, waited, waits_from, with_next, with_rows}
use Rattle.nl_builds.specs.declared.command.Command.{Command}
use Rattle.nl_builds.specs.declared.command.Row.{Row}
use Rattle.nl_builds.specs.declared.seen.Order.{Order}

-- ---- what a slice gives

pub weaker : {A : Type 0} (N : Type 0) (P Q : A → Type 0) (o : Option A) → ((x : A) → P x → Q x) → MatchOption o N P → MatchOption o N Q
weaker N P Q None h p = p
weaker N P Q (Some x) h p = h x p

-- from a place on, or none
pub rest_of_slice : {A : Type 0} (xs : List A) (n count : ℕ) → n ≡ min count (length xs) → take (length xs - n) (drop n xs) ≡ drop count xs
rest_of_slice xs n count is =
    ap (λ (m : ℕ). take (length xs - m) (drop m xs)) is ∙ elim (cases_lt (length xs) count) [
      | inl past ↦ grind (arith, common_steps, past)
      | inr within ↦ grind (arith, common_steps, within)
    ]

pub got : {A : Type 0} (xs : List A) (i : ℕ) (r : Option (Bor A)) → is_some r ≡ nat_lt i (length xs) → IfSome r (λ x. x.now ≡ get_or xs i x.now)
    → option_copied r ≡ slice_get xs i
got xs i None some is = elim (slice_get_cases xs i).1 [
  | inl h ↦ absurd (omega (arith, h.1, ltb-false i (length xs) (sym some)))
  | inr h ↦ sym h.1
]
got xs i (Some x) some is = sym (slice_get-get_or xs i x.now (ltb-true i (length xs) (sym some)) ∙ ap Some (sym is))

-- ---- from the last one on

-- what each tells with those behind it, where these have theirs
abbrev pub rows_onto : Order → List Row → List Row → List Row
rows_onto order [] told = told
rows_onto order (c ∷ cs) told = with_next order c (first_of (rows_onto order cs told)) ∷ rows_onto order cs told

-- the last one tells alone
pub rows_onto_all : (order : Order) (cs : List Row) (at : ℕ) → length cs ≤ at + 1 → rows_onto order (take at cs) (drop at cs) ≡ with_rows order cs
rows_onto_all order [] zero le = refl
rows_onto_all order (c ∷ []) zero le = refl
rows_onto_all order (c ∷ d ∷ cs) zero le = absurd (omega (arith, le))
rows_onto_all order [] (suc at) le = refl
rows_onto_all order (c ∷ cs) (suc at) le = ap (λ (r : List Row). with_next order c (first_of r) ∷ r) (rows_onto_all order cs at (omega (arith, le)))

pub rows_onto_last : (order : Order) (cs : List Row) (d : Row) (told : List Row)
    → rows_onto order (cs ++ d ∷ []) told ≡ rows_onto order cs (with_next order d (first_of told) ∷ told)
rows_onto_last order [] d told = refl
rows_onto_last order (c ∷ cs) d told = ap (λ (r : List Row). with_next order c (first_of r) ∷ r) (rows_onto_last order cs d told)

first_at : (cs : List Row) (at : ℕ) (d : Row) → at < length cs → first_of (drop at cs) ≡ Some (get_or cs at d)
first_at [] at d within = absurd (omega (arith, within))
first_at (c ∷ cs) zero d within = refl
first_at (c ∷ cs) (suc at) d within = first_at cs at d (omega (arith, within))

-- one more has what the next one tells
pub rows_onto_back : (order : Order) (cs all : List Row) (at : ℕ) (d n r : Row) → 1 < at → at ≤ length cs → d ≡ get_or cs (at - 1 - 1) d → n ≡ get_or cs (at - 1) n
    → r ≡ with_next order d (Some n) → rows_onto order (take (at - 1) cs) (drop (at - 1) cs) ≡ all
    → rows_onto order (take (at - 1 - 1) (set cs (at - 1 - 1) r)) (drop (at - 1 - 1) (set cs (at - 1 - 1) r)) ≡ all
rows_onto_back order cs all at d n r more within d_is n_is is told =
    let k = at - 1 - 1 in
    let same : k + 1 ≡ at - 1 = omega (arith, more) in
    let inside : k < length cs = omega (arith, more, within) in
    let next : first_of (drop (k + 1) cs) ≡ Some n =
    first_at cs (k + 1) n (omega (arith, more, within)) ∙ ap (λ (m : ℕ). Some (get_or cs m n)) same ∙ ap Some (sym n_is) in
    (λ i. rows_onto order (take-set cs k r i) (drop-set cs k r inside i))
    ∙ ap (λ (told : Row). rows_onto order (take k cs) (told ∷ drop (k + 1) cs)) (is ∙ ap (with_next order d) (sym next))
    ∙ sym (rows_onto_last order (take k cs) d (drop (k + 1) cs))
    ∙ ap (λ (l : List Row). rows_onto order l (drop (k + 1) cs)) ((λ i. take k cs ++ d_is i ∷ []) ∙ sym (take_more cs k d inside))
    ∙ ap (λ (m : ℕ). rows_onto order (take m cs) (drop m cs)) same ∙ told

-- ---- of ENDs that rise

-- where the last isn't greater, none is
pub none_greater : (ended : ℕ) (row : List ℕ) (d : ℕ) → IsNonDecreasing row → get_or row (length row - 1) d ≤ ended → list_any (nat_lt ended) row ≡ false
none_greater ended row d rises last =
    list_any_none (nat_lt ended) row (λ k e within. le-ltb ended (get_or row k e)
    (omega (arith, rises k (length row - 1) e (omega (arith, within)) (omega (arith, within)), get_or_default row (length row - 1) e d (omega (arith, within)), last)))

-- the last one tells whether one is
pub last_tells : (ended : ℕ) (row : List ℕ) (last : Option (Bor ℕ)) (test : Bool) → IsNonDecreasing row
    → option_copied last ≡ slice_get row (length row - 1) → MatchOption last (test ≡ false) (λ x. test ≡ nat_lt ended x.now)
    → test ≡ list_any (nat_lt ended) row
last_tells ended row None test rises is tested =
    tested ∙ sym (list_any_none (nat_lt ended) row (λ k d within. absurd (cc (is ∙ slice_get-get_or row (length row - 1) d (omega (arith, within))))))
last_tells ended [] (Some x) test rises is tested = absurd (cc is)
last_tells ended (r ∷ row) (Some x) test rises is tested =
    let all = r ∷ row in
    let last : get_or all (length all - 1) x.now ≡ x.now = get_or_from_slice_get all (length all - 1) x.now x.now (sym is) in
    elim (cases_lt ended x.now) [
      | inl less ↦
          tested ∙ lt-ltb ended x.now less
          ∙ sym (list_any_at (nat_lt ended) all (length all - 1) x.now (omega arith) (lt-ltb ended (get_or all (length all - 1) x.now) (omega (arith, less, last))))
      | inr le ↦ tested ∙ le-ltb ended x.now le ∙ sym (none_greater ended all x.now rises (omega (arith, le, last)))
    ]

pub cut_rises : (ended : ℕ) (row : List ℕ) → IsNonDecreasing row → IsNonDecreasing (row_to row ended)
cut_rises ended row rises = elim (cases_Bool (list_any (nat_lt ended) row)) [
  | inl h ↦ subst IsNonDecreasing (sym (cond-true _ [] row h)) (λ i j d le within. absurd (omega (arith, within)))
  | inr h ↦ subst IsNonDecreasing (sym (cond-false _ [] row h)) rises
]

-- a row with one more
pub rises_more : (ended : ℕ) (row now new : List ℕ) → IsNonDecreasing row → now ≡ row_to row ended → new ≡ now ++ ended ∷ [] → IsNonDecreasing new
rises_more ended row now new rises cut is =
    subst IsNonDecreasing (sym (is ∙ ap (λ (l : List ℕ). l ++ ended ∷ []) cut)) (elim (cases_Bool (list_any (nat_lt ended) row)) [
      | inl h ↦ subst (λ (l : List ℕ). IsNonDecreasing (l ++ ended ∷ [])) (sym (cond-true _ [] row h)) (IsNonDecreasingBy-push (λ n. n) [] ended
          (λ i j d le within. absurd (omega (arith, within))) (λ d some. absurd (omega (arith, some))))
      | inr h ↦
          subst (λ (l : List ℕ). IsNonDecreasing (l ++ ended ∷ [])) (sym (cond-false _ [] row h))
          (IsNonDecreasingBy-push (λ n. n) row ended rises (λ d some. elim (cases_lt ended (get_or row (length row - 1) d)) [
            | inl more ↦
                absurd (true≢false (sym (list_any_at (nat_lt ended) row (length row - 1) d (omega (arith, some)) (lt-ltb ended (get_or row (length row - 1) d) more)) ∙ h))
            | inr le ↦ le
          ]))
    ])

pub waits_more : (found new : List Row) (row now next : List ℕ) (c : Command) (cs more : List Command) (r : Row) (all : List Row)
    → found ++ waits_from row cs ≡ all → cs ≡ c ∷ more → now ≡ row_to row c.ended → r ≡ row_with c (waited now c) → new ≡ found ++ r ∷ []
    → next ≡ now ++ c.ended ∷ [] → new ++ waits_from next more ≡ all
waits_more found new row now next c cs more r all told cs_is cut r_is new_is next_is =
    (λ i. new_is i ++ waits_from (next_is i) more) ∙ append_assoc found (r ∷ []) (waits_from (now ++ c.ended ∷ []) more)
    ∙ ap (λ (r : Row). found ++ r ∷ waits_from (now ++ c.ended ∷ []) more) r_is
    ∙ (λ i. found ++ row_with c (waited (cut i) c) ∷ waits_from (cut i ++ c.ended ∷ []) more)
    ∙ ap (λ (l : List Command). found ++ waits_from row l) (sym cs_is) ∙ told

pub tops_more : (found new : List Row) (top now : ℕ) (c : Command) (cs more : List Command) (r : Row) (all : List Row)
    → found ++ tops top cs ≡ all → cs ≡ c ∷ more → now ≡ next_top c top → r ≡ top_row c now → new ≡ found ++ r ∷ []
    → new ++ tops now more ≡ all
tops_more found new top now c cs more r all told cs_is now_is r_is new_is =
    (λ i. new_is i ++ tops now more) ∙ append_assoc found (r ∷ []) (tops now more)
    ∙ ap (λ (r : Row). found ++ r ∷ tops now more) r_is
    ∙ ap (λ (n : ℕ). found ++ top_row c n ∷ tops n more) now_is
    ∙ ap (λ (l : List Command). found ++ tops top l) (sym cs_is) ∙ told

-- an END that is too early to wait for
abbrev pub is_early : ℕ → ℕ → Bool
is_early began ended = nat_lt (ended + 1) began

and-no : (a b : Bool) → b ≡ false → (a && b) ≡ false
and-no true b is = is
and-no false b is = refl

early_none : (began ended : ℕ) → is_early began ended ≡ true → is_at_once began ended ≡ false
early_none began ended test =
    and-no (nat_le ended began) (nat_le began (ended + 1)) (lt-leb began (ended + 1) (ltb-true (ended + 1) began test))

late_none : (began ended : ℕ) → began < ended → is_at_once began ended ≡ false
late_none began ended more = ap (λ b. b && nat_le began (ended + 1)) (lt-leb ended began more)

module _ (c : Command) (row : List ℕ) (rises : IsNonDecreasing row) where
  pub early_first : IsPartitionedBy (is_early c.began) row
  early_first i j d le within test =
      lt-ltb (get_or row i d + 1) c.began (omega (arith, rises i j d le within, ltb-true (get_or row j d + 1) c.began test))

  module _ (at : ℕ) (point : IsPartitionPoint (λ e. is_early c.began e ≡ true) (λ e. is_early c.began e ≡ false) row at) where
    waited_none : ((k : ℕ) → at ≤ k → k < length row → c.began < get_or row k 0) → false ≡ waited row c
    waited_none later =
        sym (list_any_none (is_at_once c.began) row (λ k d within. elim (cases_lt k at) [
          | inl less ↦ early_none c.began (get_or row k d) (point.0 k d (omega arith) less)
          | inr more ↦ late_none c.began (get_or row k d) (omega (arith, later k more within, get_or_default row k d 0 within))
        ]))

    waited_one : (d : ℕ) → at < length row → get_or row at d ≤ c.began → true ≡ waited row c
    waited_one d within le =
        sym (list_any_at (is_at_once c.began) row at d within
        (ap (λ b. b && nat_le c.began (get_or row at d + 1)) (le-leb (get_or row at d) c.began le)
        ∙ le-leb c.began (get_or row at d + 1) (ltb-false (get_or row at d + 1) c.began (point.1 at d (omega arith) within))))

    -- the first that isn't too early tells whether the command waited for one
    pub waited_tells : (first : Option (Bor ℕ)) (test : Bool) → option_copied first ≡ slice_get row at
        → MatchOption first (test ≡ false) (λ x. test ≡ nat_le x.now c.began) → test ≡ waited row c
    waited_tells None test is tested =
        tested ∙ waited_none (λ k more within. absurd (cc (is ∙ slice_get-get_or row at 0 (omega (arith, more, within)))))
    waited_tells (Some x) test is tested =
        let end : get_or row at x.now ≡ x.now = get_or_from_slice_get row at x.now x.now (sym is) in
        let inside : at < length row = slice_get_within row at x.now (sym is) in
        elim (cases_lt c.began x.now) [
          | inl later ↦
              tested ∙ lt-leb x.now c.began later
              ∙ waited_none (λ k more within. omega (arith, later, end, rises at k 0 more within, get_or_default row at 0 x.now inside))
          | inr le ↦ tested ∙ le-leb x.now c.began le ∙ waited_one x.now inside (omega (arith, le, end))
        ]
