-- Lists by rank, the highest first, and those of one rank in their order.
use Rattle.std.proofs.Common.{◌≡◌, ◌∙◌, ℕ, ◌<◌, ◌≤◌, ◌==◌, ◌&&◌, Bool, true, false, not, cond, subst, List, [], ◌∷◌, length, get_or, map, zero, suc, refl, sym, ap, ap₂, arith, inl, inr}
use Rattle.std.specs.Prelude.{nat_le, nat_lt}
use Rattle.std.specs.List.Sorted.{IsPermutation, IsSortedBy, IsStableBy, ties}
use Rattle.std.specs.Ordering.{is_lt, nat_cmp}
use Rattle.std.specs.Cmp.{IsStrictWeakOrder}
use Rattle.std.specs.declared.cmp.Ordering.TheVariants.{Less, Equal, Greater}
use Rattle.std.proofs.lemmas.Bool.{cond-false, cond-true, le-ltb, lt-ltb, ltb-false}
use Rattle.std.proofs.lemmas.Bool.Decides.{eqb_tells, leb_tells}
use Rattle.std.proofs.lemmas.Cmp.{nat_cmp_total}
use Rattle.std.proofs.lemmas.List.Elements.{filter_agree}
use Rattle.std.proofs.lemmas.List.Sorted.{IsPermutation-cons, IsPermutation-middle, IsPermutation-refl, IsPermutation-sym, IsPermutation-trans}
use Rattle.std.proofs.lemmas.List.Sorted.{IsStrictWeakOrder-flip, ranks_by, sorted_far}
use Rattle.nl_tool_texts.specs.Falling.{falling, put, ranked}

nat_cmp-lt : (x y : ℕ) → is_lt (nat_cmp x y) ≡ nat_lt x y
nat_cmp-lt x y = go (nat_lt x y) (x == y)
  where
    go : (less same : Bool) → is_lt (cond less Less (cond same Equal Greater)) ≡ less
    go true same = refl
    go false true = refl
    go false false = refl

tied : (a b : ℕ) → (not (nat_lt b a) && not (nat_lt a b)) ≡ (b == a)
tied a b =
    elim (eqb_tells b a) [
      | inl h ↦ (λ i. not (le-ltb b a (omega (arith, h.1)) i) && not (le-ltb a b (omega (arith, h.1)) i)) ∙ sym h.0
      | inr h ↦ elim (leb_tells b a) [
        | inl less ↦ ap (λ t. not t && not (nat_lt a b)) (lt-ltb b a (omega (arith, h.1, less.1))) ∙ sym h.0
        | inr more ↦ (λ i. not (le-ltb b a (omega (arith, more.1)) i) && not (lt-ltb a b more.1 i)) ∙ sym h.0
      ]
    ]

module _ {A : Type 0} (rank : A → ℕ) where
  -- no element ranks higher than this
  abbrev pub AllUpTo : ℕ → List A → Type 0
  AllUpTo v [] = Unit {0}
  AllUpTo v (x ∷ xs) = (rank x ≤ v) × AllUpTo v xs

  -- no element ranks higher than one before it
  abbrev pub Falls : List A → Type 0
  Falls [] = Unit {0}
  Falls (x ∷ xs) = AllUpTo (rank x) xs × Falls xs

  up_to_more : (v w : ℕ) (xs : List A) → v ≤ w → AllUpTo v xs → AllUpTo w xs
  up_to_more v w [] le all = tt
  up_to_more v w (x ∷ xs) le all = (omega (arith, le, all.0), up_to_more v w xs le all.1)

  up_to_of : (v : ℕ) (xs : List A) → ((k : ℕ) (d : A) → k < length xs → rank (get_or xs k d) ≤ v) → AllUpTo v xs
  up_to_of v [] h = tt
  up_to_of v (x ∷ xs) h = (h 0 x (omega arith), up_to_of v xs (λ k d within. h (suc k) d (omega (arith, within))))

  falls_of : (xs : List A) → ((i j : ℕ) (d : A) → i ≤ j → j < length xs → rank (get_or xs j d) ≤ rank (get_or xs i d)) → Falls xs
  falls_of [] h = tt
  falls_of (x ∷ xs) h = (
    up_to_of (rank x) xs (λ k d within. h 0 (suc k) d (omega arith) (omega (arith, within))),
    falls_of xs (λ i j d order within. h (suc i) (suc j) d (omega (arith, order)) (omega (arith, within))),
  )

  up_to_at : (v : ℕ) (xs : List A) → AllUpTo v xs → (k : ℕ) (d : A) → k < length xs → rank (get_or xs k d) ≤ v
  up_to_at v [] all k d within = absurd (omega arith)
  up_to_at v (x ∷ xs) all zero d within = all.0
  up_to_at v (x ∷ xs) all (suc k) d within = up_to_at v xs all.1 k d (omega (arith, within))

  pub falls_at : (xs : List A) → Falls xs → (i j : ℕ) (d : A) → i ≤ j → j < length xs → rank (get_or xs j d) ≤ rank (get_or xs i d)
  falls_at [] f i j d order within = absurd (omega arith)
  falls_at (x ∷ xs) f zero zero d order within = omega arith
  falls_at (x ∷ xs) f zero (suc j) d order within = up_to_at (rank x) xs f.0 j d (omega (arith, within))
  falls_at (x ∷ xs) f (suc i) zero d order within = absurd (omega (arith, order))
  falls_at (x ∷ xs) f (suc i) (suc j) d order within = falls_at xs f.1 i j d (omega (arith, order)) (omega (arith, within))

  -- ---- an element more

  stands : (x y : A) (ys : List A) → nat_le (rank y) (rank x) ≡ true → put rank x (y ∷ ys) ≡ x ∷ y ∷ ys
  stands x y ys test = cond-true (nat_le (rank y) (rank x)) (x ∷ y ∷ ys) (y ∷ put rank x ys) test

  passes : (x y : A) (ys : List A) → nat_le (rank y) (rank x) ≡ false → put rank x (y ∷ ys) ≡ y ∷ put rank x ys
  passes x y ys test = cond-false (nat_le (rank y) (rank x)) (x ∷ y ∷ ys) (y ∷ put rank x ys) test

  put_up_to : (v : ℕ) (x : A) (ys : List A) → rank x ≤ v → AllUpTo v ys → AllUpTo v (put rank x ys)
  put_up_to v x [] le all = (le, tt)
  put_up_to v x (y ∷ ys) le all =
      let rest = put_up_to v x ys le all.1 in
      elim (leb_tells (rank y) (rank x)) [
        | inl h ↦ subst (AllUpTo v) (sym (stands x y ys h.0)) (le, all)
        | inr h ↦ subst (AllUpTo v) (sym (passes x y ys h.0)) (all.0, rest)
      ]

  put_falls : (x : A) (ys : List A) → Falls ys → Falls (put rank x ys)
  put_falls x [] falls = (tt, tt)
  put_falls x (y ∷ ys) falls =
      let rest = put_falls x ys falls.1 in
      elim (leb_tells (rank y) (rank x)) [
        | inl h ↦ subst Falls (sym (stands x y ys h.0)) ((h.1, up_to_more (rank y) (rank x) ys h.1 falls.0), falls)
        | inr h ↦ subst Falls (sym (passes x y ys h.0)) (put_up_to (rank y) x ys (omega (arith, h.1)) falls.0, rest)
      ]

  other_rank : (v : ℕ) (x y : A) → rank x ≡ v → rank x < rank y → (rank y == v) ≡ false
  other_rank v x y is less = elim (eqb_tells (rank y) v) [ inl h ↦ absurd (omega (arith, is, less, h.1)) | inr h ↦ h.0 ]

  passed : (v : ℕ) (x y : A) (l r : List A) → rank x < rank y → l ≡ cond (rank x == v) (x ∷ r) r
      → cond (rank y == v) (y ∷ l) l ≡ cond (rank x == v) (x ∷ cond (rank y == v) (y ∷ r) r) (cond (rank y == v) (y ∷ r) r)
  passed v x y l r less is =
      elim (eqb_tells (rank x) v) [
        | inl h ↦
            let other = other_rank v x y h.1 less in
            cond-false (rank y == v) (y ∷ l) l other ∙ is ∙ cond-true (rank x == v) (x ∷ r) r h.0
            ∙ ap (λ (t : List A). x ∷ t) (sym (cond-false (rank y == v) (y ∷ r) r other))
            ∙ sym (cond-true (rank x == v) (x ∷ cond (rank y == v) (y ∷ r) r) (cond (rank y == v) (y ∷ r) r) h.0)
        | inr h ↦
            ap (λ (t : List A). cond (rank y == v) (y ∷ t) t) (is ∙ cond-false (rank x == v) (x ∷ r) r h.0)
            ∙ sym (cond-false (rank x == v) (x ∷ cond (rank y == v) (y ∷ r) r) (cond (rank y == v) (y ∷ r) r) h.0)
      ]

  put_ranked : (v : ℕ) (x : A) (ys : List A) → ranked rank v (put rank x ys) ≡ ranked rank v (x ∷ ys)
  put_ranked v x [] = refl
  put_ranked v x (y ∷ ys) =
      let rest = put_ranked v x ys in
      elim (leb_tells (rank y) (rank x)) [
        | inl h ↦ ap (ranked rank v) (stands x y ys h.0)
        | inr h ↦ ap (ranked rank v) (passes x y ys h.0) ∙ passed v x y (ranked rank v (put rank x ys)) (ranked rank v ys) h.1 rest
      ]

  put_moves : (x : A) (ys : List A) → IsPermutation (x ∷ ys) (put rank x ys)
  put_moves x [] = IsPermutation-refl (x ∷ [])
  put_moves x (y ∷ ys) =
      let rest = put_moves x ys in
      elim (leb_tells (rank y) (rank x)) [
        | inl h ↦ subst (IsPermutation (x ∷ y ∷ ys)) (sym (stands x y ys h.0)) (IsPermutation-refl (x ∷ y ∷ ys))
        | inr h ↦
            subst (IsPermutation (x ∷ y ∷ ys)) (sym (passes x y ys h.0))
            (IsPermutation-trans (x ∷ y ∷ ys) (y ∷ x ∷ ys) (y ∷ put rank x ys)
            (IsPermutation-sym (y ∷ x ∷ ys) (x ∷ y ∷ ys) (IsPermutation-middle (y ∷ []) x ys))
            (IsPermutation-cons y (x ∷ ys) (put rank x ys) rest))
      ]

  -- ---- a list by rank

  pub falling_falls : (xs : List A) → Falls (falling rank xs)
  falling_falls [] = tt
  falling_falls (x ∷ xs) = put_falls x (falling rank xs) (falling_falls xs)

  pub falling_ranked : (v : ℕ) (xs : List A) → ranked rank v (falling rank xs) ≡ ranked rank v xs
  falling_ranked v [] = refl
  falling_ranked v (x ∷ xs) =
      put_ranked v x (falling rank xs) ∙ ap (λ (l : List A). cond (rank x == v) (x ∷ l) l) (falling_ranked v xs)

  pub falling_moves : (xs : List A) → IsPermutation xs (falling rank xs)
  falling_moves [] = IsPermutation-refl []
  falling_moves (x ∷ xs) =
      IsPermutation-trans (x ∷ xs) (x ∷ falling rank xs) (put rank x (falling rank xs))
      (IsPermutation-cons x xs (falling rank xs) (falling_moves xs)) (put_moves x (falling rank xs))

  pub falling_at : (xs : List A) (i j : ℕ) (d : A) → i ≤ j → j < length (falling rank xs)
      → rank (get_or (falling rank xs) j d) ≤ rank (get_or (falling rank xs) i d)
  falling_at xs = falls_at (falling rank xs) (falling_falls xs)

  -- ---- two lists that fall, and have the same elements of each rank in the same order, are one

  self : (x : A) (xs : List A) → ranked rank (rank x) (x ∷ xs) ≡ x ∷ ranked rank (rank x) xs
  self x xs =
      elim (eqb_tells (rank x) (rank x)) [
        | inl h ↦ cond-true (rank x == rank x) (x ∷ ranked rank (rank x) xs) (ranked rank (rank x) xs) h.0
        | inr h ↦ absurd (h.1 refl)
      ]

  rank_in : (v w : ℕ) (a : A) (l zs : List A) → AllUpTo w zs → ranked rank v zs ≡ a ∷ l → v ≤ w
  rank_in v w a l [] all is = absurd (cc is)
  rank_in v w a l (z ∷ zs) all is =
      elim (eqb_tells (rank z) v) [
        | inl h ↦ omega (arith, h.1, all.0)
        | inr h ↦ rank_in v w a l zs all.1 (sym (cond-false (rank z == v) (z ∷ ranked rank v zs) (ranked rank v zs) h.0) ∙ is)
      ]

  tails : (v : ℕ) (y z : A) (l m : List A) → rank y ≡ rank z → cond (rank y == v) (y ∷ l) l ≡ cond (rank z == v) (z ∷ m) m → l ≡ m
  tails v y z l m same is =
      elim (eqb_tells (rank y) v) [
        | inl h ↦
            let both : y ∷ l ≡ z ∷ m = sym (cond-true (rank y == v) (y ∷ l) l h.0) ∙ is
            ∙ cond-true (rank z == v) (z ∷ m) m (ap (λ (n : ℕ). n == v) (sym same) ∙ h.0) in
            cc both
        | inr h ↦ sym (cond-false (rank y == v) (y ∷ l) l h.0) ∙ is
            ∙ cond-false (rank z == v) (z ∷ m) m (ap (λ (n : ℕ). n == v) (sym same) ∙ h.0)
      ]

  falls_unique : (ys zs : List A) → Falls ys → Falls zs → ((x : A) → ranked rank (rank x) ys ≡ ranked rank (rank x) zs) → ys ≡ zs
  falls_unique [] [] f g agree = refl
  falls_unique [] (z ∷ zs) f g agree = absurd (cc (agree z ∙ self z zs))
  falls_unique (y ∷ ys) [] f g agree = absurd (cc (sym (agree y) ∙ self y ys))
  falls_unique (y ∷ ys) (z ∷ zs) f g agree =
      let low : rank y ≤ rank z = rank_in (rank y) (rank z) y (ranked rank (rank y) ys) (z ∷ zs) (omega arith, g.0)
      (sym (agree y) ∙ self y ys) in
      let high : rank z ≤ rank y = rank_in (rank z) (rank y) z (ranked rank (rank z) zs) (y ∷ ys) (omega arith, f.0)
      (agree z ∙ self z zs) in
      let same : rank y ≡ rank z = omega (arith, low, high) in
      let both : y ∷ ranked rank (rank y) ys ≡ z ∷ ranked rank (rank z) zs = sym (self y ys) ∙ agree y
      ∙ ap (λ (v : ℕ). ranked rank v (z ∷ zs)) same ∙ self z zs in
      let first : y ≡ z = cc both in
      ap₂ (λ (a : A) (l : List A). a ∷ l) first (falls_unique ys zs f.1 g.1 (λ x.
      tails (rank x) y z (ranked rank (rank x) ys) (ranked rank (rank x) zs) same (agree x)))

  -- ---- what a stable sort gives

  pub ranks_down : IsStrictWeakOrder (λ x y. is_lt (nat_cmp (rank y) (rank x)))
  ranks_down = IsStrictWeakOrder-flip (λ x y. is_lt (nat_cmp (rank x) (rank y))) (ranks_by nat_cmp_total rank)

  pub falling_from_sort : (xs ys : List A) → IsSortedBy (λ x y. is_lt (nat_cmp (rank y) (rank x))) ys
      → IsStableBy (λ x y. is_lt (nat_cmp (rank y) (rank x))) xs ys → ys ≡ falling rank xs
  falling_from_sort xs ys sorted stable =
      falls_unique ys (falling rank xs) (falls_of ys down) (falling_falls xs) agree
    where
      down : (i j : ℕ) (d : A) → i ≤ j → j < length ys → rank (get_or ys j d) ≤ rank (get_or ys i d)
      down i j d order within =
          ltb-false (rank (get_or ys i d)) (rank (get_or ys j d)) (sym (nat_cmp-lt (rank (get_or ys i d)) (rank (get_or ys j d)))
          ∙ sorted_far (λ x y. is_lt (nat_cmp (rank y) (rank x)))
          ranks_down ys sorted i j d order within)

      tie_is : (x y : A) → ties (λ x y. is_lt (nat_cmp (rank y) (rank x))) x y ≡ (rank y == rank x)
      tie_is x y = (λ i. not (nat_cmp-lt (rank y) (rank x) i) && not (nat_cmp-lt (rank x) (rank y) i)) ∙ tied (rank x) (rank y)

      agree : (x : A) → ranked rank (rank x) ys ≡ ranked rank (rank x) (falling rank xs)
      agree x =
          filter_agree (λ y. rank y == rank x) (ties (λ x y. is_lt (nat_cmp (rank y) (rank x))) x) (λ y. sym (tie_is x y)) ys
          ∙ stable x
          ∙ filter_agree (ties (λ x y. is_lt (nat_cmp (rank y) (rank x))) x) (λ y. rank y == rank x) (tie_is x) xs
          ∙ sym (falling_ranked (rank x) xs)

-- ---- the same elements, told otherwise

module _ {A B : Type 0} (f : A → B) (rank : B → ℕ) where
  map-put : (x : A) (ys : List A) → map f (put (λ a. rank (f a)) x ys) ≡ put rank (f x) (map f ys)
  map-put x [] = refl
  map-put x (y ∷ ys) =
      let rest = map-put x ys in
      elim (nat_le (rank (f y)) (rank (f x))) as (λ b. map f (cond b (x ∷ y ∷ ys) (y ∷ put (λ a. rank (f a)) x ys))
      ≡ cond b (f x ∷ f y ∷ map f ys) (f y ∷ put rank (f x) (map f ys))) [ true ↦ refl | false ↦ ap (λ (l : List B). f y ∷ l) rest ]

  pub map-falling : (xs : List A) → map f (falling (λ a. rank (f a)) xs) ≡ falling rank (map f xs)
  map-falling [] = refl
  map-falling (x ∷ xs) = map-put x (falling (λ a. rank (f a)) xs) ∙ ap (put rank (f x)) (map-falling xs)
