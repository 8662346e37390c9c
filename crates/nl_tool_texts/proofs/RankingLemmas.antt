-- Of many items the few that rank highest.
use Rattle.std.proofs.Common.{◌≡◌, ◌∙◌, ℕ, ◌+◌, ◌<◌, ◌≤◌, true, false, cond, List, [], ◌∷◌, ◌++◌, get_or, length, take, zero, suc, refl, sym, ap, subst, arith}
use Rattle.std.specs.Prelude.{nat_le, nat_lt}
use Rattle.std.specs.List.{insert}
use Rattle.std.specs.List.Sorted.{IsPartitionedBy}
use Rattle.std.proofs.lemmas.Bool.{cond-false, cond-true, le-leb, leb-true, le-ltb, lt-ltb}
use Rattle.std.proofs.lemmas.Bool.Decides.{nat_tests}
use Rattle.std.proofs.lemmas.List.{take-take}
use Rattle.nl_tool_texts.specs.Falling.{falling, put}
use Rattle.nl_tool_texts.proofs.FallingLemmas.{AllUpTo, Falls, falling_falls, falls_at}

take_again : {A : Type 0} (n : ℕ) (y : A) (ys : List A) → take n (y ∷ ys) ≡ take n (y ∷ take n ys)
take_again zero y ys = refl
take_again (suc n) y ys = ap (λ l. y ∷ l) (sym (take-take n (suc n) ys (omega arith)))

-- what stands behind so many doesn't matter
insert_behind : {A : Type 0} (n at : ℕ) (x : A) (xs : List A) → n ≤ at → at ≤ length xs → take n (insert xs at x) ≡ take n xs
insert_behind zero zero x [] le within = refl
insert_behind zero zero x (y ∷ ys) le within = refl
insert_behind zero (suc at) x [] le within = refl
insert_behind zero (suc at) x (y ∷ ys) le within = refl
insert_behind (suc n) zero x xs le within = absurd (omega (arith, le))
insert_behind (suc n) (suc at) x [] le within = absurd (omega (arith, within))
insert_behind (suc n) (suc at) x (y ∷ ys) le within =
    ap (λ l. y ∷ l) (insert_behind n at x ys (omega (arith, le)) (omega (arith, within)))

module _ {A : Type 0} (rank : A → ℕ) where
  -- an element more: it stands behind those that rank as high
  abbrev put_behind : A → List A → List A
  put_behind x [] = x ∷ []
  put_behind x (y ∷ ys) = cond (nat_lt (rank y) (rank x)) (x ∷ y ∷ ys) (y ∷ put_behind x ys)

  behind_take : (n : ℕ) (x : A) (ys : List A) → take n (put_behind x ys) ≡ take n (put_behind x (take n ys))
  behind_take zero x [] = refl
  behind_take (suc n) x [] = refl
  behind_take zero x (y ∷ ys) =
      elim (nat_lt (rank y) (rank x)) as (λ b. take 0 (cond b (x ∷ y ∷ ys) (y ∷ put_behind x ys)) ≡ []) [ true ↦ refl | false ↦ refl ]
  behind_take (suc n) x (y ∷ ys) =
      let rest = behind_take n x ys in
      elim (nat_lt (rank y) (rank x)) as (λ b. take (suc n) (cond b (x ∷ y ∷ ys) (y ∷ put_behind x ys))
      ≡ take (suc n) (cond b (x ∷ y ∷ take n ys) (y ∷ put_behind x (take n ys)))) [
        | true ↦ ap (λ l. x ∷ l) (take_again n y ys)
        | false ↦ ap (λ l. y ∷ l) rest
      ]

  -- two elements more, one before and one behind
  both_put : (x y : A) (zs : List A) → put rank y (put_behind x zs) ≡ put_behind x (put rank y zs)
  both_put x y [] = grind (arith, nat_tests)
  both_put x y (z ∷ zs) =
      let rest = both_put x y zs in
      grind (rest, arith, nat_tests)

  falling_behind : (xs : List A) (x : A) → falling rank (xs ++ x ∷ []) ≡ put_behind x (falling rank xs)
  falling_behind [] x = refl
  falling_behind (y ∷ ys) x = ap (put rank y) (falling_behind ys x) ∙ both_put x y (falling rank ys)

  up_to_take : (v n : ℕ) (xs : List A) → AllUpTo rank v xs → AllUpTo rank v (take n xs)
  up_to_take v zero [] all = tt
  up_to_take v (suc n) [] all = tt
  up_to_take v zero (x ∷ xs) all = tt
  up_to_take v (suc n) (x ∷ xs) all = (all.0, up_to_take v n xs all.1)

  falls_take : (n : ℕ) (xs : List A) → Falls rank xs → Falls rank (take n xs)
  falls_take zero [] falls = tt
  falls_take (suc n) [] falls = tt
  falls_take zero (x ∷ xs) falls = tt
  falls_take (suc n) (x ∷ xs) falls = (up_to_take (rank x) n xs falls.0, falls_take n xs falls.1)

  -- those that rank as high stand before the others
  pub partitioned : (n t : ℕ) (xs ks : List A) → ks ≡ take n (falling rank xs) → IsPartitionedBy (λ y. nat_le t (rank y)) ks
  partitioned n t xs ks is i j d order within high =
      let falls : Falls rank ks = subst (Falls rank) (sym is) (falls_take n (falling rank xs) (falling_falls rank xs)) in
      le-leb t (rank (get_or ks i d)) (omega (arith, leb-true t (rank (get_or ks j d)) high, falls_at rank ks falls i j d order within))

  put_at : (x : A) (at : ℕ) (ks : List A) → Falls rank ks → at ≤ length ks
      → ((k : ℕ) (d : A) → k + 1 ≡ at → rank x ≤ rank (get_or ks k d))
      → ((k : ℕ) (d : A) → at ≤ k → k < length ks → rank (get_or ks k d) < rank x) → put_behind x ks ≡ insert ks at x
  put_at x zero [] falls within higher lower = refl
  put_at x (suc at) [] falls within higher lower = absurd (omega (arith, within))
  put_at x zero (y ∷ ys) falls within higher lower =
      cond-true (nat_lt (rank y) (rank x)) (x ∷ y ∷ ys) (y ∷ put_behind x ys)
      (lt-ltb (rank y) (rank x) (lower 0 y (omega arith) (omega arith)))
  put_at x (suc at) (y ∷ ys) falls within higher lower =
      let high = higher at y (omega arith) in
      let first = falls_at rank (y ∷ ys) falls 0 at y (omega arith) (omega (arith, within)) in
      cond-false (nat_lt (rank y) (rank x)) (x ∷ y ∷ ys) (y ∷ put_behind x ys) (le-ltb (rank y) (rank x) (omega (arith, high, first)))
      ∙ ap (λ l. y ∷ l) (put_at x at ys falls.1 (omega (arith, within)) (λ k d is. higher (suc k) d (omega (arith, is)))
      (λ k d le there. lower (suc k) d (omega (arith, le)) (omega (arith, there))))

  -- the highest of some and of one more
  pub one_more : (n at : ℕ) (x : A) (xs ks : List A) → ks ≡ take n (falling rank xs) → at ≤ length ks
      → ((k : ℕ) (d : A) → k + 1 ≡ at → rank x ≤ rank (get_or ks k d))
      → ((k : ℕ) (d : A) → at ≤ k → k < length ks → rank (get_or ks k d) < rank x)
      → take n (insert ks at x) ≡ take n (falling rank (xs ++ x ∷ []))
  one_more n at x xs ks is within higher lower =
      ap (take n) (sym (put_at x at ks (subst (Falls rank) (sym is) (falls_take n (falling rank xs) (falling_falls rank xs))) within higher lower))
      ∙ ap (λ l. take n (put_behind x l)) is ∙ sym (behind_take n x (falling rank xs)) ∙ ap (take n) (sym (falling_behind xs x))

  pub none_more : (n at : ℕ) (x : A) (xs ks : List A) → n ≤ at → ks ≡ take n (falling rank xs) → at ≤ length ks
      → ((k : ℕ) (d : A) → k + 1 ≡ at → rank x ≤ rank (get_or ks k d))
      → ((k : ℕ) (d : A) → at ≤ k → k < length ks → rank (get_or ks k d) < rank x)
      → ks ≡ take n (falling rank (xs ++ x ∷ []))
  none_more n at x xs ks le is within higher lower =
      is ∙ sym (take-take n n (falling rank xs) (omega arith)) ∙ ap (take n) (sym is) ∙ sym (insert_behind n at x ks le within)
      ∙ one_more n at x xs ks is within higher lower
