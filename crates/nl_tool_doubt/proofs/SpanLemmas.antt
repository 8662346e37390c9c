-- What spans span together, whatever their order.
use Rattle.std.proofs.Common.{◌≡◌, ◌∙◌, ℕ, ◌<◌, ◌≤◌, List, [], ◌∷◌, ◌++◌, Option, None, Some, length, get_or, zero, suc, refl, sym, ap, arith, inl, inr, IsPermutation}
use Rattle.std.specs.Prelude.{min, max}
use Rattle.std.proofs.Math.ListN.{set, length-set}
use Rattle.std.proofs.lemmas.List.{get_or-set_same, get_or-set_other}
use Rattle.std.proofs.lemmas.List.Sorted.{IsPermutation-keeps}
use Rattle.std.proofs.lemmas.Bool.Decides.{eqb_tells, leb_tells, nat_tests}
use Rattle.std.proofs.lemmas.List.Edits.{swap_is}
use Rattle.nl_tool_doubt.specs.Spans.{both, if_within, within}
use Rattle.nl_tool_doubt.specs.declared.spans.Span.{Span}

pub both_assoc : (a b c : Option Span) → both (both a b) c ≡ both a (both b c)
both_assoc None b c = refl
both_assoc (Some x) None c = refl
both_assoc (Some x) (Some y) None = refl
both_assoc (Some x) (Some y) (Some z) =
    let first : min (min x.first y.first) z.first ≡ min x.first (min y.first z.first) = omega arith in
    let least : min (min x.least y.least) z.least ≡ min x.least (min y.least z.least) = omega arith in
    let greatest : max (max x.greatest y.greatest) z.greatest ≡ max x.greatest (max y.greatest z.greatest) = omega arith in
    λ i. Some (record { first = first i; least = least i; greatest = greatest i })

both_comm : (a b : Option Span) → both a b ≡ both b a
both_comm None None = refl
both_comm None (Some y) = refl
both_comm (Some x) None = refl
both_comm (Some x) (Some y) =
    let first : min x.first y.first ≡ min y.first x.first = omega arith in
    let least : min x.least y.least ≡ min y.least x.least = omega arith in
    let greatest : max x.greatest y.greatest ≡ max y.greatest x.greatest = omega arith in
    λ i. Some (record { first = first i; least = least i; greatest = greatest i })

both_same : (a : Option Span) → both a a ≡ a
both_same None = refl
both_same (Some x) =
    let first : min x.first x.first ≡ x.first = omega arith in
    let least : min x.least x.least ≡ x.least = omega arith in
    let greatest : max x.greatest x.greatest ≡ x.greatest = omega arith in
    λ i. Some (record { first = first i; least = least i; greatest = greatest i })

ends_swapped : (a b c : Option Span) → both (both a b) c ≡ both (both c b) a
ends_swapped a b c = both_comm (both a b) c ∙ ap (both c) (both_comm a b) ∙ sym (both_assoc c b a)

again : (a b : Option Span) → both (both a b) a ≡ both a b
again a b = both_comm (both a b) a ∙ sym (both_assoc a a b) ∙ ap (λ (s : Option Span). both s b) (both_same a)

module _ (from to : ℕ) where
  pub within-append : (xs ys : List Span) → within from to (xs ++ ys) ≡ both (within from to xs) (within from to ys)
  within-append [] ys = refl
  within-append (x ∷ xs) ys =
      ap (both (if_within from to x)) (within-append xs ys) ∙ sym (both_assoc (if_within from to x) (within from to xs) (within from to ys))

  within-set : (l : List Span) (i : ℕ) (v d : Span) → i < length l
      → both (within from to (set l i v)) (if_within from to (get_or l i d)) ≡ both (within from to l) (if_within from to v)
  within-set [] i v d there = absurd (omega arith)
  within-set (x ∷ l) zero v d there = ends_swapped (if_within from to v) (within from to l) (if_within from to x)
  within-set (x ∷ l) (suc i) v d there =
      both_assoc (if_within from to x) (within from to (set l i v)) (if_within from to (get_or l i d))
      ∙ ap (both (if_within from to x)) (within-set l i v d (omega (arith, there)))
      ∙ sym (both_assoc (if_within from to x) (within from to l) (if_within from to v))

  within-there : (l : List Span) (i : ℕ) (d : Span) → i < length l
      → both (within from to l) (if_within from to (get_or l i d)) ≡ within from to l
  within-there [] i d there = absurd (omega arith)
  within-there (x ∷ l) zero d there = again (if_within from to x) (within from to l)
  within-there (x ∷ l) (suc i) d there =
      both_assoc (if_within from to x) (within from to l) (if_within from to (get_or l i d))
      ∙ ap (both (if_within from to x)) (within-there l i d (omega (arith, there)))

  within-swap : (l : List Span) (i j : ℕ) (d : Span) → i < length l → j < length l
      → within from to (set (set l i (get_or l j d)) j (get_or l i d)) ≡ within from to l
  within-swap l i j d p q =
      let x : Span = get_or l i d in
      let y : Span = get_or l j d in
      let w : List Span = set l i y in
      let z : List Span = set w j x in
      let w_long : length w ≡ length l = length-set l i y in
      let z_long : length z ≡ length w = length-set w j x in
      let at_j : get_or w j d ≡ y = elim (eqb_tells j i) [
        | inl h ↦ ap (λ n. get_or w n d) h.1 ∙ get_or-set_same l i y d p
        | inr h ↦ get_or-set_other l i j y d h.1
      ] in
      let at_i : get_or z i d ≡ y = elim (eqb_tells i j) [
        | inl h ↦ ap (λ n. get_or z n d) h.1 ∙ get_or-set_same w j x d (omega (arith, q, w_long)) ∙ ap (λ n. get_or l n d) h.1
        | inr h ↦ get_or-set_other w j i x d h.1 ∙ get_or-set_same l i y d p
      ] in
      let has_y : both (within from to z) (if_within from to y) ≡ within from to z =
      ap (λ (n : Span). both (within from to z) (if_within from to n)) (sym at_i)
      ∙ within-there z i d (omega (arith, p, w_long, z_long)) in
      sym has_y ∙ ap (λ (n : Span). both (within from to z) (if_within from to n)) (sym at_j)
      ∙ within-set w j x d (omega (arith, q, w_long)) ∙ within-set l i y d p ∙ within-there l j d q

  pub within-permutation : (xs ys : List Span) → IsPermutation xs ys → within from to ys ≡ within from to xs
  within-permutation xs ys =
      let d : Span = record { first = 0; least = 0; greatest = 0 } in
      IsPermutation-keeps xs (λ l. within from to l ≡ within from to xs) refl
      (λ l i j p q h. ap (within from to) (sym (swap_is l i j d p q)) ∙ within-swap l i j d p q ∙ h) ys

module _ (from to : ℕ) (s : Span) where
  pub is_there : from ≤ s.first → s.first ≤ to → if_within from to s ≡ Some s
  is_there above below = grind (arith, nat_tests)

  pub is_before : s.first < from → if_within from to s ≡ None
  is_before below = grind (arith, nat_tests)

  pub is_behind : to < s.first → if_within from to s ≡ None
  is_behind above = grind (arith, nat_tests)

-- one of the place of another is there where that is
pub joined : (from to : ℕ) (x s : Span) (n : Span) → x.first ≡ s.first → Some n ≡ both (Some x) (Some s)
    → if_within from to n ≡ both (if_within from to x) (if_within from to s)
joined from to x s n same is =
    let first : n.first ≡ x.first = first_of n x s same is in
    elim (leb_tells from x.first) [
      | inl low ↦ elim (leb_tells x.first to) [
        | inl high ↦
            is_there from to n (omega (arith, first, low.1)) (omega (arith, first, high.1)) ∙ is
            ∙ λ i. both (sym (is_there from to x low.1 high.1) i) (sym (is_there from to s (omega (arith, same, low.1)) (omega (arith, same, high.1))) i)
        | inr high ↦
            is_behind from to n (omega (arith, first, high.1))
            ∙ λ i. both (sym (is_behind from to x high.1) i) (sym (is_behind from to s (omega (arith, same, high.1))) i)
      ]
      | inr low ↦
          is_before from to n (omega (arith, first, low.1))
          ∙ λ i. both (sym (is_before from to x low.1) i) (sym (is_before from to s (omega (arith, same, low.1))) i)
    ]
  where
    first_of : (n x s : Span) → x.first ≡ s.first → Some n ≡ both (Some x) (Some s) → n.first ≡ x.first
    first_of n x s same is =
        let e : n ≡ record { first = min x.first s.first; least = min x.least s.least; greatest = max x.greatest s.greatest } = cc is in
        omega (arith, ap (λ (m : Span). m.first) e, same)
