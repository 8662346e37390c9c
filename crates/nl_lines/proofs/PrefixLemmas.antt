-- Prefixes of lists.
use Rattle.std.proofs.Common.{◌≡◌, ◌≢◌, ◌⊎◌, ◌∙◌, ℕ, ◌≤◌, List, [], ◌∷◌, ◌++◌, length, take, drop, refl, sym, ap, subst, inl, inr, arith}
use Rattle.std.proofs.Common.{append_assoc, take-append-drop, length-take}
use Rattle.std.proofs.lemmas.List.{append-nil, take_all}
use Rattle.std.proofs.lemmas.List.Elements.{All-take}
use Rattle.std.proofs.Math.Seq.{take-append_seam}
use Rattle.nl_lines.specs.Prefix.{IsPrefix}
use Rattle.nl_lines.specs.Split.{NoNewline, with_newline}

-- what a prefix leaves
pub prefix_joins : {X : Type 0} (f xs : List X) → IsPrefix f xs → xs ≡ f ++ drop (length f) xs
prefix_joins f xs is = sym (take-append-drop (length f) xs) ∙ ap (λ l. l ++ drop (length f) xs) is

pub prefix_of : {X : Type 0} (f left xs : List X) → xs ≡ f ++ left → IsPrefix f xs
prefix_of f left xs joins = ap (take (length f)) joins ∙ take-append_seam f left

pub prefix_itself : {X : Type 0} (xs : List X) → IsPrefix xs xs
prefix_itself xs = take_all (length xs) xs (omega arith)

pub prefix_nil : {X : Type 0} (xs : List X) → IsPrefix [] xs
prefix_nil xs = prefix_of [] xs xs refl

pub prefix_more : {X : Type 0} (f xs more : List X) → IsPrefix f xs → IsPrefix f (xs ++ more)
prefix_more f xs more is = prefix_of f (drop (length f) xs ++ more) (xs ++ more)
    (ap (λ l. l ++ more) (prefix_joins f xs is) ∙ append_assoc f (drop (length f) xs) more)

pub prefix_trans : {X : Type 0} (f g xs : List X) → IsPrefix f g → IsPrefix g xs → IsPrefix f xs
prefix_trans f g xs a b = subst (IsPrefix f) (sym (prefix_joins g xs b)) (prefix_more f g (drop (length g) xs) a)

pub prefix_length : {X : Type 0} (f xs : List X) → IsPrefix f xs → length f ≤ length xs
prefix_length f xs is = omega (arith, ap length is, length-take (length f) xs)

pub prefix_whole : {X : Type 0} (f xs : List X) → IsPrefix f xs → length xs ≤ length f → f ≡ xs
prefix_whole f xs is long = sym is ∙ take_all (length f) xs long

pub prefix_take : {X : Type 0} (n : ℕ) (xs : List X) → IsPrefix (take n xs) xs
prefix_take n xs = prefix_of (take n xs) (drop n xs) xs (sym (take-append-drop n xs))

-- a list that is cut in two ways: the one cut stands before the other or after it
split_at : {X : Type 0} (a b c left : List X) → a ++ b ≡ c ++ left
    → ((more : List X) × (a ≡ c ++ more)) ⊎ ((f : List X) × (c ≡ a ++ f) × (b ≡ f ++ left))
split_at [] b c left e = inr (c, refl, e)
split_at (x ∷ a) b [] left e = inl (x ∷ a, refl)
split_at (x ∷ a) b (y ∷ c) left e =
    let heads : x ≡ y = cc in
    let tails : a ++ b ≡ c ++ left = cc in
    elim (split_at a b c left tails) [
      | inl within ↦ inl (within.0, (λ i. heads i ∷ within.1 i))
      | inr past ↦ inr (past.0, (λ i. sym heads i ∷ past.1 i), past.2)
    ]

-- a prefix of two lists together is a prefix of the first, or all of it and a prefix of the second
pub prefix_split : {X : Type 0} (a b c : List X) → IsPrefix c (a ++ b) → IsPrefix c a ⊎ ((f : List X) × (c ≡ a ++ f) × IsPrefix f b)
prefix_split a b c is = elim (split_at a b c (drop (length c) (a ++ b)) (prefix_joins c (a ++ b) is)) [
  | inl within ↦ inl (prefix_of c within.0 a within.1)
  | inr past ↦ inr (past.0, past.1, prefix_of past.0 (drop (length c) (a ++ b)) b past.2)
]

-- a prefix of one element
one_prefix : {X : Type 0} (x : X) (f : List X) → IsPrefix f (x ∷ []) → (f ≡ []) ⊎ (f ≡ x ∷ [])
one_prefix x [] is = inl refl
one_prefix x (y ∷ f) is = inr (prefix_whole (y ∷ f) (x ∷ []) is (omega arith))

-- a prefix of a list with one element more
pub prefix_push : {X : Type 0} (f xs : List X) (x : X) → IsPrefix f (xs ++ x ∷ []) → IsPrefix f xs ⊎ (f ≡ xs ++ x ∷ [])
prefix_push f xs x is = elim (prefix_split xs (x ∷ []) f is) [
  | inl within ↦ inl within
  | inr past ↦ elim (one_prefix x past.0 past.2) [
    | inl none ↦ inl (subst (λ g. IsPrefix g xs) (sym (past.1 ∙ ap (λ g. xs ++ g) none ∙ append-nil xs)) (prefix_itself xs))
    | inr one ↦ inr (past.1 ∙ ap (λ g. xs ++ g) one)
  ]
]

pub plain_prefix : (f xs : List ℕ) → IsPrefix f xs → NoNewline xs → NoNewline f
plain_prefix f xs is plain = subst NoNewline is (All-take (λ b. b ≢ 10) (length f) xs plain)

-- a prefix of a line with its newline is all of it, or has no newline
pub line_prefix : (line f : List ℕ) → NoNewline line → IsPrefix f (with_newline line) → (f ≡ with_newline line) ⊎ NoNewline f
line_prefix line f plain is = elim (prefix_push f line 10 is) [
  | inl within ↦ inr (plain_prefix f line within plain)
  | inr whole ↦ inl whole
]
