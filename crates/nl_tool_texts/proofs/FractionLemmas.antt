-- Fractions and percentages as they are told.
use Rattle.std.proofs.Common.{◌≡◌, ◌∙◌, ℕ, ◌*◌, ◌/◌, ◌%◌, ◌<◌, ◌==◌, false, min, List, ◌++◌, Option, None, Some, ap, arith, codes, inl, inr, refl, sym}
use Rattle.std.specs.Prelude.{SomeIff, decimal}
use Rattle.std.specs.Option.{unwrap_or}
use Rattle.std.proofs.Math.Nat.{mul-div_cancel}
use Rattle.std.proofs.lemmas.Bool.{cond-false}
use Rattle.std.proofs.lemmas.Bool.Decides.{eqb_tells, leb_tells}
use Rattle.nl_tool_texts.specs.Fraction.{percent, ratio}

-- a fraction over what is not nothing
pub ratio_told : (n d : ℕ) (text : List ℕ) → (d ≡ 0 → ⊥)
    → text ≡ decimal (n / d) ++ codes "." ++ decimal (n % d * 100 / d / 10) ++ decimal (n % d * 100 / d % 10) → text ≡ ratio n d
ratio_told n d text some is = is ∙ sym (cond-false (d == 0) (codes "0.00") _ other)
  where
    other : (d == 0) ≡ false
    other = elim (eqb_tells d 0) [ inl h ↦ absurd (some h.1) | inr h ↦ h.0 ]

-- a part of nothing is nothing, and what is more than the whole counts as the whole
pub percent_told : (part whole m : ℕ) (o : Option ℕ) → m ≡ min part whole → SomeIff o (0 < whole) (m * 100 / whole) → unwrap_or o 0 ≡ percent part whole
percent_told part whole m None is none =
    elim (eqb_tells whole 0) [ inl h ↦ rw h.0 refl | inr h ↦ absurd (none (omega (arith, h.1))) ]
percent_told part whole m (Some v) is some =
    elim (eqb_tells whole 0) [
      | inl h ↦ absurd (omega (arith, h.1, some.0))
      | inr h ↦ rw h.0 (some.1 ∙ elim (leb_tells whole part) [
        | inl g ↦
            let all : m * 100 ≡ 100 * whole = omega (arith, is, g.1) in
            rw g.0 (ap (λ (n : ℕ). n / whole) all ∙ mul-div_cancel 100 some.0)
        | inr g ↦
            let same : m ≡ part = omega (arith, is, g.1) in
            rw g.0 (ap (λ (n : ℕ). n * 100 / whole) same)
      ])
    ]
