-- Each command of two logs is in one class.
use Rattle.std.proofs.Common.{◌≡◌, ◌∙◌, ℕ, ◌+◌, ◌*◌, Bool, true, false, cond, List, [], ◌∷◌, arith, ap, ap₂, refl, sym}
use Rattle.std.specs.Prelude.{count_by}
use Rattle.std.specs.List.{sum_by}
use Rattle.std.proofs.lemmas.List.Sums.{sum_by-cons}
use Rattle.nl_reports.specs.Compare.{Compared, classes, is_of, of_class}
use Rattle.nl_reports.specs.declared.sides.Class.{Class}
use Rattle.nl_reports.specs.declared.sides.Class.TheVariants.{New, Gone, Changed, Slower, Faster, Unfinished, Same}

-- ---- the classes

one_class : (class : Class) (old new : ℕ) (output : List ℕ)
    → count_by (λ k. is_of k (record { class = class; old = old; new = new; output = output })) classes ≡ 1
one_class New old new output = refl
one_class Gone old new output = refl
one_class Changed old new output = refl
one_class Slower old new output = refl
one_class Faster old new output = refl
one_class Unfinished old new output = refl
one_class Same old new output = refl

pub in_one_class : (c : Compared) → count_by (λ k. is_of k c) classes ≡ 1
in_one_class c = one_class c.class c.old c.new c.output

module _ (f : Compared → ℕ) where
  abbrev summed : List Compared → List Class → ℕ
  summed cs ks = sum_by (λ k. sum_by f (of_class k cs)) ks

  one_kept : (b : Bool) (c : Compared) (cs : List Compared) → sum_by f (cond b (c ∷ cs) cs) ≡ cond b 1 0 * f c + sum_by f cs
  one_kept true c cs = sum_by-cons f c cs ∙ omega arith
  one_kept false c cs = nothing_more (f c) (sum_by f cs)
    where
      nothing_more : (x y : ℕ) → y ≡ 0 * x + y
      nothing_more x y = omega arith

  none_summed : (ks : List Class) → summed [] ks ≡ 0
  none_summed [] = refl
  none_summed (k ∷ ks) = sum_by-cons (λ k. sum_by f (of_class k [])) k ks ∙ still_none (summed [] ks) (none_summed ks)
    where
      still_none : (n : ℕ) → n ≡ 0 → 0 + n ≡ 0
      still_none n none = omega (arith, none)

  more_summed : (c : Compared) (cs : List Compared) (ks : List Class)
      → summed (c ∷ cs) ks ≡ count_by (λ k. is_of k c) ks * f c + summed cs ks
  more_summed c cs [] = nothing (f c)
    where
      nothing : (x : ℕ) → 0 ≡ 0 * x + 0
      nothing x = omega arith
  more_summed c cs (k ∷ ks) =
      let head : sum_by f (of_class k (c ∷ cs)) ≡ cond (is_of k c) 1 0 * f c + sum_by f (of_class k cs) = one_kept (is_of k c) c (of_class k cs) in
      let count : count_by (λ k. is_of k c) (k ∷ ks) ≡ cond (is_of k c) 1 0 + count_by (λ k. is_of k c) ks =
      sum_by-cons (λ k. cond (is_of k c) 1 0) k ks in
      sum_by-cons (λ k. sum_by f (of_class k (c ∷ cs))) k ks
      ∙ ap₂ (λ (a b : ℕ). a + b) head (more_summed c cs ks)
      ∙ regroup (is_of k c) (count_by (λ k. is_of k c) ks) (f c) (sum_by f (of_class k cs)) (summed cs ks)
      ∙ ap₂ (λ (a b : ℕ). a * f c + b) (sym count) (sym (sum_by-cons (λ k. sum_by f (of_class k cs)) k ks))
    where
      regroup : (b : Bool) (n x y z : ℕ) → (cond b 1 0 * x + y) + (n * x + z) ≡ (cond b 1 0 + n) * x + (y + z)
      regroup true n x y z = omega arith
      regroup false n x y z = omega arith

  pub classes_summed : (cs : List Compared) → summed cs classes ≡ sum_by f cs
  classes_summed [] = none_summed classes
  classes_summed (c ∷ cs) =
      more_summed c cs classes ∙ ap (λ (n : ℕ). n * f c + summed cs classes) (in_one_class c)
      ∙ ap (λ (n : ℕ). 1 * f c + n) (classes_summed cs) ∙ once (f c) (sum_by f cs) ∙ sym (sum_by-cons f c cs)
    where
      once : (x y : ℕ) → 1 * x + y ≡ x + y
      once x y = omega arith
