-- Sums that may be too large.
use Rattle.std.proofs.Common.{◌≡◌, ◌∙◌, ℕ, Option, None, Some, sym}
use Rattle.std.specs.Prelude.{SomeIff}

-- what one is, where it is there
pub sum_is : (o : Option ℕ) (P : Type 0) (x y : ℕ) → SomeIff o P x → o ≡ Some y → y ≡ x
sum_is None P x y is some = cc
sum_is (Some z) P x y is some = let same : z ≡ y = cc in sym same ∙ is.1
