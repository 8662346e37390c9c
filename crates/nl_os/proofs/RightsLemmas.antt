-- What is common to two rights is within each.
use lib.Bits.{bit_and}
use Rattle.std.proofs.Common.{ℕ}
use Rattle.std.proofs.lemmas.Nat.Bits.{bit_at_and}
use Rattle.std.proofs.Math.Nat.{min-le_left, min-le_right}
use Rattle.nl_os.specs.Rights.{IsWithin}

pub within_one : (one other : ℕ) → IsWithin (bit_and one other) one
within_one one other = λ i. rw (bit_at_and one other i) (min-le_left _ _)

pub within_other : (one other : ℕ) → IsWithin (bit_and one other) other
within_other one other = λ i. rw (bit_at_and one other i) (min-le_right _ _)
