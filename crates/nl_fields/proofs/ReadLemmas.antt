-- Digits that are read: the table of their values at each byte up to `f`, by computing, and room for one more.
use Rattle.std.proofs.Common.{◌≡◌, ℕ, zero, suc, ◌+◌, ◌-◌, ◌*◌, ◌^◌, ◌<◌, ◌≤◌, Bool, true, false, ◌&&◌, nat_lt, if◌then◌else◌, get_or, List}
use Rattle.std.proofs.Common.{refl, arith, inl, inr, ◌∙◌}
use Rattle.std.proofs.Math.Dec.{eqb}
use Rattle.std.proofs.lemmas.Bool.{cases_eq, eqb-true}
use Rattle.std.proofs.lemmas.Bool.Decides.{nat_tests}
use Rattle.std.proofs.lemmas.Grind.{pow_more}
use Rattle.std.proofs.lemmas.Nat.{mul-add-lt}
use Rattle.std.proofs.Math.Nat.{mul_comm, pow-le-pow_right}
use Rattle.nl_fields.specs.Digits.{IsDigit}
use Rattle.nl_fields.specs.declared.numbers.TheConstants.{VALUES}

-- the value of a byte as a hexadecimal digit, and 255 of one that is none
value_at : ℕ → ℕ
value_at c = if nat_lt c 48 then 255 else if nat_lt c 58 then c - 48 else if nat_lt c 97 then 255 else if nat_lt c 103 then c - 87 else 255

is_digit : (base c : ℕ) → base ≤ 16 → value_at c < base → IsDigit base (value_at c) c
unfolding value_at
is_digit base c small less = record { below = less; byte = grind (arith, nat_tests, small, less) }

has_value : (base d c : ℕ) → base ≤ 16 → IsDigit base d c → value_at c ≡ d
unfolding value_at
has_value base d c small digit = grind (arith, nat_tests, small, digit.below, digit.byte)

-- the table has these values below n
holds_below : List ℕ → ℕ → Bool
holds_below table zero = true
holds_below table (suc n) = eqb (get_or table n 0) (value_at n) && holds_below table n

both_of : (x rest : Bool) → (x && rest) ≡ true → (x ≡ true) × (rest ≡ true)
both_of true rest h = (refl, h)
both_of false rest h = cc

holds_at : (table : List ℕ) (n : ℕ) → holds_below table n ≡ true → (c : ℕ) → c < n → get_or table c 0 ≡ value_at c
unfolding holds_below
holds_at table zero h c lt = absurd (omega arith)
holds_at table (suc n) h c lt =
    let both = both_of (eqb (get_or table n 0) (value_at n)) (holds_below table n) h in
    elim (cases_eq c n) [ inl same ↦ rw same (eqb-true _ _ both.0) | inr other ↦ holds_at table n both.1 c (omega arith) ]

table_holds : holds_below VALUES 103 ≡ true
unfolding holds_below value_at
table_holds = refl

-- what the table has below the base is the value of the digit
pub digit_there : (base c : ℕ) → base ≤ 16 → c < 103 → get_or VALUES c 0 < base → IsDigit base (get_or VALUES c 0) c
digit_there base c small fits less =
    let is = holds_at VALUES 103 table_holds c fits in
    rw is (is_digit base c small (omega (arith, is, less)))

-- no byte above `f` is a digit
pub digit_fits : (base d c : ℕ) → base ≤ 16 → IsDigit base d c → c < 103
unfolding value_at
digit_fits base d c small digit = grind (arith, nat_tests, small, digit.below, digit.byte)

-- a digit has its value in the table
pub digit_found : (base d c : ℕ) → base ≤ 16 → IsDigit base d c → get_or VALUES c 0 ≡ d
digit_found base d c small digit = holds_at VALUES 103 table_holds c (digit_fits base d c small digit) ∙ has_value base d c small digit

-- a number below a power of the base and one digit more are below the next
pub bound_more : (base number digit i : ℕ) → number < base ^ (i + 1) → digit < base → base * number + digit < base ^ (i + 1 + 1)
bound_more base number digit i small below =
    omega (
      arith,
      pow_more base (i + 1),
      mul-add-lt number base digit (base ^ (i + 1)) small below,
      mul_comm base number,
      mul_comm base (base ^ (i + 1)),
    )

-- a number of fewer digits than the longest has room for one more
pub bound_left : (base number digit i longest : ℕ) → number < base ^ (i + 1) → digit < base → i + 2 ≤ longest → base ^ longest ≤ 2 ^ 64
    → base * number + digit < 2 ^ 64
bound_left base number digit i longest small below next fits =
    omega (
      arith,
      bound_more base number digit i small below,
      fits,
      pow-le-pow_right {n = base} (omega (arith, below)) {i = i + 1 + 1} {j = longest} (omega (arith, next)),
    )
