-- How numbers are spelled: docs/FORMAT.md, "Canonical spelling".
use Rattle.std.specs.Prelude.{◌≡◌, ℕ, zero, suc, ◌+◌, ◌-◌, ◌*◌, ◌/◌, ◌%◌, ◌<◌, ◌≤◌, nat_lt, ◌==◌, if◌then◌else◌, List, [], ◌∷◌, ◌++◌, fold}
use Rattle.std.specs.Prelude.{ℤ, pos, negsuc, neg_ℤ}

-- the digit of value d: `0` to `9`, and from ten on `a` to `f`
abbrev pub digit_of : ℕ → ℕ
digit_of d = if nat_lt d 10 then 48 + d else 87 + d

-- c is the digit of value d in the base
pub record IsDigit (base d c : ℕ) : Type 0 where
  pub below : d < base
  pub byte : c ≡ digit_of d

-- the bytes are the one digit of the number, or the digits of its quotient, at least 1, and then the digit of its remainder
pub data IsDigits (base : ℕ) : ℕ → List ℕ → Type 0 where
  one : {n c : ℕ} → IsDigit base n c → IsDigits base n (c ∷ [])
  more : {n q d c : ℕ} {ds : List ℕ} → IsDigits base q ds → 1 ≤ q → IsDigit base d c → n ≡ base * q + d → IsDigits base n (ds ++ c ∷ [])

-- the bytes are the number in decimal, with a `-` before a negative one
abbrev pub IsDecimal : ℤ → List ℕ → Type 0
IsDecimal (pos n) bytes = IsDigits 10 n bytes
IsDecimal (negsuc n) bytes = (digits : List ℕ) × (bytes ≡ 45 ∷ digits) × IsDigits 10 (suc n) digits

-- the last k digits of a number in a base, without a leading zero
abbrev pub last_digits : ℕ → ℕ → ℕ → List ℕ
last_digits zero base n = []
last_digits (suc k) base n = if nat_lt n base then digit_of n ∷ [] else last_digits k base (n / base) ++ digit_of (n % base) ∷ []

-- the spelling in a base of a number below 2 ^ 64
unfoldable pub digits_of : ℕ → ℕ → List ℕ
digits_of base n = last_digits 64 base n

abbrev pub decimal_of : ℤ → List ℕ
decimal_of (pos n) = digits_of 10 n
decimal_of (negsuc n) = 45 ∷ digits_of 10 (suc n)

-- the value of a byte as a digit
abbrev pub value_of : ℕ → ℕ
value_of c = if nat_lt c 97 then c - 48 else c - 87

-- the number that bytes make in a base where each is taken as a digit
unfoldable pub number_of : ℕ → List ℕ → ℕ
number_of base bytes = fold (λ n c. base * n + value_of c) 0 bytes

-- what digits spell in decimal, negative where a `-` comes first
abbrev pub integer_of : List ℕ → ℤ
integer_of [] = pos 0
integer_of (c ∷ bytes) = if c == 45 then neg_ℤ (pos (number_of 10 bytes)) else pos (number_of 10 (c ∷ bytes))
