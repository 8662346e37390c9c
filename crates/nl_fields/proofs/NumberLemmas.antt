-- The functions that spell a number and read it back, against the spelling.
use Rattle.std.proofs.Common.{◌≡◌, ◌≢◌, ℕ, zero, suc, ◌+◌, ◌*◌, ◌/◌, ◌%◌, ◌^◌, ◌<◌, ◌≤◌, List, [], ◌∷◌, length, refl, sym, ◌∙◌, ap, subst}
use Rattle.std.proofs.Common.{inl, inr, arith, ℤ, pos, negsuc, neg_ℤ, nat_abs, lt-ltb, le-ltb, ne_eqb, FitsSigned, w32, w64, to_z, of_z}
use Rattle.std.specs.Fmt.{decimal, signed_decimal}
use Rattle.std.proofs.lemmas.Int.{to_z-of_z}
use Rattle.std.specs.List.{All}
use Rattle.std.proofs.lemmas.Bool.{cases_lt}
use Rattle.std.proofs.lemmas.Bool.Decides.{nat_tests}
use Rattle.std.proofs.lemmas.List.{length_push}
use Rattle.std.proofs.lemmas.List.Elements.{All-cons, All-push, All-nil}
use Rattle.std.proofs.lemmas.List.Sums.{fold-append}
use Rattle.std.proofs.Math.Nat.{mul-le-mul_right, pow-suc, pow-zero, div-add-mod, mod-lt, le-div_iff_mul-le, lt_of_mul-lt-mul_left}
use Rattle.nl_fields.specs.Digits.{digit_of, IsDigit, IsDigits, one, more, IsDecimal, last_digits, digits_of, decimal_of, value_of}
use Rattle.nl_fields.specs.Digits.{number_of, integer_of}
use Rattle.nl_fields.proofs.DigitLemmas.{first_of, not_below, same_decimal_spelling, IsDigits-decimal}

-- ---- spelling

IsDigits-last_digits : (k base n : ℕ) → 2 ≤ base → n < 2 ^ suc k → IsDigits base n (last_digits (suc k) base n)
IsDigits-last_digits zero base n two fits =
    let small : n < base = omega arith in
    rw (lt-ltb n base small) (one (record { below = small; byte = refl }))
IsDigits-last_digits (suc k) base n two fits = elim (cases_lt n base) [
  | inl small ↦ rw (lt-ltb n base small) (one (record { below = small; byte = refl }))
  | inr large ↦
      let parts : base * (n / base) + n % base ≡ n = div-add-mod n base in
      let some : 1 ≤ n / base = (le-div_iff_mul-le {k = base} {x = 1} {y = n} (omega arith)).1 (omega arith) in
      let half : n / base < 2 ^ suc k = omega (arith, parts, pow-suc 2 (suc k), mul-le-mul_right (n / base) two, fits) in
      rw (le-ltb n base large) (more (IsDigits-last_digits k base (n / base) two half) some
      (record { below = mod-lt n (omega arith); byte = refl }) (sym parts))
]

pub IsDigits-digits_of : (base n : ℕ) → 2 ≤ base → n < 2 ^ 64 → IsDigits base n (digits_of base n)
unfolding digits_of
IsDigits-digits_of base n two fits = IsDigits-last_digits 63 base n two fits

pub IsDecimal-decimal_of : (n : ℤ) → FitsSigned w64 n → IsDecimal n (decimal_of n)
IsDecimal-decimal_of (pos n) fits = IsDigits-digits_of 10 n (omega arith) (omega (arith, fits.sfits))
IsDecimal-decimal_of (negsuc n) fits = (digits_of 10 (suc n), refl, IsDigits-digits_of 10 (suc n) (omega arith) (omega (arith, fits.sfits)))

-- ---- reading back

value_of-digit_of : (d : ℕ) → value_of (digit_of d) ≡ d
value_of-digit_of d = grind (arith, nat_tests)

value_of-digit : {base d c : ℕ} → IsDigit base d c → value_of c ≡ d
value_of-digit {d = d} digit = ap value_of digit.byte ∙ value_of-digit_of d

pub number_of-digits : {base n : ℕ} {bytes : List ℕ} → IsDigits base n bytes → number_of base bytes ≡ n
unfolding number_of
number_of-digits {base = base} {n = n} (one {c = c} digit) = omega (arith, value_of-digit digit)
number_of-digits {base = base} {n = n} (more {q = q} {d = d} {c = c} {ds = ds} spells some digit value) =
    fold-append (λ m b. base * m + value_of b) 0 ds (c ∷ [])
    ∙ ap (λ m. base * m + value_of c) (number_of-digits spells)
    ∙ ap (λ v. base * q + v) (value_of-digit digit)
    ∙ sym value

number_of-nothing : number_of 10 [] ≡ 0
unfolding number_of
number_of-nothing = refl

digit_is_no_minus : {d c : ℕ} → IsDigit 10 d c → c ≢ 45
digit_is_no_minus {d = d} digit same = high d (sym digit.byte ∙ same)
  where
    high : (d : ℕ) → digit_of d ≡ 45 → ⊥
    high d same = grind (arith, nat_tests)

pub integer_of-decimal : (n : ℤ) (bytes : List ℕ) → IsDecimal n bytes → integer_of bytes ≡ n
integer_of-decimal (pos n) [] spelled = ap pos (sym number_of-nothing ∙ number_of-digits spelled)
integer_of-decimal (pos n) (c ∷ bytes) spelled =
    let first = first_of c bytes spelled in
    rw (ne_eqb c 45 (digit_is_no_minus first.1)) (ap pos (number_of-digits spelled))
integer_of-decimal (negsuc n) bytes spelled = ap integer_of spelled.1 ∙ ap (λ m. neg_ℤ (pos m)) (number_of-digits spelled.2)

-- ---- lengths

pub pow-one : (base : ℕ) → base ^ suc zero ≡ base
pow-one base = pow-suc base zero ∙ ap (λ p. p * base) (pow-zero base) ∙ omega arith

length-digits : {base n : ℕ} {bytes : List ℕ} → IsDigits base n bytes → (k : ℕ) → n < base ^ suc k → length bytes ≤ suc k
length-digits (one digit) k fits = omega arith
length-digits {base = base} {n = n} (more {q = q} {d = d} spells some digit value) zero fits =
    absurd (not_below base n q d (omega (arith, pow-one base, fits)) some value)
length-digits {base = base} {n = n} (more {q = q} {d = d} {c = c} {ds = ds} spells some digit value) (suc k) fits =
    let less : base * q < base * base ^ suc k = omega (arith, value, fits, pow-suc base (suc k)) in
    omega (arith, length_push ds c, length-digits spells k (lt_of_mul-lt-mul_left base less))

pub length_within : {base n : ℕ} {bytes : List ℕ} → IsDigits base n bytes → (longest : ℕ) → 1 ≤ longest → n < base ^ longest
    → length bytes ≤ longest
length_within spelled zero some fits = absurd (omega arith)
length_within spelled (suc k) some fits = length-digits spelled k fits

pub length-hexadecimal : {n : ℕ} {bytes : List ℕ} → IsDigits 16 n bytes → n < 2 ^ 64 → length bytes ≤ 16
length-hexadecimal spelled fits = length-digits spelled 15 (omega arith)

length-decimal : (n : ℤ) (k : ℕ) (bytes : List ℕ) → IsDecimal n bytes → nat_abs n < 10 ^ suc k → length bytes ≤ suc (suc k)
length-decimal (pos n) k bytes spelled fits = omega (arith, length-digits spelled k fits)
length-decimal (negsuc n) k bytes spelled fits = omega (arith, ap length spelled.1, length-digits spelled.2 k fits)

pub length-decimal32 : (n : ℤ) (bytes : List ℕ) → FitsSigned w32 n → IsDecimal n bytes → length bytes ≤ 11
length-decimal32 n bytes fits spelled = length-decimal n 9 bytes spelled (small n fits)
  where
    small : (n : ℤ) → FitsSigned w32 n → nat_abs n < 10 ^ 10
    small (pos n) fits = omega (arith, fits.sfits)
    small (negsuc n) fits = omega (arith, fits.sfits)

pub length-decimal64 : (n : ℤ) (bytes : List ℕ) → FitsSigned w64 n → IsDecimal n bytes → length bytes ≤ 20
length-decimal64 n bytes fits spelled = length-decimal n 18 bytes spelled (small n fits)
  where
    small : (n : ℤ) → FitsSigned w64 n → nat_abs n < 10 ^ 19
    small (pos n) fits = omega (arith, fits.sfits)
    small (negsuc n) fits = omega (arith, fits.sfits)

-- ---- bytes

pub All-digits : {base n : ℕ} {bytes : List ℕ} (P : ℕ → Type 0) → ((d : ℕ) → P (digit_of d)) → IsDigits base n bytes → All P bytes
All-digits {n = n} P each (one {c = c} digit) = All-cons P c [] (subst P (sym digit.byte) (each n)) (All-nil P)
All-digits P each (more {d = d} {c = c} {ds = ds} spells some digit value) =
    All-push P ds c (All-digits P each spells) (subst P (sym digit.byte) (each d))

pub All-decimal : (P : ℕ → Type 0) → ((d : ℕ) → P (digit_of d)) → P 45 → (n : ℤ) (bytes : List ℕ) → IsDecimal n bytes → All P bytes
All-decimal P each minus (pos n) bytes spelled = All-digits P each spelled
All-decimal P each minus (negsuc n) bytes spelled =
    subst (All P) (sym spelled.1) (All-cons P 45 spelled.0 minus (All-digits P each spelled.2))

-- ---- printing

IsDecimal-signed_decimal : (n : ℤ) → FitsSigned w64 n → IsDecimal n (signed_decimal n)
IsDecimal-signed_decimal (pos n) fits = IsDigits-decimal n (omega (arith, fits.sfits))
IsDecimal-signed_decimal (negsuc n) fits = (decimal (suc n), refl, IsDigits-decimal (suc n) (omega (arith, fits.sfits)))

-- what itoa prints of a machine number is the spelling
pub printed : (n : ℤ) → FitsSigned w64 n → {text : List ℕ} → text ≡ signed_decimal (to_z w64 (of_z w64 n)) → text ≡ decimal_of n
printed n fits is =
    is ∙ ap signed_decimal (to_z-of_z w64 n fits) ∙ same_decimal_spelling n (IsDecimal-signed_decimal n fits) (IsDecimal-decimal_of n fits)
