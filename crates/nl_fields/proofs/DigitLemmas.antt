-- Laws of the spelling of numbers: it is unique both ways, and a prefix of a spelling spells a number that is no larger.
use Rattle.std.proofs.Common.{◌≡◌, ℕ, suc, ◌+◌, ◌-◌, ◌*◌, ◌%◌, ◌^◌, ◌<◌, ◌≤◌, List, [], ◌∷◌, ◌++◌, length, take, drop, get_or, refl, sym}
use Rattle.std.proofs.Common.{◌∙◌, ap, subst, inl, inr, ◌⊎◌, arith, length-append, add-one, ℤ, pos, negsuc, ◌-ℤ◌, Option, Some, None}
use Rattle.std.proofs.Common.{FitsSigned, SomeIff, w64}
use Rattle.std.proofs.lemmas.Int.{ints}
use Rattle.std.proofs.lemmas.Bool.Decides.{nat_tests}
use Rattle.std.proofs.lemmas.List.{same_from_push, take-append-le, take_all, take_more, length_push, take-append-drop}
use Rattle.std.proofs.lemmas.Bool.{cases_lt}
use Rattle.std.proofs.Math.Seq.{take-append-add}
use Rattle.std.proofs.lemmas.Nat.{same_from_place}
use Rattle.std.proofs.Math.Nat.{mul-le-mul_left, mul-le-mul_right}
use Rattle.std.proofs.Math.Seq.{drop-cons}
use Rattle.std.proofs.lemmas.Fmt.{decimal_by_steps}
use Rattle.std.specs.Fmt.{decimal}
use Rattle.nl_fields.specs.Digits.{digit_of, IsDigit, IsDigits, one, more, IsDecimal}

decimal_digit : (d : ℕ) → d < 10 → 48 + d ≡ digit_of d
decimal_digit d small = grind (arith, nat_tests)

same_digit : (d e : ℕ) → digit_of d ≡ digit_of e → d ≡ e
same_digit d e same = grind (arith, nat_tests)

-- what itoa prints is the spelling
pub IsDigits-decimal : (n : ℕ) → n < 2 ^ 64 → IsDigits 10 n (decimal n)
IsDigits-decimal = decimal_by_steps (IsDigits 10)
    (λ n small. one (record { below = small; byte = decimal_digit n small }))
    (λ n ds large front.
    more front (omega arith) (record { below = omega arith; byte = decimal_digit (n % 10) (omega arith) }) (omega arith))

-- a spelling of two digits or more, taken apart before its last
record Pushed (base n : ℕ) (bytes : List ℕ) : Type 0 where
  front : List ℕ
  last : ℕ
  quotient : ℕ
  remainder : ℕ
  is : bytes ≡ front ++ last ∷ []
  spells : IsDigits base quotient front
  some : 1 ≤ quotient
  digit : IsDigit base remainder last
  value : n ≡ base * quotient + remainder

by_last : {base n : ℕ} {bytes : List ℕ} → IsDigits base n bytes → ((c : ℕ) × (bytes ≡ c ∷ []) × IsDigit base n c) ⊎ Pushed base n bytes
by_last (one {c = c} digit) = inl (c, refl, digit)
by_last (more {q = q} {d = d} {c = c} {ds = ds} spells some digit value) =
    inr
    (record { front = ds; last = c; quotient = q; remainder = d; is = refl; spells = spells; some = some; digit = digit; value = value })

pub nonempty : {base n : ℕ} {bytes : List ℕ} → IsDigits base n bytes → 0 < length bytes
nonempty (one digit) = omega arith
nonempty (more {c = c} {ds = ds} spells some digit value) = omega (arith, length_push ds c)

single_not_pushed : {base n : ℕ} (c : ℕ) {bytes : List ℕ} → bytes ≡ c ∷ [] → Pushed base n bytes → ⊥
single_not_pushed c is pushed = omega (arith, nonempty pushed.spells, length_push pushed.front pushed.last, ap length (sym is ∙ pushed.is))

-- a spelling has one number
same_value_along : {base m n : ℕ} {bs cs : List ℕ} → IsDigits base m bs → IsDigits base n cs → bs ≡ cs → m ≡ n
same_value_along {m = m} {n = n} (one {c = c} digit) other same =
    elim (by_last other) [
      | inl (e, is, other_digit) ↦
          let heads : c ≡ e = cc in
          same_digit m n (sym digit.byte ∙ heads ∙ other_digit.byte)
      | inr pushed ↦ absurd (single_not_pushed c (sym same) pushed)
    ]
same_value_along {base = base} (more {q = q} {d = d} {c = c} {ds = ds} spells some digit value) other same =
    elim (by_last other) [
      | inl (e, is, other_digit) ↦ absurd (omega (arith, nonempty spells, length_push ds c, ap length (same ∙ is)))
      | inr pushed ↦
          let parts = same_from_push ds pushed.front c pushed.last (same ∙ pushed.is) in
          let quotients : q ≡ pushed.quotient = same_value_along spells pushed.spells parts.0 in
          let remainders : d ≡ pushed.remainder = same_digit d pushed.remainder (sym digit.byte ∙ parts.1 ∙ pushed.digit.byte) in
          cc
    ]

pub same_value : {base m n : ℕ} {bytes : List ℕ} → IsDigits base m bytes → IsDigits base n bytes → m ≡ n
same_value left right = same_value_along left right refl

pub not_below : (base n q d : ℕ) → n < base → 1 ≤ q → n ≡ base * q + d → ⊥
not_below base n q d small some value = omega (arith, mul-le-mul_left base some)

-- a number has one spelling
same_spelling_along : {base m n : ℕ} {bs cs : List ℕ} → IsDigits base m bs → IsDigits base n cs → m ≡ n → bs ≡ cs
same_spelling_along {base = base} {m = m} {n = n} (one {c = c} digit) other same =
    elim (by_last other) [
      | inl (e, is, other_digit) ↦ ap (λ (x : ℕ). x ∷ []) (digit.byte ∙ ap digit_of same ∙ sym other_digit.byte) ∙ sym is
      | inr pushed ↦ absurd (not_below base m pushed.quotient pushed.remainder digit.below pushed.some (same ∙ pushed.value))
    ]
same_spelling_along {base = base} {n = n} (more {q = q} {d = d} {c = c} {ds = ds} spells some digit value) other same =
    elim (by_last other) [
      | inl (e, is, other_digit) ↦ absurd (not_below base n q d other_digit.below some (sym same ∙ value))
      | inr pushed ↦
          let places = same_from_place q d pushed.quotient pushed.remainder base digit.below pushed.digit.below
          (omega (arith, value, pushed.value, same)) in
          let fronts : ds ≡ pushed.front = same_spelling_along spells pushed.spells places.0 in
          let bytes : c ≡ pushed.last = digit.byte ∙ ap digit_of places.1 ∙ sym pushed.digit.byte in
          cc
    ]

pub same_spelling : {base n : ℕ} {bs cs : List ℕ} → IsDigits base n bs → IsDigits base n cs → bs ≡ cs
same_spelling left right = same_spelling_along left right refl

some_base : {base d c : ℕ} → IsDigit base d c → 1 ≤ base
some_base digit = omega (arith, digit.below)

-- a prefix of a spelling spells a number that is no larger
pub front_of : {base n : ℕ} {bytes : List ℕ} → IsDigits base n bytes → (i : ℕ) → 0 < i → i ≤ length bytes
    → (m : ℕ) × (m ≤ n) × IsDigits base m (take i bytes)
front_of {n = n} (one {c = c} digit) i low high = (n, omega arith, rw (take_all i (c ∷ []) low) (one digit))
front_of {base = base} {n = n} (more {q = q} {d = d} {c = c} {ds = ds} spells some digit value) i low high =
    elim (cases_lt (length ds) i) [
      | inr within ↦
          let front = front_of spells i low within in
          (front.0, omega (arith, front.1, value, mul-le-mul_right q (some_base digit)), rw (take-append-le i ds (c ∷ []) within) front.2)
      | inl past ↦ (n, omega arith, rw (take_all i (ds ++ c ∷ []) (omega (arith, length_push ds c))) (more spells some digit value))
    ]

-- c is a further digit after the digits of v, and makes m of v
abbrev pub IsNext : ℕ → ℕ → ℕ → ℕ → Type 0
IsNext base v c m = (d : ℕ) × (1 ≤ v) × IsDigit base d c × (m ≡ base * v + d)

-- What follows the digits of v in a spelling is a digit, v is at least 1, and the number so far is no larger.
pub next_of : {base n v : ℕ} (ds : List ℕ) (c : ℕ) (rest : List ℕ) → IsDigits base n (ds ++ c ∷ rest) → IsDigits base v ds
    → (m : ℕ) × (m ≤ n) × IsNext base v c m
next_of {base = base} {n = n} {v = v} ds c rest whole front =
    let fits : length ds + 1 ≤ length (ds ++ c ∷ rest) = omega (arith, length-append ds (c ∷ rest)) in
    let longer = front_of whole (length ds + 1) (omega arith) fits in
    let is : take (length ds + 1) (ds ++ c ∷ rest) ≡ ds ++ c ∷ [] = take-append-add ds (c ∷ rest) 1 in
    elim (by_last longer.2) [
      | inl (e, single, digit) ↦ absurd (omega (arith, nonempty front, length_push ds c, ap length (sym is ∙ single)))
      | inr pushed ↦
          let parts = same_from_push ds pushed.front c pushed.last (sym is ∙ pushed.is) in
          let quotients : v ≡ pushed.quotient = same_value_along front pushed.spells parts.0 in
          let some : 1 ≤ v = omega (arith, quotients, pushed.some) in
          let digit : IsDigit base pushed.remainder c = rw (parts.1) pushed.digit in
          (longer.0, longer.1, (pushed.remainder, some, digit, rw quotients pushed.value))
    ]

-- the first byte of a spelling is a digit
pub first_of : {base n : ℕ} (x : ℕ) (rest : List ℕ) → IsDigits base n (x ∷ rest) → (d : ℕ) × IsDigit base d x
first_of {base = base} x rest whole =
    let front = front_of whole 1 (omega arith) (omega arith) in
    elim (by_last front.2) [
      | inl (e, is, digit) ↦ (front.0, subst (λ (y : ℕ). IsDigit base front.0 y) (single e x (sym is)) digit)
      | inr pushed ↦ absurd (single_not_pushed x refl pushed)
    ]
  where
    single : (x e : ℕ) → ◌≡◌ {A = List ℕ} (x ∷ []) (e ∷ []) → x ≡ e
    single x e is = cc

-- the bytes read so far, and one more
pub taken_one : (bytes : List ℕ) (x : ℕ) (rest : List ℕ) → bytes ≡ x ∷ rest → take (0 + 1) bytes ≡ x ∷ []
taken_one bytes x rest is = ap (λ (s : List ℕ). take 1 s) is

pub taken_more : (bytes : List ℕ) (x : ℕ) (rest : List ℕ) (i : ℕ) → bytes ≡ x ∷ rest → i < length rest
    → take (i + 1 + 1) bytes ≡ take (i + 1) bytes ++ get_or rest i 0 ∷ []
taken_more bytes x rest i is within =
    rw is (rw (add-one (i + 1)) (ap (λ (s : List ℕ). x ∷ s) (take_more rest i 0 within) ∙ rw (add-one i) refl))

pub all_taken : (bytes : List ℕ) (x : ℕ) (rest : List ℕ) (i : ℕ) → bytes ≡ x ∷ rest → length rest ≤ i → take (i + 1) bytes ≡ bytes
all_taken bytes x rest i is past = take_all (i + 1) bytes (omega (arith, ap length is))

split_taken : (bytes : List ℕ) (x : ℕ) (rest : List ℕ) (i : ℕ) → bytes ≡ x ∷ rest → i < length rest
    → bytes ≡ take (i + 1) bytes ++ get_or rest i 0 ∷ drop (suc i) rest
split_taken bytes x rest i is within =
    rw (is, add-one, ← drop-cons rest i 0 within) (ap (λ (s : List ℕ). x ∷ s) (sym (take-append-drop i rest)))

-- if the whole is a spelling then so is one byte more than what was read
pub next_taken : {base n v : ℕ} (bytes : List ℕ) (x : ℕ) (rest : List ℕ) (i : ℕ) → bytes ≡ x ∷ rest → i < length rest
    → IsDigits base n bytes → IsDigits base v (take (i + 1) bytes) → (m : ℕ) × (m ≤ n) × IsNext base v (get_or rest i 0) m
next_taken {base = base} {n = n} bytes x rest i is within whole front =
    next_of (take (i + 1) bytes) (get_or rest i 0) (drop (suc i) rest)
    (subst (λ (s : List ℕ). IsDigits base n s) (split_taken bytes x rest i is within) whole) front

minus_is_no_digit : {d : ℕ} → IsDigit 10 d 45 → ⊥
minus_is_no_digit {d = d} digit = grind (arith, nat_tests, digit.byte, digit.below)

tail_of : (xs ys : List ℕ) → ◌≡◌ {A = List ℕ} (45 ∷ xs) (45 ∷ ys) → xs ≡ ys
tail_of xs ys is = cc

-- after a `-` stand the digits of the number without its sign
pub negative_of : (n : ℤ) (digits : List ℕ) → IsDecimal n (45 ∷ digits) → (m : ℕ) × (n ≡ negsuc m) × IsDigits 10 (suc m) digits
negative_of (pos n) digits whole = absurd (minus_is_no_digit (first_of 45 digits whole).1)
negative_of (negsuc m) digits whole = (m, refl, rw (tail_of digits whole.0 whole.1) whole.2)

pub behind_minus : (n : ℤ) (bytes : List ℕ) → get_or bytes 0 0 ≡ 45 → IsDecimal n bytes
    → (m : ℕ) × (n ≡ negsuc m) × IsDigits 10 (suc m) (take (length bytes - 1) (drop 1 bytes))
behind_minus n [] is whole = absurd (omega arith)
behind_minus n (x ∷ rest) is whole =
    let parts = negative_of n rest (rw is at whole) in
    let same : take (suc (length rest) - 1) rest ≡ rest = take_all (suc (length rest) - 1) rest (omega arith) in
    (parts.0, parts.1, rw same parts.2)

pub negated : (m : ℕ) → pos 0 -ℤ pos (suc m) ≡ negsuc m
negated m = omega (arith, ints)

pub magnitude_fits : (n : ℤ) (m : ℕ) → FitsSigned w64 n → n ≡ negsuc m → suc m < 10 ^ 19
magnitude_fits n m fits is =
    let bounded : FitsSigned w64 (negsuc m) = subst (λ (z : ℤ). FitsSigned w64 z) is fits in
    omega (arith, bounded.sfits)

-- what is answered for the digits after a `-`
pub negation_answered : (r : Option ℤ) (magnitude : ℕ) (n : ℤ) (m : ℕ)
    → SomeIff r (FitsSigned w64 (pos 0 -ℤ pos magnitude)) (pos 0 -ℤ pos magnitude) → FitsSigned w64 n → n ≡ negsuc m
    → magnitude ≡ suc m → r ≡ Some n
negation_answered (Some x) magnitude n m answer fits is same = ap Some (answer.1 ∙ ap (λ k. pos 0 -ℤ pos k) same ∙ negated m ∙ sym is)
negation_answered None magnitude n m answer fits is same =
    absurd (answer (subst (λ (z : ℤ). FitsSigned w64 z) (is ∙ sym (negated m) ∙ ap (λ k. pos 0 -ℤ pos k) (sym same)) fits))

-- a decimal spelling has one number
pub same_decimal : (m n : ℤ) (bytes : List ℕ) → IsDecimal m bytes → IsDecimal n bytes → m ≡ n
same_decimal (pos m) (pos n) bytes left right = ap pos (same_value left right)
same_decimal (pos m) (negsuc n) bytes left right = absurd (minus_is_no_digit (first_of 45 right.0 (subst (IsDigits 10 m) right.1 left)).1)
same_decimal (negsuc m) (pos n) bytes left right = absurd (minus_is_no_digit (first_of 45 left.0 (subst (IsDigits 10 n) left.1 right)).1)
same_decimal (negsuc m) (negsuc n) bytes left right =
    let tails : left.0 ≡ right.0 = tail_of left.0 right.0 (sym left.1 ∙ right.1) in
    let same : suc m ≡ suc n = same_value left.2 (subst (IsDigits 10 (suc n)) (sym tails) right.2) in
    let fewer : m ≡ n = omega arith in
    ap negsuc fewer

-- a number has one decimal spelling
pub same_decimal_spelling : (n : ℤ) {k l : List ℕ} → IsDecimal n k → IsDecimal n l → k ≡ l
same_decimal_spelling (pos n) left right = same_spelling left right
same_decimal_spelling (negsuc n) left right = left.1 ∙ ap (λ (s : List ℕ). 45 ∷ s) (same_spelling left.2 right.2) ∙ sym right.1
