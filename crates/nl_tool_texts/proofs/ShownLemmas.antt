-- What a terminal shows has no character that it obeys, and loses none that it doesn't.
use Rattle.std.proofs.Common.{◌≡◌, ◌∙◌, ◌≤◌, ◌<◌, ◌==◌, ◌&&◌, ◌/◌, ◌%◌, ◌+◌, ℕ, Bool, true, false, cond, List, [], ◌∷◌, ◌++◌, refl, sym, ap, subst, arith, inl, inr, append_assoc, append-nil, get_or, length, take}
use Rattle.std.specs.Prelude.{nat_le, nat_lt, not}
use Rattle.std.specs.Char.{encode_utf8, IsScalar}
use Rattle.std.specs.List.{list_all}
use Rattle.std.specs.Str.{chars, continuation_len, is_utf8}
use Rattle.std.proofs.Math.Bool.{and-true}
use Rattle.std.proofs.Math.Utf8.{low_scalar}
use Rattle.std.proofs.lemmas.Bool.{and_parts, cases_Bool, cases_lt, cond-true, cond-false, le-ltb, lt-ltb, le-leb, lt-leb, ltb-true, ne_eqb}
use Rattle.std.proofs.lemmas.List.{take_more}
use Rattle.std.proofs.lemmas.List.Concat.{flat_map-cons}
use Rattle.std.proofs.lemmas.List.Folds.{list_all-append}
use Rattle.std.proofs.lemmas.Str.{IsUtf8-append, IsUtf8-encode, IsUtf8-from_is_utf8, IsUtf8-nil, chars-append, chars-encodes, chars-nil, encode_ascii, encodes-chars, is_utf8-from_IsUtf8, scalars-chars}
use lib.Utf8.{encode, encodes, scalar, scalars}
use Rattle.nl_fields.specs.Digits.{digit_of}
use Rattle.nl_tool_texts.specs.Columns.{Passes, begun_by, begun_then, by_number, by_numbers, cut_off, goes_on, gone_on, is_obeyed, is_plain, is_quiet, is_whole, shown, shown_char, shown_now, shown_of, shown_one}

abbrev pub stays : ℕ → Bool
stays c = not (is_obeyed c)

-- ---- what is shown is quiet

-- what can be printed isn't obeyed
plain : (b : ℕ) → 32 ≤ b → b < 127 → is_obeyed b ≡ false
plain b low high =
    let control : nat_lt b 32 ≡ false = le-ltb b 32 low in
    let upper : nat_le 127 b ≡ false = lt-leb 127 b high in
    let mark : (b == 1564) ≡ false = ne_eqb b 1564 (λ e. omega (arith, high, e)) in
    let marks : nat_le 8206 b ≡ false = lt-leb 8206 b (omega (arith, high)) in
    let lines : nat_le 8232 b ≡ false = lt-leb 8232 b (omega (arith, high)) in
    let parts : nat_le 8294 b ≡ false = lt-leb 8294 b (omega (arith, high)) in
    rw (control, upper, mark, marks, lines, parts) refl

pub quiet_append : (xs ys : List ℕ) → is_quiet xs ≡ true → is_quiet ys ≡ true → is_quiet (xs ++ ys) ≡ true
quiet_append xs ys one two =
    let x = and_parts (is_utf8 xs) (list_all stays (chars xs)) one in
    let y = and_parts (is_utf8 ys) (list_all stays (chars ys)) two in
    let front = IsUtf8-from_is_utf8 xs x.0 in
    let text : is_utf8 (xs ++ ys) ≡ true = is_utf8-from_IsUtf8 (xs ++ ys) (IsUtf8-append xs ys front (IsUtf8-from_is_utf8 ys y.0)) in
    let both : list_all stays (chars xs ++ chars ys) ≡ true =
    list_all-append stays (chars xs) (chars ys) ∙ ap (λ (b : Bool). b && list_all stays (chars ys)) x.1 ∙ y.1 in
    rw text (ap (list_all stays) (chars-append xs ys front) ∙ both)

-- a character is quiet if it isn't obeyed
quiet_char : (c : ℕ) → scalar c ≡ true → is_quiet (encode c) ≡ not (is_obeyed c)
quiet_char c is =
    let text : is_utf8 (encode c) ≡ true = is_utf8-from_IsUtf8 (encode c) (IsUtf8-encode c is) in
    let one : chars (encode c) ≡ c ∷ [] = ap chars (sym (append-nil (encode c))) ∙ chars-encodes (c ∷ []) (ap (λ (b : Bool). b && true) is) in
    rw text (ap (list_all stays) one ∙ and-true (not (is_obeyed c)))

pub quiet_ascii : (c : ℕ) → 32 ≤ c → c < 127 → is_quiet (c ∷ []) ≡ true
quiet_ascii c low high =
    ap is_quiet (sym (encode_ascii c (omega (arith, high)))) ∙ quiet_char c (low_scalar c (omega (arith, high))) ∙ ap not (plain c low high)

digit : (d : ℕ) → d < 16 → (32 ≤ digit_of d) × (digit_of d < 127)
digit d less = elim (nat_lt d 10) as (λ t. (32 ≤ cond t (48 + d) (87 + d)) × (cond t (48 + d) (87 + d) < 127)) [
  | true ↦ (omega arith, omega (arith, less))
  | false ↦ (omega arith, omega (arith, less))
]

quiet_number : (b : ℕ) → is_quiet (by_number b) ≡ true
quiet_number b =
    let high = b / 16 % 16 in
    let low = b % 16 in
    let first = digit high (omega arith) in
    let second = digit low (omega arith) in
    quiet_append (92 ∷ []) (120 ∷ digit_of high ∷ digit_of low ∷ []) (quiet_ascii 92 (omega arith) (omega arith))
    (quiet_append (120 ∷ []) (digit_of high ∷ digit_of low ∷ []) (quiet_ascii 120 (omega arith) (omega arith))
    (quiet_append (digit_of high ∷ []) (digit_of low ∷ []) (quiet_ascii (digit_of high) first.0 first.1)
    (quiet_ascii (digit_of low) second.0 second.1)))

pub quiet_nil : is_quiet [] ≡ true
quiet_nil =
    let text : is_utf8 [] ≡ true = is_utf8-from_IsUtf8 [] IsUtf8-nil in
    rw text (ap (list_all stays) chars-nil)

quiet_numbers : (bytes : List ℕ) → is_quiet (by_numbers bytes) ≡ true
quiet_numbers [] = quiet_nil
quiet_numbers (b ∷ bytes) =
    ap is_quiet (flat_map-cons by_number b bytes) ∙ quiet_append (by_number b) (by_numbers bytes) (quiet_number b) (quiet_numbers bytes)

quiet_one : (bytes : List ℕ) → is_quiet (shown_one bytes) ≡ true
quiet_one bytes = elim (cases_Bool (is_quiet bytes)) [
  | inl is ↦ ap is_quiet (cond-true (is_quiet bytes) bytes (by_numbers bytes) is) ∙ is
  | inr not ↦ ap is_quiet (cond-false (is_quiet bytes) bytes (by_numbers bytes) not) ∙ quiet_numbers bytes
]

quiet_if : (b : Bool) (bytes : List ℕ) → is_quiet (cond b (shown_one bytes) []) ≡ true
quiet_if true bytes = quiet_one bytes
quiet_if false bytes = quiet_nil

pub quiet_of : (begun text : List ℕ) → is_quiet (shown_of begun text) ≡ true
quiet_of begun [] = quiet_nil
quiet_of begun (b ∷ text) =
    quiet_append (shown_now begun b) (shown_of (begun_then begun b) text)
    (quiet_append (by_numbers (cut_off begun b)) _ (quiet_numbers (cut_off begun b)) (quiet_if (is_whole (gone_on begun b)) (gone_on begun b)))
    (quiet_of (begun_then begun b) text)

pub quiet : (text : List ℕ) → is_quiet (shown text) ≡ true
quiet text = quiet_append (shown_of [] text) (by_numbers (begun_by [] text)) (quiet_of [] text) (quiet_numbers (begun_by [] text))

-- ---- in pieces

pub shown_of-append : (begun xs ys : List ℕ) → shown_of begun (xs ++ ys) ≡ shown_of begun xs ++ shown_of (begun_by begun xs) ys
shown_of-append begun [] ys = refl
shown_of-append begun (x ∷ xs) ys =
    ap (λ (l : List ℕ). shown_now begun x ++ l) (shown_of-append (begun_then begun x) xs ys)
    ∙ sym (append_assoc (shown_now begun x) (shown_of (begun_then begun x) xs) (shown_of (begun_by (begun_then begun x) xs) ys))

pub begun_by-append : (begun xs ys : List ℕ) → begun_by begun (xs ++ ys) ≡ begun_by (begun_by begun xs) ys
begun_by-append begun [] ys = refl
begun_by-append begun (x ∷ xs) ys = begun_by-append (begun_then begun x) xs ys

-- ---- a character stands, whatever comes before it

-- it ends what was begun, and is shown whole
abbrev Stands : List ℕ → List ℕ → Type 0
Stands begun bytes = (shown_of begun bytes ≡ by_numbers begun ++ shown_one bytes) × (begun_by begun bytes ≡ [])

-- the first byte of a character
record Leads (b more : ℕ) : Type 0 where
  apart : goes_on b ≡ false
  more_is : continuation_len b ≡ more

-- what a byte adds, by what it goes on with and cuts off
step : (begun : List ℕ) (b : ℕ) (gone cut : List ℕ) (w : Bool) → gone_on begun b ≡ gone → cut_off begun b ≡ cut → is_whole gone ≡ w
    → (shown_now begun b ≡ by_numbers cut ++ cond w (shown_one gone) []) × (begun_then begun b ≡ cond w [] gone)
step begun b gone cut w goes cuts is =
    let whole : is_whole (gone_on begun b) ≡ w = ap is_whole goes ∙ is in
    ((λ i. by_numbers (cuts i) ++ cond (whole i) (shown_one (goes i)) []), (λ i. cond (whole i) [] (goes i)))

first_step : (begun : List ℕ) (a : ℕ) (text : List ℕ) → goes_on a ≡ false → is_whole (a ∷ []) ≡ false
    → (shown_of begun (a ∷ text) ≡ by_numbers begun ++ shown_of (a ∷ []) text) × (begun_by begun (a ∷ text) ≡ begun_by (a ∷ []) text)
first_step begun a text apart part =
    let one = step begun a (a ∷ []) begun false (cond-false (goes_on a) (begun ++ a ∷ []) (a ∷ []) apart) (cond-false (goes_on a) [] begun apart) part in
    ((λ i. (one.0 ∙ append-nil (by_numbers begun)) i ++ shown_of (one.1 i) text), (λ i. begun_by (one.1 i) text))

more_step : (front : List ℕ) (b : ℕ) (text : List ℕ) → goes_on b ≡ true → is_whole (front ++ b ∷ []) ≡ false
    → (shown_of front (b ∷ text) ≡ shown_of (front ++ b ∷ []) text) × (begun_by front (b ∷ text) ≡ begun_by (front ++ b ∷ []) text)
more_step front b text on part =
    let one = step front b (front ++ b ∷ []) [] false (cond-true (goes_on b) (front ++ b ∷ []) (b ∷ []) on) (cond-true (goes_on b) [] front on) part in
    ((λ i. one.0 i ++ shown_of (one.1 i) text), (λ i. begun_by (one.1 i) text))

last_step : (front : List ℕ) (b : ℕ) → goes_on b ≡ true → is_whole (front ++ b ∷ []) ≡ true
    → (shown_of front (b ∷ []) ≡ shown_one (front ++ b ∷ [])) × (begun_by front (b ∷ []) ≡ [])
last_step front b on whole =
    let one = step front b (front ++ b ∷ []) [] true (cond-true (goes_on b) (front ++ b ∷ []) (b ∷ []) on) (cond-true (goes_on b) [] front on) whole in
    (ap (λ (l : List ℕ). l ++ []) one.0 ∙ append-nil (shown_one (front ++ b ∷ [])), one.1)

one_stands : (begun : List ℕ) (a : ℕ) → Leads a 0 → Stands begun (a ∷ [])
one_stands begun a leads =
    let one = step begun a (a ∷ []) begun true (cond-false (goes_on a) (begun ++ a ∷ []) (a ∷ []) leads.apart) (cond-false (goes_on a) [] begun leads.apart)
    (ap (λ (n : ℕ). nat_lt n 1) leads.more_is) in
    (ap (λ (l : List ℕ). l ++ []) one.0 ∙ append-nil (by_numbers begun ++ shown_one (a ∷ [])), one.1)

two_stand : (begun : List ℕ) (a b : ℕ) → Leads a 1 → goes_on b ≡ true → Stands begun (a ∷ b ∷ [])
two_stand begun a b leads on =
    let one = first_step begun a (b ∷ []) leads.apart (ap (λ (n : ℕ). nat_lt n 1) leads.more_is) in
    let two = last_step (a ∷ []) b on (ap (λ (n : ℕ). nat_lt n 2) leads.more_is) in
    (one.0 ∙ ap (λ (l : List ℕ). by_numbers begun ++ l) two.0, one.1 ∙ two.1)

three_stand : (begun : List ℕ) (a b c : ℕ) → Leads a 2 → goes_on b ≡ true → goes_on c ≡ true → Stands begun (a ∷ b ∷ c ∷ [])
three_stand begun a b c leads on more =
    let one = first_step begun a (b ∷ c ∷ []) leads.apart (ap (λ (n : ℕ). nat_lt n 1) leads.more_is) in
    let two = more_step (a ∷ []) b (c ∷ []) on (ap (λ (n : ℕ). nat_lt n 2) leads.more_is) in
    let three = last_step (a ∷ b ∷ []) c more (ap (λ (n : ℕ). nat_lt n 3) leads.more_is) in
    (one.0 ∙ ap (λ (l : List ℕ). by_numbers begun ++ l) (two.0 ∙ three.0), one.1 ∙ two.1 ∙ three.1)

four_stand : (begun : List ℕ) (a b c d : ℕ) → Leads a 3 → goes_on b ≡ true → goes_on c ≡ true → goes_on d ≡ true → Stands begun (a ∷ b ∷ c ∷ d ∷ [])
four_stand begun a b c d leads on more last =
    let one = first_step begun a (b ∷ c ∷ d ∷ []) leads.apart (ap (λ (n : ℕ). nat_lt n 1) leads.more_is) in
    let two = more_step (a ∷ []) b (c ∷ d ∷ []) on (ap (λ (n : ℕ). nat_lt n 2) leads.more_is) in
    let three = more_step (a ∷ b ∷ []) c (d ∷ []) more (ap (λ (n : ℕ). nat_lt n 3) leads.more_is) in
    let four = last_step (a ∷ b ∷ c ∷ []) d last (ap (λ (n : ℕ). nat_lt n 4) leads.more_is) in
    (one.0 ∙ ap (λ (l : List ℕ). by_numbers begun ++ l) (two.0 ∙ three.0 ∙ four.0), one.1 ∙ two.1 ∙ three.1 ∙ four.1)

next_goes_on : (bits : ℕ) → goes_on (128 + bits % 64) ≡ true
next_goes_on bits =
    let low : nat_le 128 (128 + bits % 64) ≡ true = le-leb 128 (128 + bits % 64) (omega arith) in
    rw low (lt-ltb (128 + bits % 64) 192 (omega arith))

wide_leads : (b more : ℕ) → 192 ≤ b → continuation_len b ≡ more → Leads b more
wide_leads b more wide is =
    let low : nat_le 128 b ≡ true = le-leb 128 b (omega (arith, wide)) in
    record { apart = rw low (le-ltb b 192 wide); more_is = is }

char_stands : (c : ℕ) → scalar c ≡ true → (begun : List ℕ) → Stands begun (encode c)
unfolding encode
char_stands c is begun = elim (cases_lt c 128) [
  | inl ascii ↦
      let first : nat_lt c 128 ≡ true = lt-ltb c 128 ascii in
      rw first (one_stands begun c record { apart = rw (lt-leb 128 c ascii) refl; more_is = rw first refl })
  | inr past ↦
      let first : nat_lt c 128 ≡ false = le-ltb c 128 past in
      elim (cases_lt c 2048) [
        | inl two ↦
            let second : nat_lt c 2048 ≡ true = lt-ltb c 2048 two in
            let high : nat_lt (192 + c / 64) 128 ≡ false = le-ltb (192 + c / 64) 128 (omega arith) in
            let below : nat_lt (192 + c / 64) 224 ≡ true = lt-ltb (192 + c / 64) 224 (omega (arith, two)) in
            rw (first, second) (two_stand begun (192 + c / 64) (128 + c % 64) (wide_leads (192 + c / 64) 1 (omega arith) (rw (high, below) refl)) (next_goes_on c))
        | inr past_two ↦
            let second : nat_lt c 2048 ≡ false = le-ltb c 2048 past_two in
            elim (cases_lt c 65536) [
              | inl three ↦
                  let third : nat_lt c 65536 ≡ true = lt-ltb c 65536 three in
                  let high : nat_lt (224 + c / 4096) 128 ≡ false = le-ltb (224 + c / 4096) 128 (omega arith) in
                  let higher : nat_lt (224 + c / 4096) 224 ≡ false = le-ltb (224 + c / 4096) 224 (omega arith) in
                  let below : nat_lt (224 + c / 4096) 240 ≡ true = lt-ltb (224 + c / 4096) 240 (omega (arith, three)) in
                  rw (first, second, third) (three_stand begun (224 + c / 4096) (128 + c / 64 % 64) (128 + c % 64)
                  (wide_leads (224 + c / 4096) 2 (omega arith) (rw (high, higher, below) refl)) (next_goes_on (c / 64)) (next_goes_on c))
              | inr four ↦
                  let third : nat_lt c 65536 ≡ false = le-ltb c 65536 four in
                  let high : nat_lt (240 + c / 262144) 128 ≡ false = le-ltb (240 + c / 262144) 128 (omega arith) in
                  let higher : nat_lt (240 + c / 262144) 224 ≡ false = le-ltb (240 + c / 262144) 224 (omega arith) in
                  let highest : nat_lt (240 + c / 262144) 240 ≡ false = le-ltb (240 + c / 262144) 240 (omega arith) in
                  rw (first, second, third) (four_stand begun (240 + c / 262144) (128 + c / 4096 % 64) (128 + c / 64 % 64) (128 + c % 64)
                  (wide_leads (240 + c / 262144) 3 (omega arith) (rw (high, higher, highest) refl)) (next_goes_on (c / 4096)) (next_goes_on (c / 64)) (next_goes_on c))
            ]
      ]
]

one_char : (c : ℕ) → scalar c ≡ true → shown_one (encode c) ≡ shown_char c
one_char c is = rw (quiet_char c is) (chosen (is_obeyed c) (encode c) (by_numbers (encode c))) where
  chosen : (b : Bool) (xs ys : List ℕ) → cond (not b) xs ys ≡ cond b ys xs
  chosen true xs ys = refl
  chosen false xs ys = refl

pub amid : (before : List ℕ) (c : ℕ) (after : List ℕ) → IsScalar c → shown (before ++ encode_utf8 c ++ after) ≡ shown before ++ shown_char c ++ shown after
amid before c after is =
    let begun = begun_by [] before in
    let stands = char_stands c is begun in
    let char : shown_of begun (encode c) ≡ by_numbers begun ++ shown_char c = stands.0 ∙ ap (λ (l : List ℕ). by_numbers begun ++ l) (one_char c is) in
    let text : shown_of [] (before ++ encode c ++ after) ≡ shown_of [] before ++ ((by_numbers begun ++ shown_char c) ++ shown_of [] after) =
    ap (shown_of []) (append_assoc before (encode c) after) ∙ shown_of-append [] before (encode c ++ after)
    ∙ ap (λ (l : List ℕ). shown_of [] before ++ l) (shown_of-append begun (encode c) after
    ∙ (λ i. char i ++ shown_of (stands.1 i) after)) in
    let left : begun_by [] (before ++ encode c ++ after) ≡ begun_by [] after =
    ap (begun_by []) (append_assoc before (encode c) after) ∙ begun_by-append [] before (encode c ++ after) ∙ begun_by-append begun (encode c) after
    ∙ ap (λ (l : List ℕ). begun_by l after) stands.1 in
    (λ i. text i ++ by_numbers (left i)) ∙ simp append_assoc

-- ---- what is quiet stays

quiet_stays : (cs : List ℕ) → scalars cs ≡ true → list_all stays cs ≡ true → shown (encodes cs) ≡ encodes cs
quiet_stays [] all calm = refl
quiet_stays (c ∷ cs) all calm =
    let is = and_parts (scalar c) (scalars cs) all in
    let quiet = and_parts (stays c) (list_all stays cs) calm in
    amid [] c (encodes cs) is.0 ∙ (λ i. as_is (is_obeyed c) quiet.0 i ++ quiet_stays cs is.1 quiet.1 i) where
      as_is : (b : Bool) → not b ≡ true → cond b (by_numbers (encode c)) (encode c) ≡ encode c
      as_is true is = absurd (cc is)
      as_is false is = refl

pub passes : (text : List ℕ) → is_quiet text ≡ true → shown text ≡ text
passes text is =
    let parts = and_parts (is_utf8 text) (list_all stays (chars text)) is in
    let utf = IsUtf8-from_is_utf8 text parts.0 in
    subst (λ (l : List ℕ). shown l ≡ l) (encodes-chars text utf) (quiet_stays (chars text) (scalars-chars text utf) parts.1)

pub more_passes : (xs : List ℕ) (b : ℕ) → b < 128 → is_obeyed b ≡ false → Passes xs → Passes (xs ++ b ∷ [])
more_passes xs b ascii quiet front =
    let is = low_scalar b (omega (arith, ascii)) in
    let byte = encode_ascii b ascii in
    let stands : Stands [] (b ∷ []) = subst (Stands []) byte (char_stands b is []) in
    let whole : shown_one (b ∷ []) ≡ b ∷ [] =
    cond-true (is_quiet (b ∷ [])) (b ∷ []) (by_numbers (b ∷ [])) (ap is_quiet (sym byte) ∙ quiet_char b is ∙ ap not quiet) in (
      shown_of-append [] xs (b ∷ []) ∙ (λ i. front.0 i ++ shown_of (front.1 i) (b ∷ [])) ∙ ap (λ (l : List ℕ). xs ++ l) (stands.0 ∙ whole),
      begun_by-append [] xs (b ∷ []) ∙ ap (λ (l : List ℕ). begun_by l (b ∷ [])) front.1 ∙ stands.1,
    )

-- what passes up to a byte passes with it
pub passes_on : (bs : List ℕ) (k : ℕ) → k < length bs → is_plain (get_or bs k 0) ≡ true → ((n : ℕ) → n ≤ k → Passes (take n bs))
    → (n : ℕ) → n ≤ k + 1 → Passes (take n bs)
passes_on bs k within plain before n less = elim (cases_lt k n) [
  | inr few ↦ before n few
  | inl more ↦
      let b = get_or bs k 0 in
      let parts = and_parts (nat_lt b 128) (not (is_obeyed b)) plain in
      let last : n ≡ k + 1 = omega (arith, more, less) in
      subst Passes (sym (ap (λ (m : ℕ). take m bs) last ∙ take_more bs k 0 within))
      (more_passes (take k bs) b (ltb-true b 128 parts.0) (not_true (is_obeyed b) parts.1) (before k (omega arith)))
] where
  not_true : (t : Bool) → not t ≡ true → t ≡ false
  not_true true e = absurd (cc e)
  not_true false e = refl

-- ---- of what columns are made

pub quiet_newline : is_quiet (10 ∷ []) ≡ true
quiet_newline = ap is_quiet (sym (encode_ascii 10 (omega arith))) ∙ quiet_char 10 refl

pub quiet_ellipsis : is_quiet (226 ∷ 128 ∷ 166 ∷ []) ≡ true
unfolding encode
quiet_ellipsis = quiet_char 8230 refl
