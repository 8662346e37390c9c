-- A line of TIMES, by its first tab.
use Rattle.std.proofs.Common.{◌≡◌, ◌≢◌, ◌∙◌, ℕ, ℤ, ◌+◌, Bool, true, false, cond, ◌&&◌, ◌==◌, List, [], ◌∷◌, ◌++◌, length, take, drop, refl, sym, ap}
use Rattle.std.proofs.Common.{subst, inl, inr, arith, ne_eqb, ltb-true, lt-ltb, ◌^◌, pos, negsuc, FitsSigned, w64, bytes_eq}
use Rattle.std.specs.Option.{option_map}
use Rattle.std.proofs.lemmas.Bool.{and_parts, cases_Bool, cond-false}
use Rattle.std.proofs.lemmas.Slice.Eq.{bytes_eq-Decides}
use Rattle.std.specs.Prelude.{Option, None, Some}
use Rattle.std.specs.List.{position_or_len}
use Rattle.std.proofs.Math.ListN.{drop_of_length-le}
use Rattle.std.proofs.lemmas.List.{append-nil}
use Rattle.std.proofs.lemmas.List.Elements.{All-head, All-tail}
use Rattle.std.proofs.Math.Seq.{take-append_seam, drop-append-add}
use Rattle.nl_fields.specs.Fields.{HasNoTab}
use Rattle.nl_fields.specs.EntryLine.{before_tab, after_tab, is_within}
use Rattle.nl_fields.specs.Digits.{IsDecimal, decimal_of, integer_of}
use Rattle.nl_fields.proofs.DigitLemmas.{same_decimal_spelling}
use Rattle.nl_fields.proofs.NumberLemmas.{IsDecimal-decimal_of, integer_of-decimal}
use Rattle.nl_fields.specs.Name.{is_name}
use Rattle.std.proofs.Common.{Bor}
use Rattle.nl_tool_change.specs.Replay.{behind_tab}
use Rattle.nl_tool_change.specs.Files.{name_on, is_pair, pair_on}

not_true : (b : Bool) → (b ≡ true → ⊥) → b ≡ false
not_true true h = absurd (h refl)
not_true false h = refl

-- where the first tab of a line stands
tab_at : (a x : List ℕ) → HasNoTab a → position_or_len (λ b. b == 9) (a ++ 9 ∷ x) ≡ length a
tab_at [] x none = refl
tab_at (c ∷ a) x none =
    rw (ne_eqb c 9 (All-head (λ b. b ≢ 9) c a none)) (omega (arith, tab_at a x (All-tail (λ b. b ≢ 9) c a none)))

none_at : (a : List ℕ) → HasNoTab a → position_or_len (λ b. b == 9) a ≡ length a
none_at [] none = refl
none_at (c ∷ a) none =
    rw (ne_eqb c 9 (All-head (λ b. b ≢ 9) c a none)) (omega (arith, none_at a (All-tail (λ b. b ≢ 9) c a none)))

-- nothing follows a tab that isn't there
pub no_tab : (line time : List ℕ) → line ≡ time ++ [] → HasNoTab time → after_tab line ≡ []
no_tab line time is none =
    ap after_tab (is ∙ append-nil time) ∙ drop_of_length-le time (omega (arith, none_at time none))

-- what isn't there has no text
pub no_rest : (rest : Option (Bor (List ℕ))) → ((name : Bor (List ℕ)) → rest ≡ Some name → ⊥) → behind_tab rest ≡ []
no_rest None not = refl
no_rest (Some name) not = absurd (not name refl)

-- the texts at the two sides of the first tab
pub at_tab : (line time name : List ℕ) → line ≡ time ++ 9 ∷ name → HasNoTab time → (time ≡ before_tab line) × (name ≡ after_tab line)
at_tab line time name is none = (
  sym (ap before_tab is ∙ ap (λ n. take n (time ++ 9 ∷ name)) (tab_at time name none) ∙ take-append_seam time (9 ∷ name)),
  sym (ap after_tab is ∙ ap (λ n. drop (n + 1) (time ++ 9 ∷ name)) (tab_at time name none) ∙ drop-append-add time (9 ∷ name) 1),
)

-- what a line says where no mtime or no name is read
pub no_pair : (line : List ℕ) → after_tab line ≡ [] → pair_on line ≡ None
no_pair line none = ap (λ (name : List ℕ). cond (is_pair (before_tab line) name) (Some (name, integer_of (before_tab line))) None) none
    ∙ cond-false (is_pair (before_tab line) []) (Some ([], integer_of (before_tab line))) None
    (both (is_within 63 (integer_of (before_tab line))) (bytes_eq (decimal_of (integer_of (before_tab line))) (before_tab line)))
  where
    both : (x y : Bool) → (x && (y && false)) ≡ false
    both true true = refl
    both true false = refl
    both false y = refl

-- the same where the text before the tab spells no mtime
pub no_time : (line : List ℕ) → ((n : ℤ) → FitsSigned w64 n → IsDecimal n (before_tab line) → ⊥) → pair_on line ≡ None
no_time line none = elim (cases_Bool (is_pair (before_tab line) (after_tab line))) [
  | inl is ↦
      let time = before_tab line in
      let parts = and_parts (is_within 63 (integer_of time)) _ is in
      let fits : FitsSigned w64 (integer_of time) = within (integer_of time) parts.0 in
      let spelled : decimal_of (integer_of time) ≡ time = (bytes_eq-Decides (decimal_of (integer_of time)) time).0
      (and_parts (bytes_eq (decimal_of (integer_of time)) time) _ parts.1).0 in
      absurd (none (integer_of time) fits (subst (IsDecimal (integer_of time)) spelled (IsDecimal-decimal_of (integer_of time) fits)))
  | inr other ↦ cond-false _ _ None other
]
  where
    within : (n : ℤ) → is_within 63 n ≡ true → FitsSigned w64 n
    within (pos n) e = record { sfits = omega (arith, ltb-true n (2 ^ 63) e) }
    within (negsuc n) e = record { sfits = omega (arith, ltb-true n (2 ^ 63) e) }

-- where it spells this one, the name decides
pub with_time : (line : List ℕ) (n : ℤ) → FitsSigned w64 n → IsDecimal n (before_tab line)
    → pair_on line ≡ option_map (λ (name : List ℕ). (name, n)) (name_on (after_tab line))
with_time line n fits spelled =
    let time = before_tab line in
    let is : integer_of time ≡ n = integer_of-decimal n time spelled in
    let one : is_within 63 (integer_of time) ≡ true = ap (is_within 63) is ∙ within n fits in
    let two : bytes_eq (decimal_of (integer_of time)) time ≡ true = (bytes_eq-Decides (decimal_of (integer_of time)) time).1
    (ap decimal_of is ∙ same_decimal_spelling n (IsDecimal-decimal_of n fits) spelled) in
    let pair : ℤ → List ℕ × ℤ = λ m. (after_tab line, m) in
    ap (λ (m : ℤ). cond (is_pair time (after_tab line)) (Some (pair m)) None) is
    ∙ ap (λ (b : Bool). cond b (Some (pair n)) None)
    (ap (λ (b : Bool). b && (bytes_eq (decimal_of (integer_of time)) time && is_name (after_tab line))) one
    ∙ ap (λ (b : Bool). true && (b && is_name (after_tab line))) two)
    ∙ named (is_name (after_tab line))
  where
    within : (n : ℤ) → FitsSigned w64 n → is_within 63 n ≡ true
    within (pos n) fits = lt-ltb n (2 ^ 63) (omega (arith, fits.sfits))
    within (negsuc n) fits = lt-ltb n (2 ^ 63) (omega (arith, fits.sfits))

    named : (b : Bool) → cond {A = Option (List ℕ × ℤ)} b (Some (after_tab line, n)) None
        ≡ option_map (λ name. (name, n)) (cond b (Some (after_tab line)) None)
    named true = refl
    named false = refl
