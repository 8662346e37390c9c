-- Bytes that don't begin as the first line of a log does are none, whatever follows.
use Rattle.std.proofs.Common.{◌≡◌, ◌∙◌, ℕ, ◌≤◌, ◌&&◌, Bool, true, false, List, [], ◌∷◌, ◌++◌, length, take, drop}
use Rattle.std.proofs.Common.{refl, sym, ap, arith, inl, inr, true≢false}
use Rattle.std.specs.Prelude.{bytes_eq, codes, nat_eq, nat_le, nat_lt}
use Rattle.std.specs.List.{starts_with}
use Rattle.std.proofs.lemmas.Bool.{cases_Bool, cond-false}
use Rattle.std.proofs.lemmas.Bool.Decides.{Decides-eqb}
use Rattle.std.proofs.lemmas.Slice.Eq.{bytes_eq-Decides, starts_is}
use Rattle.std.proofs.lemmas.List.{append-nil, append_assoc, length-append, length-drop, take-append-le, take-append-drop}
use Rattle.std.specs.Str.{all_ascii_digits}
use Rattle.nl_fields.specs.Limits.{max_line}
use Rattle.nl_fields.specs.declared.header.Header.TheVariants.{NotALog as NoHeader}
use Rattle.nl_fields.specs.Header.{header_of, version_five, version_four, is_version}
use Rattle.nl_lines.specs.Split.{joined, lines_of, rest_of}
use Rattle.nl_table.specs.Log.{Log, NotALog, log_of}
use Rattle.nl_versions.specs.Version.{has_starts}
use Rattle.nl_versions.specs.VersionOf.{as_five, version_of}
use Rattle.nl_versions.specs.declared.version.LogVersion.{LogVersion}
use Rattle.nl_versions.specs.declared.version.LogVersion.TheVariants.{Five, Six, Seven}
use Rattle.nl_versions.proofs.EntriesLemmas.{line_reads, torn_reads}
use Rattle.nl_versions.proofs.NamedLemmas.{names, seven_other, six_other}
use Rattle.nl_versions.proofs.VersionOfLemmas.{begins}

abbrev mark : List ℕ
mark = codes "# ninja log v"

abbrev is_marked : List ℕ → Bool
is_marked bs = starts_with nat_eq bs mark

-- what begins by the mark still does with more behind it
marked : (line more : List ℕ) → is_marked line ≡ true → is_marked (line ++ more) ≡ true
marked line more h =
    let whole = (starts_is Decides-eqb line mark _ refl).0 h in
    (starts_is Decides-eqb (line ++ more) mark _ refl).1 (drop 13 line ++ more) (ap (λ (l : List ℕ). l ++ more) whole ∙ append_assoc mark (drop 13 line) more)

-- and it did before, where it was long enough
was_marked : (text more : List ℕ) → 13 ≤ length text → is_marked (text ++ more) ≡ true → is_marked text ≡ true
was_marked text more long h =
    let whole = (starts_is Decides-eqb (text ++ more) mark _ refl).0 h in
    let front : take 13 text ≡ mark = sym (take-append-le 13 text more long) ∙ ap (take 13) whole in
    (starts_is Decides-eqb text mark _ refl).1 (drop 13 text) (sym (take-append-drop 13 text) ∙ ap (λ (l : List ℕ). l ++ drop 13 text) front)

-- a first line that doesn't begin so names no version
no_header : (line more : List ℕ) → is_marked (line ++ more) ≡ false → header_of line ≡ NoHeader
unfolding header_of
no_header line more other =
    let not_five : bytes_eq line version_five ≡ false = elim (cases_Bool (bytes_eq line version_five)) [
      | inl h ↦ absurd (true≢false (sym (marked version_five more refl) ∙ ap (λ (l : List ℕ). is_marked (l ++ more)) (sym ((bytes_eq-Decides line version_five).0 h)) ∙ other))
      | inr h ↦ h
    ] in
    let not_four : bytes_eq line version_four ≡ false = elim (cases_Bool (bytes_eq line version_four)) [
      | inl h ↦ absurd (true≢false (sym (marked version_four more refl) ∙ ap (λ (l : List ℕ). is_marked (l ++ more)) (sym ((bytes_eq-Decides line version_four).0 h)) ∙ other))
      | inr h ↦ h
    ] in
    let not_any : is_version line ≡ false = elim (cases_Bool (is_marked line)) [
      | inl h ↦ absurd (true≢false (sym (marked line more h) ∙ other))
      | inr h ↦ ap (λ (x : Bool). x && (nat_lt 13 (length line) && (nat_le (length line) max_line && all_ascii_digits (drop 13 line)))) h
    ] in
    cond-false (bytes_eq line version_five) _ _ not_five ∙ cond-false (bytes_eq line version_four) _ _ not_four ∙ cond-false (is_version line) _ _ not_any

module _ (bs : List ℕ) (long : 14 ≤ length bs) (other : is_marked bs ≡ false) where
  differs : (l : List ℕ) → is_marked l ≡ true → bs ≡ l → ⊥
  differs l h is = true≢false (sym (ap is_marked is ∙ h) ∙ other)

  names_none : (v : LogVersion) → version_of bs ≡ v → false ≡ has_starts v
  names_none Five is = refl
  names_none Six is = elim (names Six six_other bs is) [ inl whole ↦ absurd (differs _ refl whole.1) | inr torn ↦ absurd (differs _ refl torn) ]
  names_none Seven is = elim (names Seven seven_other bs is) [ inl whole ↦ absurd (differs _ refl whole.1) | inr torn ↦ absurd (differs _ refl torn) ]

  not_torn : starts_with nat_eq version_five bs ≡ false
  not_torn = elim (cases_Bool (starts_with nat_eq version_five bs)) [
    | inl h ↦
        let whole = (starts_is Decides-eqb version_five bs _ refl).0 h in
        let none : length (drop (length bs) version_five) ≡ 0 = omega (arith, length-drop (length bs) version_five, long) in
        absurd (differs version_five refl (sym (whole ∙ ap (λ (l : List ℕ). bs ++ l) (empty _ none) ∙ append-nil bs)))
    | inr h ↦ h
  ]
    where
      empty : (l : List ℕ) → length l ≡ 0 → l ≡ []
      empty [] e = refl
      empty (x ∷ l) e = absurd (omega (arith, e))

  no_log_by : (lines : List (List ℕ)) → lines_of bs ≡ lines → log_of (as_five bs) ≡ NotALog
  no_log_by [] is = torn_reads bs false (names_none (version_of bs) refl) is ∙ cond-false (starts_with nat_eq version_five bs) (Log 5 []) NotALog not_torn
  no_log_by (line ∷ later) is =
      let header = no_header line (10 ∷ (joined later ++ rest_of bs)) (ap is_marked (sym (begins bs line later is)) ∙ other) in
      line_reads bs line later false NoHeader (names_none (version_of bs) refl) (sym header) is

pub no_log : (text more : List ℕ) → 14 ≤ length text → starts_with nat_eq text (codes "# ninja log v") ≡ false
    → log_of (as_five (text ++ more)) ≡ NotALog
no_log text more long other =
    let still : is_marked (text ++ more) ≡ false = elim (cases_Bool (is_marked (text ++ more))) [
      | inl h ↦ absurd (true≢false (sym (was_marked text more (omega (arith, long)) h) ∙ other))
      | inr h ↦ h
    ] in
    no_log_by (text ++ more) (omega (arith, long, length-append text more)) still (lines_of (text ++ more)) refl
