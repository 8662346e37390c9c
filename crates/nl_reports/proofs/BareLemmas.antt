-- Texts of bytes alone that stand in JSON as they are.
use Rattle.std.proofs.Common.{◌≡◌, ◌∙◌, ℕ, zero, suc, ◌/◌, ◌%◌, ◌<◌, ◌≤◌, List, [], ◌∷◌, ◌++◌, ◌+◌, ap, arith, inl, inr, refl, sym}
use Rattle.std.specs.List.{All}
use Rattle.std.proofs.lemmas.Bool.Decides.{leb_tells}
use Rattle.std.proofs.lemmas.List.Elements.{All-append, All-cons, All-nil, All-tail}
use Rattle.json.specs.Print.{escape}
use Rattle.json.proofs.Printed.Strings.{escape_byte_plain}
use Rattle.nl_fields.specs.Digits.{digit_of, digits_of, last_digits}
use Rattle.nl_tool_texts.specs.Escape.{IsBare}
use Rattle.nl_tool_texts.proofs.BareLemmas.{bare_lossy}
use Rattle.nl_reports.specs.Events.{event_text, shown}

-- ---- in JSON

bare_escape : (s : List ℕ) → All IsBare s → escape s ≡ s
bare_escape [] all = refl
bare_escape (c ∷ cs) all =
    let b : IsBare c = all 0 c (omega arith) in
    λ i. escape_byte_plain c b.quote b.backslash b.low i ++ bare_escape cs (All-tail IsBare c cs all) i

pub bare_quoted : (s : List ℕ) → All IsBare s → 34 ∷ (s ++ 34 ∷ []) ≡ event_text (shown s)
unfolding event_text
bare_quoted s all = ap (λ (l : List ℕ). 34 ∷ (l ++ 34 ∷ [])) (sym (ap escape (bare_lossy s all) ∙ bare_escape s all))

-- ---- hexadecimal numbers

digit_bare : (d : ℕ) → d < 16 → IsBare (digit_of d)
digit_bare d low =
    elim (leb_tells (suc d) 10) [
      | inl h ↦ rw h.0 (one (omega (arith, h.1)))
      | inr h ↦ rw h.0 (two low (omega (arith, h.1)))
    ]
  where
    one : d < 10 → IsBare (48 + d)
    one less = record {
      low = omega arith;
      high = omega (arith, less);
      quote = λ e. omega (arith, e);
      backslash = λ e. omega (arith, e, less);
      less = λ e. omega (arith, e, less);
      more = λ e. omega (arith, e, less);
      and = λ e. omega (arith, e);
    }

    two : d < 16 → 10 ≤ d → IsBare (87 + d)
    two less ten = record {
      low = omega arith;
      high = omega (arith, less);
      quote = λ e. omega (arith, ten, e);
      backslash = λ e. omega (arith, ten, e);
      less = λ e. omega (arith, ten, e);
      more = λ e. omega (arith, ten, e);
      and = λ e. omega (arith, ten, e);
    }

digits_bare : (k n : ℕ) → All IsBare (last_digits k 16 n)
digits_bare zero n = All-nil IsBare
digits_bare (suc k) n =
    let rest = digits_bare k (n / 16) in
    elim (leb_tells (suc n) 16) [
      | inl h ↦ rw h.0 (All-cons IsBare (digit_of n) [] (digit_bare n (omega (arith, h.1))) (All-nil IsBare))
      | inr h ↦ rw h.0 (All-append IsBare (last_digits k 16 (n / 16)) (digit_of (n % 16) ∷ []) rest
          (All-cons IsBare (digit_of (n % 16)) [] (digit_bare (n % 16) (omega arith)) (All-nil IsBare)))
    ]

pub hash_quoted : (n : ℕ) → 34 ∷ (digits_of 16 n ++ 34 ∷ []) ≡ event_text (shown (digits_of 16 n))
unfolding digits_of
hash_quoted n = bare_quoted (last_digits 64 16 n) (digits_bare 64 n)
