-- Texts of bytes alone that stand in XML as they are.
use Rattle.std.proofs.Common.{◌≡◌, ◌∙◌, ℕ, ◌==◌, ◌&&◌, Bool, true, false, List, [], ◌∷◌, ◌++◌, ap, arith, refl, sym}
use Rattle.std.specs.Prelude.{nat_le}
use Rattle.std.specs.List.{All}
use Rattle.std.specs.Str.Lossy.{utf8_lossy}
use Rattle.std.proofs.lemmas.Bool.{cond-false, lt-leb, ne_eqb}
use Rattle.std.proofs.lemmas.List.Elements.{All-tail}
use Rattle.std.proofs.lemmas.Str.{IsUtf8-from_ascii, utf8_lossy-IsUtf8}
use Rattle.std.proofs.lemmas.Str.Ascii.{IsAscii-from_all}
use Rattle.nl_tool_texts.specs.Escape.{IsBare, escaped, escaped_behind, piece, shown}

pub bare_lossy : (s : List ℕ) → All IsBare s → utf8_lossy s ≡ s
bare_lossy s all = utf8_lossy-IsUtf8 s (IsUtf8-from_ascii s (IsAscii-from_all s (λ k d within. omega (arith, (all k d within).high))))

piece_bare : (a b c : ℕ) → IsBare c → piece a b c ≡ c ∷ []
piece_bare a b c bare =
    cond-false (c == 60) _ _ (ne_eqb c 60 bare.less) ∙ cond-false (c == 62) _ _ (ne_eqb c 62 bare.more)
    ∙ cond-false (c == 34) _ _ (ne_eqb c 34 bare.quote) ∙ cond-false (c == 38) _ _ (ne_eqb c 38 bare.and)
    ∙ cond-false (nat_le c 31) _ _ (lt-leb c 31 (omega (arith, bare.low)))
    ∙ cond-false (a == 239 && (b == 191 && nat_le 190 c)) _ _ (last (a == 239) (b == 191) (lt-leb 190 c (omega (arith, bare.high))))
  where
    last : (x y : Bool) → nat_le 190 c ≡ false → (x && (y && nat_le 190 c)) ≡ false
    last true true is = is
    last true false is = refl
    last false y is = refl

bare_escaped : (a b : ℕ) (s : List ℕ) → All IsBare s → escaped_behind a b s ≡ s
bare_escaped a b [] all = refl
bare_escaped a b (c ∷ cs) all =
    λ i. piece_bare a b c (all 0 c (omega arith)) i ++ bare_escaped b c cs (All-tail IsBare c cs all) i

pub bare_shown : (s : List ℕ) → All IsBare s → s ≡ shown s
bare_shown s all = sym (ap escaped (bare_lossy s all) ∙ bare_escaped 0 0 s all)
