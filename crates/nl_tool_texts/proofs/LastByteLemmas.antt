-- The last dot and the last `/` of a name.
use Rattle.std.proofs.Common.{◌≡◌, ◌∙◌, ℕ, ◌+◌, ◌<◌, ◌==◌, ◌||◌, cond, Bool, true, false, List, [], ◌∷◌, drop, get_or, length, take, zero, suc, Option, None, Some, ap, arith, refl, sym, true≢false}
use Rattle.std.specs.Option.{option_map_or}
use Rattle.std.specs.Prelude.{MatchOption}
use Rattle.std.proofs.lemmas.Bool.{eq-eqb, eqb-true, ne_eqb}
use Rattle.memchr.specs.Find.{IsFirstByte, IsLastByte, Nowhere, Passes, is_byte, is_byte2}
use Rattle.nl_fields.proofs.SearchLemmas.{IsFirstByte-position}
use Rattle.nl_tool_texts.specs.Kind.{folder_len, folder_of, top_of}
use Rattle.nl_tool_texts.specs.Work.{extension_behind}

-- neither of two bytes
neither : (a b : Bool) → (a || b ≡ true → ⊥) → (a ≡ false) × (b ≡ false)
neither true b none = absurd (none refl)
neither false true none = absurd (none refl)
neither false false none = (refl, refl)

pub other : (a b : Bool) → a || b ≡ true → a ≡ false → b ≡ true
other true b is none = absurd (true≢false none)
other false b is none = is

-- no dot and no `/` from a place on
pub plain : (name found : List ℕ) → Nowhere (Passes (is_byte2 46 47) name) 0 (length name) → extension_behind found name ≡ found
plain [] found none = refl
plain (c ∷ cs) found none =
    let other = neither (c == 46) (c == 47) (none 0 (omega arith) (omega arith)) in
    (λ i. extension_behind (cond (other.1 i) [] (cond (other.0 i) (c ∷ cs) found)) cs)
    ∙ plain cs found (λ k low high. none (suc k) (omega arith) (omega (arith, high)))

-- the last of them is a `/`
pub last_is_slash : (name : List ℕ) (at : ℕ) (found : List ℕ) → at < length name → get_or name at 0 ≡ 47
    → Nowhere (Passes (is_byte2 46 47) name) (at + 1) (length name) → extension_behind found name ≡ []
last_is_slash [] at found within slash rest = absurd (omega (arith, within))
last_is_slash (c ∷ cs) zero found within slash rest =
    ap (λ b. extension_behind (cond b [] (cond (c == 46) (c ∷ cs) found)) cs) (eq-eqb c 47 slash)
    ∙ plain cs [] (λ k low high. rest (suc k) (omega arith) (omega (arith, high)))
last_is_slash (c ∷ cs) (suc k) found within slash rest =
    last_is_slash cs k (cond (c == 47) [] (cond (c == 46) (c ∷ cs) found)) (omega (arith, within)) slash
    (λ j low high. rest (suc j) (omega (arith, low)) (omega (arith, high)))

-- the last of them is a dot
pub last_is_dot : (name : List ℕ) (at : ℕ) (found : List ℕ) → at < length name → get_or name at 0 ≡ 46
    → Nowhere (Passes (is_byte2 46 47) name) (at + 1) (length name) → extension_behind found name ≡ drop at name
last_is_dot [] at found within dot rest = absurd (omega (arith, within))
last_is_dot (c ∷ cs) zero found within dot rest =
    ap (λ b. extension_behind (cond b [] (cond (c == 46) (c ∷ cs) found)) cs) (ne_eqb c 47 (λ slash. omega (arith, dot, slash)))
    ∙ ap (λ b. extension_behind (cond b (c ∷ cs) found) cs) (eq-eqb c 46 dot)
    ∙ plain cs (c ∷ cs) (λ k low high. rest (suc k) (omega arith) (omega (arith, high)))
last_is_dot (c ∷ cs) (suc k) found within dot rest =
    last_is_dot cs k (cond (c == 47) [] (cond (c == 46) (c ∷ cs) found)) (omega (arith, within)) dot
    (λ j low high. rest (suc j) (omega (arith, low)) (omega (arith, high)))

-- no `/`
leaf : (name : List ℕ) (found before : ℕ) → Nowhere (Passes (is_byte 47) name) 0 (length name) → folder_len found before name ≡ found
leaf [] found before none = refl
leaf (c ∷ cs) found before none =
    ap (λ b. folder_len (cond b (before + 1) found) (before + 1) cs) (ne_eqb c 47 (λ slash. none 0 (omega arith) (omega arith) (eq-eqb c 47 slash)))
    ∙ leaf cs found (before + 1) (λ k low high. none (suc k) (omega arith) (omega (arith, high)))

last_slash : (name : List ℕ) (at found before : ℕ) → at < length name → get_or name at 0 ≡ 47
    → Nowhere (Passes (is_byte 47) name) (at + 1) (length name) → folder_len found before name ≡ before + at + 1
last_slash [] at found before within slash rest = absurd (omega (arith, within))
last_slash (c ∷ cs) zero found before within slash rest =
    ap (λ b. folder_len (cond b (before + 1) found) (before + 1) cs) (eq-eqb c 47 slash)
    ∙ leaf cs (before + 1) (before + 1) (λ k low high. rest (suc k) (omega arith) (omega (arith, high))) ∙ omega arith
last_slash (c ∷ cs) (suc k) found before within slash rest =
    last_slash cs k (cond (c == 47) (before + 1) found) (before + 1) (omega (arith, within)) slash
    (λ j low high. rest (suc j) (omega (arith, low)) (omega (arith, high))) ∙ omega arith

-- the name up to the last `/`, and up to the first
pub folder_is : (name : List ℕ) (at : Option ℕ) (found : List ℕ) → IsLastByte (is_byte 47) name at
    → MatchOption at (found ≡ []) (λ i. i < length name → found ≡ take (i + 1) name) → found ≡ folder_of name
folder_is name None found none is = is ∙ ap (λ (n : ℕ). take n name) (sym (leaf name 0 0 none))
folder_is name (Some at) found last is =
    is last.0.high ∙ ap (λ (n : ℕ). take n name) (omega (arith, last_slash name at 0 0 last.0.high (eqb-true _ _ last.1) last.0.after))

pub top_is : (name : List ℕ) (at : Option ℕ) (found : List ℕ) → IsFirstByte (is_byte 47) name at
    → MatchOption at (found ≡ []) (λ i. i < length name → found ≡ take (i + 1) name) → found ≡ top_of name
top_is name None found none is =
    is ∙ ap (λ (p : Option ℕ). option_map_or (λ i. take (i + 1) name) p []) (IsFirstByte-position (λ b. b == 47) name None none)
top_is name (Some at) found first is =
    is first.0.high ∙ ap (λ (p : Option ℕ). option_map_or (λ i. take (i + 1) name) p []) (IsFirstByte-position (λ b. b == 47) name (Some at) first)
