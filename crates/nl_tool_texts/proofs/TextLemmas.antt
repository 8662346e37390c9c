-- Texts that are appended part by part, and names that are cut.
use Rattle.std.proofs.Common.{◌≡◌, ◌∙◌, ℕ, ◌<◌, ◌≤◌, List, ◌++◌, codes, length, min, take, ap, arith, append_assoc, inl, inr}
use Rattle.std.proofs.lemmas.Bool.Decides.{leb_tells}
use Rattle.std.proofs.lemmas.List.{take_min}
use Rattle.nl_tool_texts.specs.Escape.{label, shown}

pub two_parts : (old a b x y : List ℕ) → a ≡ old ++ x → b ≡ a ++ y → b ≡ old ++ (x ++ y)
two_parts old a b x y one two = two ∙ ap (λ (l : List ℕ). l ++ y) one ∙ append_assoc old x y

pub three_parts : (old a b c x y z : List ℕ) → a ≡ old ++ x → b ≡ a ++ y → c ≡ b ++ z → c ≡ old ++ (x ++ y ++ z)
three_parts old a b c x y z one two three =
    three ∙ ap (λ (l : List ℕ). l ++ z) (two_parts old a b x y one two) ∙ append_assoc old (x ++ y) z

-- parts by twos, one behind the other
pub three_pairs : (a b c d e f z : List ℕ) → ((a ++ b) ++ (c ++ d)) ++ (e ++ f) ++ z ≡ a ++ b ++ c ++ d ++ e ++ f ++ z
three_pairs a b c d e f z = simp append_assoc

pub four_pairs : (a b c d e f g h z : List ℕ) → (((a ++ b) ++ (c ++ d)) ++ (e ++ f)) ++ (g ++ h) ++ z ≡ a ++ b ++ c ++ d ++ e ++ f ++ g ++ h ++ z
four_pairs a b c d e f g h z = simp append_assoc

pub label_whole : (name whole : List ℕ) → whole ≡ shown name → length whole ≤ 100 → whole ≡ label name
label_whole name whole is short =
    elim (leb_tells (length (shown name)) 100) [
      | inl h ↦ rw h.0 is
      | inr h ↦ absurd (omega (arith, h.1, ap length is, short))
    ]

pub label_cut : (name whole start : List ℕ) → whole ≡ shown name → 100 < length whole → start ≡ shown (take 20 name) ++ codes ".."
    → start ≡ label name
label_cut name whole start is long cut =
    elim (leb_tells (length (shown name)) 100) [
      | inl h ↦ absurd (omega (arith, h.1, ap length is, long))
      | inr h ↦ rw h.0 cut
    ]

pub begins : (name : List ℕ) (n : ℕ) → n ≡ min (length name) 20 → take n name ≡ take 20 name
begins name n is =
    let other : n ≡ min 20 (length name) = omega (arith, is) in
    ap (λ (m : ℕ). take m name) other ∙ take_min 20 name
