-- Fields and columns by their places.
use Rattle.std.proofs.Common.{◌≡◌, ◌∙◌, ℕ, zero, suc, ◌+◌, ◌-◌, List, [], ◌++◌, ◌∷◌, ◌<◌, ◌≤◌, ◌==◌, ◌⊎◌, Bor, Option, None, Some, get_or, length, option_map, refl, ap, append_assoc, arith, inl, inr, nat_le, sym}
use Rattle.std.specs.Option.{unwrap_or}
use Rattle.std.proofs.lemmas.Bool.{cond-false, cond-true, le-leb, lt-leb, ne_eqb}
use Rattle.std.proofs.lemmas.Bool.Decides.{eqb_tells}
use Rattle.std.proofs.lemmas.List.{length-append}
use Rattle.nl_tool_texts.specs.Columns.{cell, cells, cells_to, cells_up_to, ellipsis, end_of, field_at, last_cell, newline_before, room_behind, row_of, rows_up_to, width, widths_up_to}

-- what a reference answers that stands for none
pub found_or : (r : Option (Bor (List ℕ))) (d : Bor (List ℕ)) → d.now ≡ [] → (unwrap_or r d).now ≡ unwrap_or (option_map (λ x. x.now) r) []
found_or None d empty = empty
found_or (Some x) d empty = refl

pub length-widths : (k count : ℕ) (lines : List (List ℕ)) → length (widths_up_to k count lines) ≡ k
length-widths zero count lines = refl
length-widths (suc k) count lines = length-append (widths_up_to k count lines) _ ∙ ap (λ n. n + 1) (length-widths k count lines) ∙ omega arith

-- a cell more, and the room behind it
pub cells-more : (k : ℕ) (ws line : List ℕ) → cells_up_to (k + 1) ws line ≡ cells_up_to k ws line ++ cell (get_or ws k 0) (field_at line k)
cells-more k ws line = ap (λ n. cells_up_to n ws line) {x = k + 1} {y = suc k} (omega arith)

pub room-more : (k most : ℕ) (ws : List ℕ) → room_behind (k + 1) most ws ≡ room_behind k most ws - get_or ws k 0 - 2
room-more k most ws = ap (λ n. room_behind n most ws) {x = k + 1} {y = suc k} (omega arith)

-- the last field, and with it all cells of a line
pub last_whole : (before room : ℕ) (field : List ℕ) → (before ≡ 0) ⊎ (width field ≤ room) → field ≡ last_cell before room field
last_whole before room field is =
    elim (eqb_tells before 0) [
      | inl h ↦ rw h.0 refl
      | inr h ↦
          rw h.0 (elim is [
            | inl none ↦ absurd (h.1 none)
            | inr short ↦ sym (cond-true (nat_le (width field) room) field _ (le-leb (width field) room short))
          ])
    ]

pub last_cut : (before room r : ℕ) (field : List ℕ) → (before ≡ 0 → ⊥) → room < width field → r ≡ room - 1
    → ellipsis ++ end_of r field ≡ last_cell before room field
last_cut before room r field some long is =
    elim (eqb_tells before 0) [
      | inl h ↦ absurd (some h.1)
      | inr h ↦
          rw h.0 (ap (λ (n : ℕ). ellipsis ++ end_of n field) is ∙ sym (cond-false (nat_le (width field) room) field _ (lt-leb (width field) room long)))
    ]

pub cells-done : (k last room most : ℕ) (ws line out before l field : List ℕ) → k ≡ last → last ≡ length ws - 1 → before ≡ out ++ cells_up_to k ws line
    → room ≡ room_behind k most ws → field ≡ field_at line last → l ≡ before ++ last_cell last room field → l ≡ out ++ cells most ws line
cells-done k last room most ws line out before l field there all items left is h =
    h ∙ (λ i. items i ++ last_cell last (left i) (is i)) ∙ append_assoc out (cells_up_to k ws line) _
    ∙ (λ i. out ++ (cells_up_to (there i) ws line ++ last_cell last (room_behind (there i) most ws) (field_at line last)))
    ∙ ap (λ (n : ℕ). out ++ cells_to n most ws line) all

-- a line more
pub newline-none : (i : ℕ) → i ≤ 0 → [] ≡ newline_before i
newline-none zero none = refl
newline-none (suc k) none = absurd (omega (arith, none))

pub newline-some : (i : ℕ) → 0 < i → 10 ∷ [] ≡ newline_before i
newline-some zero some = absurd (omega (arith, some))
newline-some (suc k) some = sym (cond-false (suc k == 0) [] (10 ∷ []) (ne_eqb (suc k) 0 (λ e. omega (arith, e))))

pub rows-more : (k most : ℕ) (lines : List (List ℕ))
    → rows_up_to (k + 1) most lines ≡ rows_up_to k most lines ++ newline_before k ++ row_of most lines (get_or lines k [])
rows-more k most lines = ap (λ n. rows_up_to n most lines) {x = k + 1} {y = suc k} (omega arith)
