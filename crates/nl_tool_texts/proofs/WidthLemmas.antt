-- How wide cells are.
use Rattle.std.proofs.Common.{◌≡◌, ◌≢◌, ◌∙◌, ◌≤◌, ◌<◌, ◌-◌, ◌==◌, ◌&&◌, ℕ, zero, suc, ◌+◌, max, true, false, List, [], ◌∷◌, ◌++◌, cond, get_or, length, refl, sym, subst, arith, true≢false}
use Rattle.std.specs.Prelude.{nat_le}
use Rattle.std.proofs.lemmas.Bool.{and_parts, cond-false, eq-eqb, eqb-true, leb-true, ne_eqb}
use Rattle.std.proofs.lemmas.List.{get_or_append_left, get_or_at}
use Rattle.std.proofs.lemmas.List.Sums.{sum_by-append, sum_by-cons}
use Rattle.nl_tool_texts.specs.Columns.{begins_one, cell, cells_to, cells_up_to, ellipsis, end_of, field_at, fields_of, fitted, last_cell, room_behind, spaces, widest, width, widths, widths_up_to, with_line}
use Rattle.nl_tool_texts.proofs.CellLemmas.{length-widths}

-- a line more makes no column narrower
never_less : (count place : ℕ) (line : List ℕ) (c : ℕ) → c ≤ with_line count place line c
never_less count place line c =
    elim (length (fields_of line) == count) as (λ b. c ≤ cond b (max c (width (field_at line place))) c) [
      | true ↦ omega arith
      | false ↦ omega arith
    ]

never_narrower : (count place : ℕ) (lines : List (List ℕ)) (c : ℕ) → c ≤ widest count place lines c
never_narrower count place [] c = omega arith
never_narrower count place (line ∷ lines) c = omega (arith, never_less count place line c, never_narrower count place lines (with_line count place line c))

-- each field of a column has room in it
has_room : (before : List (List ℕ)) (line : List ℕ) (later : List (List ℕ)) (place : ℕ) (c : ℕ)
    → width (field_at line place) ≤ widest (length (fields_of line)) place (before ++ line ∷ later) c
has_room [] line later place c =
    let count = length (fields_of line) in
    let wide : width (field_at line place) ≤ with_line count place line c =
    subst (λ b. width (field_at line place) ≤ cond b (max c (width (field_at line place))) c) (sym (eq-eqb count count refl)) (omega arith) in
    omega (arith, wide, never_narrower count place later (with_line count place line c))
has_room (l ∷ before) line later place c = has_room before line later place (with_line (length (fields_of line)) place l c)

width-append : (a b : List ℕ) → width (a ++ b) ≡ width a + width b
width-append a b = sum_by-append (λ x. cond (begins_one x) 1 0) a b

width-spaces : (n : ℕ) → width (spaces n) ≡ n
width-spaces zero = refl
width-spaces (suc n) = sum_by-cons (λ x. cond (begins_one x) 1 0) 32 (spaces n) ∙ omega (arith, width-spaces n)

pub line_up : (before : List (List ℕ)) (line : List ℕ) (later : List (List ℕ)) (place : ℕ)
    → width (cell (widest (length (fields_of line)) place (before ++ line ∷ later) 0) (field_at line place))
    ≡ widest (length (fields_of line)) place (before ++ line ∷ later) 0 + 2
line_up before line later place =
    let c : ℕ = widest (length (fields_of line)) place (before ++ line ∷ later) 0 in
    let field : List ℕ = field_at line place in
    let n : ℕ = c - width field in
    let before_it : width (spaces n ++ field) ≡ n + width field = width-append (spaces n) field ∙ (λ i. width-spaces n i + width field) in
    width-append (spaces n ++ field) (spaces 2) ∙ (λ i. before_it i + width-spaces 2 i) ∙ omega (arith, has_room before line later place 0)

-- ---- no line is wider than it may be

end_fits : (room : ℕ) (text : List ℕ) → width (end_of room text) ≤ room
end_fits room [] = omega arith
end_fits room (b ∷ bs) =
    elim (begins_one b && nat_le (width (b ∷ bs)) room) as (λ x. (begins_one b && nat_le (width (b ∷ bs)) room) ≡ x → width (cond x (b ∷ bs) (end_of room bs)) ≤ room) [
      | true ↦ λ is. leb-true (width (b ∷ bs)) room (and_parts (begins_one b) _ is).1
      | false ↦ λ is. end_fits room bs
    ] refl

fitted_fits : (room : ℕ) (field : List ℕ) → 1 ≤ room → width (fitted room field) ≤ room
fitted_fits room field some =
    elim (nat_le (width field) room) as (λ x. nat_le (width field) room ≡ x → width (cond x field (ellipsis ++ end_of (room - 1) field)) ≤ room) [
      | true ↦ λ is. leb-true (width field) room is
      | false ↦ λ is. omega (arith, width-append ellipsis (end_of (room - 1) field), width-ellipsis, end_fits (room - 1) field)
    ] refl
  where
    width-ellipsis : width ellipsis ≡ 1
    width-ellipsis = refl

width-cell : (wide : ℕ) (field : List ℕ) → width field ≤ wide → width (cell wide field) ≡ wide + 2
width-cell wide field fits =
    let before_it = width-append (spaces (wide - width field)) field in
    let all = width-append (spaces (wide - width field) ++ field) (spaces 2) in
    omega (arith, before_it, all, width-spaces (wide - width field), width-spaces 2, fits)

get-widths : (n k count : ℕ) (lines : List (List ℕ)) → k < n → get_or (widths_up_to n count lines) k 0 ≡ widest count k lines 0
get-widths zero k count lines inside = absurd (omega (arith, inside))
get-widths (suc n) k count lines inside = elim (k == n) as (λ b. (k == n) ≡ b → get_or (widths_up_to n count lines ++ widest count n lines 0 ∷ []) k 0 ≡ widest count k lines 0) [
  | true ↦ λ is. last (eqb-true k n is)
  | false ↦ λ is. get_or_append_left (widths_up_to n count lines) _ 0 k (omega (arith, length-widths n count lines, inside, apart is))
      ∙ get-widths n k count lines (omega (arith, inside, apart is))
] refl
  where
    apart : (k == n) ≡ false → k ≢ n
    apart is same = true≢false (sym (eq-eqb k n same) ∙ is)

    last : k ≡ n → get_or (widths_up_to n count lines ++ widest count n lines 0 ∷ []) k 0 ≡ widest count k lines 0
    last same = subst (λ m. get_or (widths_up_to n count lines ++ widest count n lines 0 ∷ []) m 0 ≡ widest count m lines 0) (sym same)
        (get_or_at (widths_up_to n count lines) (widest count n lines 0) [] 0 n (length-widths n count lines))

-- the first cells take what room isn't left behind them
module _ (most : ℕ) (before : List (List ℕ)) (line : List ℕ) (later : List (List ℕ)) where
  abbrev pub ws : List ℕ
  ws = widths (length (fields_of line)) (before ++ line ∷ later)

  width-nil : width [] ≡ 0
  width-nil = refl

  room_taken : (k : ℕ) → k ≤ length (fields_of line) → 1 ≤ room_behind k most ws
      → width (cells_up_to k ws line) + room_behind k most ws ≡ most
  room_taken zero within some = omega (arith, width-nil)
  room_taken (suc k) within some =
      let wide : ℕ = get_or ws k 0 in
      let fits : width (field_at line k) ≤ wide =
      subst (λ n. width (field_at line k) ≤ n) (sym (get-widths (length (fields_of line)) k (length (fields_of line)) (before ++ line ∷ later) (omega (arith, within)))) (has_room before line later k 0) in
      let left = room_taken k (omega (arith, within)) (omega (arith, some)) in
      omega (arith, some, left, width-append (cells_up_to k ws line) (cell wide (field_at line k)), width-cell wide (field_at line k) fits)

  pub line_fits : (last : ℕ) → last + 1 ≡ length (fields_of line) → 1 ≤ last → 1 ≤ room_behind last most ws
      → width (cells_to last most ws line) ≤ most
  line_fits zero whole some left = absurd (omega (arith, some))
  line_fits (suc last) whole some left =
      let room : ℕ = room_behind (suc last) most ws in
      let field : List ℕ = field_at line (suc last) in
      let is : last_cell (suc last) room field ≡ fitted room field = cond-false _ _ _ (ne_eqb (suc last) 0 (λ none. absurd (omega (arith, none)))) in
      let taken = room_taken (suc last) (omega (arith, whole)) left in
      let fits : width (cells_up_to (suc last) ws line ++ fitted room field) ≤ most =
      omega (arith, taken, left, width-append (cells_up_to (suc last) ws line) (fitted room field), fitted_fits room field left) in
      subst (λ (l : List ℕ). width (cells_up_to (suc last) ws line ++ l) ≤ most) (sym is) fits
