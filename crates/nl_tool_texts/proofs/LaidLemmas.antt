-- What is laid out in columns is quiet, too.
use Rattle.std.proofs.Common.{◌≡◌, ◌∙◌, ◌≤◌, ◌<◌, ◌==◌, ◌&&◌, ◌-◌, ℕ, zero, suc, true, false, cond, List, [], ◌∷◌, ◌++◌, get_or, length, length-append, refl, sym, ap, subst, arith, inl, inr, append_assoc}
use Rattle.std.specs.Prelude.{nat_le, nat_lt, slice_index}
use Rattle.std.specs.List.{join_with_byte, list_all}
use Rattle.std.specs.Str.{IsCharBoundary, IsUtf8, chars, is_utf8}
use Rattle.std.proofs.lemmas.Bool.{and_parts, cases_lt, le-leb, lt-ltb}
use Rattle.std.proofs.lemmas.List.{drop_at, get_or_at, take_at}
use Rattle.std.proofs.lemmas.List.Folds.{list_all-append}
use Rattle.std.proofs.lemmas.List.Splits.{join_with_byte-slice_split}
use Rattle.std.proofs.lemmas.Option.{unwrap_or-slice_get}
use Rattle.std.proofs.lemmas.Str.{IsCharBoundary-after_ascii, IsCharBoundary-before_ascii, IsUtf8-drop, IsUtf8-from_is_utf8, IsUtf8-take, chars-append, is_utf8-from_IsUtf8}
use Rattle.nl_tool_texts.specs.Columns.{begins_one, cell, cells_to, cells_up_to, ellipsis, end_of, field_at, fields_of, fitted, in_columns, is_quiet, last_cell, lines_of, newline_before, row_of, rows_up_to, shown, spaces, width, widths}
use Rattle.nl_tool_texts.proofs.ShownLemmas.{quiet, quiet_append, quiet_ascii, quiet_ellipsis, quiet_newline, quiet_nil, stays}

-- ---- parts of what is quiet

from_parts : (text : List ℕ) → IsUtf8 text → list_all stays (chars text) ≡ true → is_quiet text ≡ true
from_parts text utf all =
    let is : is_utf8 text ≡ true = is_utf8-from_IsUtf8 text utf in
    rw is all

split_quiet : (xs ys : List ℕ) → IsCharBoundary (xs ++ ys) (length xs) → is_quiet (xs ++ ys) ≡ true → (is_quiet xs ≡ true) × (is_quiet ys ≡ true)
split_quiet xs ys at is =
    let text = xs ++ ys in
    let parts = and_parts (is_utf8 text) (list_all stays (chars text)) is in
    let utf = IsUtf8-from_is_utf8 text parts.0 in
    let front : IsUtf8 xs = subst IsUtf8 (take_at xs ys (length xs) refl) (IsUtf8-take text (length xs) utf at) in
    let rest : IsUtf8 ys = subst IsUtf8 (drop_at xs ys (length xs) refl) (IsUtf8-drop text (length xs) utf at) in
    let all = sym (list_all-append stays (chars xs) (chars ys)) ∙ ap (list_all stays) (sym (chars-append xs ys front)) ∙ parts.1 in
    let both = and_parts (list_all stays (chars xs)) (list_all stays (chars ys)) all in
    (from_parts xs front both.0, from_parts ys rest both.1)

ascii_split : (xs ys : List ℕ) (c : ℕ) → c < 128 → is_quiet (xs ++ c ∷ ys) ≡ true → (is_quiet xs ≡ true) × (is_quiet ys ≡ true)
ascii_split xs ys c ascii is =
    let text = xs ++ c ∷ ys in
    let within : length xs < length text = omega (arith, length-append xs (c ∷ ys)) in
    let byte : get_or text (length xs) 0 ≡ c = get_or_at xs c ys 0 (length xs) refl in
    let one = split_quiet xs (c ∷ ys) (IsCharBoundary-before_ascii text (length xs) within (omega (arith, byte, ascii))) is in
    let rest = and_parts (is_utf8 (c ∷ ys)) (list_all stays (chars (c ∷ ys))) one.1 in
    (one.0, (split_quiet (c ∷ []) ys (IsCharBoundary-after_ascii (c ∷ ys) 0 (IsUtf8-from_is_utf8 (c ∷ ys) rest.0) (omega arith) ascii) one.1).1)

part_quiet : (c : ℕ) → c < 128 → (parts : List (List ℕ)) (k : ℕ) → is_quiet (join_with_byte c parts) ≡ true → is_quiet (get_or parts k []) ≡ true
part_quiet c ascii [] k is = quiet_nil
part_quiet c ascii (p ∷ []) zero is = is
part_quiet c ascii (p ∷ []) (suc k) is = quiet_nil
part_quiet c ascii (p ∷ q ∷ parts) zero is = (ascii_split p (join_with_byte c (q ∷ parts)) c ascii is).0
part_quiet c ascii (p ∷ q ∷ parts) (suc k) is = part_quiet c ascii (q ∷ parts) k (ascii_split p (join_with_byte c (q ∷ parts)) c ascii is).1

line_quiet : (text : List ℕ) (k : ℕ) → is_quiet text ≡ true → is_quiet (get_or (lines_of text) k []) ≡ true
line_quiet text k is = part_quiet 10 (omega arith) (lines_of text) k (ap is_quiet (join_with_byte-slice_split 10 text) ∙ is)

field_quiet : (line : List ℕ) (place : ℕ) → is_quiet line ≡ true → is_quiet (field_at line place) ≡ true
field_quiet line place is =
    ap is_quiet (unwrap_or-slice_get (fields_of line) place [])
    ∙ part_quiet 9 (omega arith) (fields_of line) place (ap is_quiet (join_with_byte-slice_split 9 line) ∙ is)

-- a character begins at such a byte
begin_boundary : (xs : List ℕ) (b : ℕ) (ys : List ℕ) → begins_one b ≡ true → IsCharBoundary (xs ++ b ∷ ys) (length xs)
begin_boundary xs b ys begins = (
  omega (arith, length-append xs (b ∷ ys)),
  λ within high.
      let byte : slice_index (xs ++ b ∷ ys) (length xs) ≡ b = get_or_at xs b ys 0 (length xs) refl in
      let over : 128 ≤ b = omega (arith, high, byte) in
      elim (cases_lt b 192) [
        | inr past ↦ omega (arith, past, byte)
        | inl below ↦
            let first : nat_le 128 b ≡ true = le-leb 128 b over in
            let second : nat_lt b 192 ≡ true = lt-ltb b 192 below in
            absurd (cc (rw (first, second) at begins))
      ],
)

end_quiet : (room : ℕ) (front field : List ℕ) → is_quiet (front ++ field) ≡ true → is_quiet (end_of room field) ≡ true
end_quiet room front [] is = quiet_nil
end_quiet room front (b ∷ bs) is =
    elim (begins_one b && nat_le (width (b ∷ bs)) room) as (λ x. (begins_one b && nat_le (width (b ∷ bs)) room) ≡ x → is_quiet (cond x (b ∷ bs) (end_of room bs)) ≡ true) [
      | true ↦ λ e. (split_quiet front (b ∷ bs) (begin_boundary front b bs (and_parts (begins_one b) _ e).0) is).1
      | false ↦ λ e. end_quiet room (front ++ b ∷ []) bs (ap is_quiet (append_assoc front (b ∷ []) bs) ∙ is)
    ] refl

-- ---- cells and lines

quiet_spaces : (n : ℕ) → is_quiet (spaces n) ≡ true
quiet_spaces zero = quiet_nil
quiet_spaces (suc n) = quiet_append (32 ∷ []) (spaces n) (quiet_ascii 32 (omega arith) (omega arith)) (quiet_spaces n)

quiet_cell : (wide : ℕ) (field : List ℕ) → is_quiet field ≡ true → is_quiet (cell wide field) ≡ true
quiet_cell wide field is =
    quiet_append (spaces (wide - width field) ++ field) (spaces 2) (quiet_append (spaces (wide - width field)) field (quiet_spaces (wide - width field)) is)
    (quiet_spaces 2)

quiet_fitted : (room : ℕ) (field : List ℕ) → is_quiet field ≡ true → is_quiet (fitted room field) ≡ true
quiet_fitted room field is = elim (nat_le (width field) room) as (λ x. is_quiet (cond x field (ellipsis ++ end_of (room - 1) field)) ≡ true) [
  | true ↦ is
  | false ↦ quiet_append ellipsis (end_of (room - 1) field) quiet_ellipsis (end_quiet (room - 1) [] field is)
]

quiet_last : (before room : ℕ) (field : List ℕ) → is_quiet field ≡ true → is_quiet (last_cell before room field) ≡ true
quiet_last before room field is = elim (before == 0) as (λ x. is_quiet (cond x field (fitted room field)) ≡ true) [
  | true ↦ is
  | false ↦ quiet_fitted room field is
]

quiet_cells : (k : ℕ) (ws line : List ℕ) → is_quiet line ≡ true → is_quiet (cells_up_to k ws line) ≡ true
quiet_cells zero ws line is = quiet_nil
quiet_cells (suc k) ws line is =
    quiet_append (cells_up_to k ws line) (cell (get_or ws k 0) (field_at line k)) (quiet_cells k ws line is)
    (quiet_cell (get_or ws k 0) (field_at line k) (field_quiet line k is))

quiet_row : (last most : ℕ) (ws line : List ℕ) → is_quiet line ≡ true → is_quiet (cells_to last most ws line) ≡ true
quiet_row last most ws line is =
    quiet_append (cells_up_to last ws line) _ (quiet_cells last ws line is) (quiet_last last _ (field_at line last) (field_quiet line last is))

quiet_break : (k : ℕ) → is_quiet (newline_before k) ≡ true
quiet_break k = elim (k == 0) as (λ x. is_quiet (cond x [] (10 ∷ [])) ≡ true) [
  | true ↦ quiet_nil
  | false ↦ quiet_newline
]

quiet_rows : (k most : ℕ) (text : List ℕ) → is_quiet text ≡ true → is_quiet (rows_up_to k most (lines_of text)) ≡ true
quiet_rows zero most text is = quiet_nil
quiet_rows (suc k) most text is =
    let lines = lines_of text in
    let line = get_or lines k [] in
    let ws = widths (length (fields_of line)) lines in
    quiet_append (rows_up_to k most lines ++ newline_before k) (row_of most lines line)
    (quiet_append (rows_up_to k most lines) (newline_before k) (quiet_rows k most text is) (quiet_break k))
    (quiet_row (length ws - 1) most ws line (line_quiet text k is))

pub columns_quiet : (most : ℕ) (text : List ℕ) → is_quiet (in_columns most text) ≡ true
columns_quiet most text = quiet_rows (length (lines_of (shown text))) most (shown text) (quiet text)
