-- A text whose fields tabs part, in columns (docs/CLI.md, "At a terminal").
use Rattle.std.specs.Prelude.{ℕ, zero, suc, ◌-◌, ◌/◌, ◌%◌, ◌≡◌, ◌==◌, ◌&&◌, ◌||◌, nat_le, nat_lt, not, max, Bool, List, [], ◌∷◌, ◌++◌, length, get_or, slice_get, replicate, count_by, if◌then◌else◌}
use Rattle.std.specs.List.{flat_map, list_all, slice_split}
use Rattle.std.specs.Char.{encode_utf8}
use Rattle.std.specs.Str.{chars, continuation_len, is_utf8}
use Rattle.std.specs.Option.{unwrap_or}
use Rattle.nl_fields.specs.Digits.{digit_of}

-- ---- what a terminal shows

-- a character that changes the order in which others are read: those of Unicode's Bidi_Control, and the separators of lines and paragraphs
abbrev pub is_turning : ℕ → Bool
is_turning c = c == 1564 || ((nat_le 8206 c && nat_le c 8207) || ((nat_le 8232 c && nat_le c 8238) || (nat_le 8294 c && nat_le c 8297)))

-- a character that a terminal obeys: one of those, and each control character but tabs and newlines, which part the text
abbrev pub is_obeyed : ℕ → Bool
is_obeyed c = (nat_lt c 32 && (not (c == 9) && not (c == 10))) || ((nat_le 127 c && nat_lt c 160) || is_turning c)

-- a byte of ASCII that isn't obeyed
abbrev pub is_plain : ℕ → Bool
is_plain b = nat_lt b 128 && not (is_obeyed b)

-- the bytes are UTF-8, and no character of them is obeyed
abbrev pub is_quiet : List ℕ → Bool
is_quiet bytes = is_utf8 bytes && list_all (λ c. not (is_obeyed c)) (chars bytes)

-- a byte by its number in hexadecimal
abbrev pub by_number : ℕ → List ℕ
by_number b = 92 ∷ 120 ∷ digit_of (b / 16 % 16) ∷ digit_of (b % 16) ∷ []

abbrev pub by_numbers : List ℕ → List ℕ
by_numbers bytes = flat_map by_number bytes

-- the bytes of one character as they are, if it isn't obeyed; else by their numbers, and so what is no character
abbrev pub shown_one : List ℕ → List ℕ
shown_one bytes = if is_quiet bytes then bytes else by_numbers bytes

-- a byte that only goes on with a character of UTF-8
abbrev pub goes_on : ℕ → Bool
goes_on b = nat_le 128 b && nat_lt b 192

-- what a byte goes on with, of the beginning of a character that came before it; what it cuts off instead
abbrev pub gone_on : List ℕ → ℕ → List ℕ
gone_on begun b = if goes_on b then begun ++ b ∷ [] else b ∷ []

abbrev pub cut_off : List ℕ → ℕ → List ℕ
cut_off begun b = if goes_on b then [] else begun

-- there are as many bytes as the first of them begins
abbrev pub is_whole : List ℕ → Bool
is_whole bytes = nat_lt (continuation_len (get_or bytes 0 0)) (length bytes)

-- what is shown once a byte has come, and what is begun then
abbrev pub shown_now : List ℕ → ℕ → List ℕ
shown_now begun b = by_numbers (cut_off begun b) ++ (if is_whole (gone_on begun b) then shown_one (gone_on begun b) else [])

abbrev pub begun_then : List ℕ → ℕ → List ℕ
begun_then begun b = if is_whole (gone_on begun b) then [] else gone_on begun b

-- the same of several bytes
abbrev pub shown_of : List ℕ → List ℕ → List ℕ
shown_of begun [] = []
shown_of begun (b ∷ text) = shown_now begun b ++ shown_of (begun_then begun b) text

abbrev pub begun_by : List ℕ → List ℕ → List ℕ
begun_by begun [] = begun
begun_by begun (b ∷ text) = begun_by (begun_then begun b) text

-- a text is shown as it is, and ends no character in its midst
abbrev pub Passes : List ℕ → Type 0
Passes text = (shown_of [] text ≡ text) × (begun_by [] text ≡ [])

-- a text: each character of UTF-8 that isn't obeyed as it is, and all other bytes by their numbers
abbrev pub shown : List ℕ → List ℕ
shown text = shown_of [] text ++ by_numbers (begun_by [] text)

-- of a character alone
abbrev pub shown_char : ℕ → List ℕ
shown_char c = if is_obeyed c then by_numbers (encode_utf8 c) else encode_utf8 c

-- ---- lines and fields

abbrev pub lines_of : List ℕ → List (List ℕ)
lines_of text = slice_split (λ b. b == 10) text

abbrev pub fields_of : List ℕ → List (List ℕ)
fields_of line = slice_split (λ b. b == 9) line

-- a field of a line; empty where there is none
abbrev pub field_at : List ℕ → ℕ → List ℕ
field_at line place = unwrap_or (slice_get (fields_of line) place) []

-- a byte that doesn't go on with a character of UTF-8
abbrev pub begins_one : ℕ → Bool
begins_one b = not (nat_le 128 b && nat_lt b 192)

-- how many characters a field has
abbrev pub width : List ℕ → ℕ
width field = count_by begins_one field

-- ---- columns

-- with the field of a line, where the line has so many
abbrev pub with_line : ℕ → ℕ → List ℕ → ℕ → ℕ
with_line count place line so_far = if length (fields_of line) == count then max so_far (width (field_at line place)) else so_far

-- how many characters the longest field at a place has, of the lines that have so many
abbrev pub widest : ℕ → ℕ → List (List ℕ) → ℕ → ℕ
widest count place [] so_far = so_far
widest count place (line ∷ lines) so_far = widest count place lines (with_line count place line so_far)

-- how wide the first columns are of the lines that have so many fields
abbrev pub widths_up_to : ℕ → ℕ → List (List ℕ) → List ℕ
widths_up_to zero count lines = []
widths_up_to (suc k) count lines = widths_up_to k count lines ++ widest count k lines 0 ∷ []

-- all of them
abbrev pub widths : ℕ → List (List ℕ) → List ℕ
widths count lines = widths_up_to count count lines

-- ---- cells

abbrev pub spaces : ℕ → List ℕ
spaces n = replicate n 32

-- a field that others follow stands at the right of its column; two spaces part it from the next
abbrev pub cell : ℕ → List ℕ → List ℕ
cell wide field = spaces (wide - width field) ++ field ++ spaces 2

-- the longest end of a field that has so many characters at most, and begins with one
abbrev pub end_of : ℕ → List ℕ → List ℕ
end_of room [] = []
end_of room (b ∷ bs) = if begins_one b && nat_le (width (b ∷ bs)) room then b ∷ bs else end_of room bs

abbrev pub ellipsis : List ℕ
ellipsis = 226 ∷ 128 ∷ 166 ∷ []

-- a field whole, or an ellipsis and its end, where so many characters fit
abbrev pub fitted : ℕ → List ℕ → List ℕ
fitted room field = if nat_le (width field) room then field else ellipsis ++ end_of (room - 1) field

-- the last field is cut only where others stand before it
abbrev pub last_cell : ℕ → ℕ → List ℕ → List ℕ
last_cell before room field = if before == 0 then field else fitted room field

-- the first cells of a line, and how many characters fit behind them
abbrev pub cells_up_to : ℕ → List ℕ → List ℕ → List ℕ
cells_up_to zero ws line = []
cells_up_to (suc k) ws line = cells_up_to k ws line ++ cell (get_or ws k 0) (field_at line k)

abbrev pub room_behind : ℕ → ℕ → List ℕ → ℕ
room_behind zero most ws = most
room_behind (suc k) most ws = room_behind k most ws - get_or ws k 0 - 2

-- all of them
abbrev pub cells_to : ℕ → ℕ → List ℕ → List ℕ → List ℕ
cells_to last most ws line = cells_up_to last ws line ++ last_cell last (room_behind last most ws) (field_at line last)

abbrev pub cells : ℕ → List ℕ → List ℕ → List ℕ
cells most ws line = cells_to (length ws - 1) most ws line

-- a line of these
abbrev pub row_of : ℕ → List (List ℕ) → List ℕ → List ℕ
row_of most lines line = cells most (widths (length (fields_of line)) lines) line

-- ---- the text

abbrev pub newline_before : ℕ → List ℕ
newline_before k = if k == 0 then [] else 10 ∷ []

-- the first lines, with newlines between them
abbrev pub rows_up_to : ℕ → ℕ → List (List ℕ) → List ℕ
rows_up_to zero most lines = []
rows_up_to (suc k) most lines = rows_up_to k most lines ++ newline_before k ++ row_of most lines (get_or lines k [])

abbrev pub laid_out : ℕ → List ℕ → List ℕ
laid_out most text = rows_up_to (length (lines_of text)) most (lines_of text)

-- as a terminal with lines of so many characters shows it
abbrev pub in_columns : ℕ → List ℕ → List ℕ
in_columns most text = laid_out most (shown text)
