-- Texts by their parts, and times in words.
use Rattle.std.specs.Prelude.{ℕ, ◌-◌, ◌/◌, ◌%◌, ◌==◌, ◌&&◌, nat_lt, Bool, List, [], ◌∷◌, ◌++◌, codes, decimal, if◌then◌else◌}
use Rattle.std.specs.Int.{abs_diff}
use Rattle.nl_tool_texts.specs.declared.text.Part.{Part}
use Rattle.nl_tool_texts.specs.declared.text.Part.TheVariants.{Text, Number, Percent, Time, Took, Change, Moment, Seconds}

-- a rest of 0 isn't written
abbrev pub rest_text : List ℕ → ℕ → List ℕ → List ℕ
rest_text before number unit = if number == 0 then [] else before ++ decimal number ++ unit

abbrev pub two_text : ℕ → List ℕ → ℕ → List ℕ → List ℕ
two_text first unit rest small = decimal first ++ unit ++ rest_text (codes " ") rest small

-- in at most two units; what is less is dropped
abbrev pub time_text : ℕ → List ℕ
time_text ms = if ms == 0 then codes "0 s" else (if nat_lt ms 1000 then rest_text [] ms (codes " ms") else
    (if nat_lt ms 60000 then decimal (ms / 1000) ++ rest_text (codes ".") (ms % 1000 / 100) [] ++ codes " s" else
    (if nat_lt ms 3600000 then two_text (ms / 60000) (codes " min") (ms % 60000 / 1000) (codes " s") else
    two_text (ms / 3600000) (codes " h") (ms % 3600000 / 60000) (codes " min"))))

-- in seconds, with the milliseconds after the point
abbrev pub seconds : ℕ → List ℕ
seconds ms = decimal (ms / 1000) ++ codes "." ++ decimal (ms % 1000 / 100) ++ decimal (ms % 100 / 10) ++ decimal (ms % 10)

abbrev pub joined : List (List ℕ) → List ℕ
joined [] = []
joined (t ∷ ts) = t ++ joined ts

-- a time in words, or in milliseconds
abbrev pub took_text : Bool → ℕ → List ℕ
took_text words ms = if words then time_text ms else decimal ms

-- the second time less the first; in words a longer one has its sign too
abbrev pub sign : Bool → ℕ → ℕ → List ℕ
sign words old new = if nat_lt new old then codes "-" else (if words && nat_lt old new then codes "+" else [])

abbrev pub change_text : Bool → ℕ → ℕ → List ℕ
change_text words old new = sign words old new ++ took_text words (abs_diff old new)

-- a moment as an entry tells it: with a sign, if it is before the build began
abbrev pub told_moment : Bool → ℕ → List ℕ
told_moment words at = if nat_lt at 2147483648 then codes "-" ++ took_text words (2147483648 - at) else took_text words (at - 2147483648)

abbrev pub part_text : Part → List ℕ
part_text (Text text) = text.now
part_text (Number number) = decimal number
part_text (Percent number) = decimal number ++ codes "%"
part_text (Time ms) = time_text ms
part_text (Took words ms) = took_text words ms
part_text (Change words old new) = change_text words old new
part_text (Moment words at) = told_moment words at
part_text (Seconds ms) = seconds ms

abbrev pub parts_text : List Part → List ℕ
parts_text [] = []
parts_text (p ∷ ps) = part_text p ++ parts_text ps

-- fields that tabs part, after what stands before the first, and a newline
abbrev pub fields_text : List ℕ → List (List ℕ) → List ℕ
fields_text before [] = codes "\n"
fields_text before (f ∷ fs) = before ++ f ++ fields_text (codes "\t") fs

abbrev pub line : List (List ℕ) → List ℕ
line fields = fields_text [] fields
