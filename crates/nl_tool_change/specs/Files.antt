-- What the files KEEP and TIMES and the targets of a build say: docs/CLI.md, "Files".
use Rattle.std.specs.Prelude.{ℕ, ◌+◌, ◌==◌, ℤ, nat_le, Bool, false, not, ◌&&◌, List, [], ◌∷◌, ◌++◌, length, Option, None, Some, bytes_eq, option_and_then}
use Rattle.std.specs.Prelude.{◌≡◌, IfOk, IsErrOf, Result, if◌then◌else◌}
use Rattle.std.specs.List.{list_all}
use Rattle.nl_fields.specs.Digits.{decimal_of, integer_of}
use Rattle.nl_fields.specs.EntryLine.{before_tab, after_tab, is_within}
use Rattle.nl_fields.specs.Name.{is_name}
use Rattle.nl_lines.specs.Lines.{max_line}
use Rattle.std.specs.Global.{Vec}
use Rattle.nl_tool_texts.specs.Files.{OfBytes, file_lines}
use Rattle.nl_tool_texts.specs.declared.fault.ToolFault.{ToolFault}
use Rattle.nl_tool_texts.specs.declared.fault.ToolFault.TheVariants.{BadLine}
use Rattle.nl_tool_change.specs.declared.line_fault.LineFault.{LineFault}

-- the lines say these parts, in order, or the line of this number is the first bad one
pub data FileReading (T : Type 0) : Type 0 where
  Says : List T → FileReading T
  BadAt : ℕ → FileReading T

abbrev pub before : {T : Type 0} → T → FileReading T → FileReading T
before part (Says parts) = Says (part ∷ parts)
before part (BadAt number) = BadAt number

abbrev pub said_before : {T : Type 0} → Option T → ℕ → FileReading T → FileReading T
said_before None number later = BadAt number
said_before (Some part) number later = before part later

-- a line that is too long says no part
abbrev pub part_on : {T : Type 0} → (List ℕ → Option T) → List ℕ → Option T
part_on part_of line = if nat_le (length line) max_line then part_of line else None

-- an empty line says nothing
abbrev pub said_from : {T : Type 0} → (List ℕ → Option T) → ℕ → List (List ℕ) → FileReading T
said_from part_of number [] = Says []
said_from part_of number ([] ∷ lines) = said_from part_of (number + 1) lines
said_from part_of number ((b ∷ line) ∷ lines) = said_before (part_on part_of (b ∷ line)) number (said_from part_of (number + 1) lines)

abbrev pub said_after : {T : Type 0} → (List ℕ → Option T) → ℕ → List ℕ → FileReading T → FileReading T
said_after part_of number line (BadAt earlier) = BadAt earlier
said_after part_of number [] (Says parts) = Says parts
said_after part_of number (b ∷ line) (Says parts) =
    elim (part_on part_of (b ∷ line)) [ None ↦ BadAt number | Some part ↦ Says (parts ++ part ∷ []) ]

abbrev pub said_of : {T : Type 0} → List T → Option ℕ → FileReading T
said_of parts None = Says parts
said_of parts (Some number) = BadAt number

-- the number of the bad line
abbrev pub line_of : Option (ℕ × LineFault) → Option ℕ
line_of None = None
line_of (Some bad) = Some bad.0

-- what the lines said that were taken so far
abbrev pub said_so_far : {T : Type 0} → List T → Option (ℕ × LineFault) → FileReading T
said_so_far parts bad = said_of parts (line_of bad)

abbrev pub said_by : {T : Type 0} → (List ℕ → Option T) → List ℕ → FileReading T
said_by part_of bytes = said_from part_of 1 (file_lines bytes)

abbrev pub name_on : List ℕ → Option (List ℕ)
name_on line = if is_name line then Some line else None

-- an mtime in its one spelling stands before the first tab, and a name after it
abbrev pub is_pair : List ℕ → List ℕ → Bool
is_pair time name = is_within 63 (integer_of time) && (bytes_eq (decimal_of (integer_of time)) time && is_name name)

abbrev pub pair_on : List ℕ → Option (List ℕ × ℤ)
pair_on line = if is_pair (before_tab line) (after_tab line) then Some (after_tab line, integer_of (before_tab line)) else None

abbrev pub keep_of : List ℕ → FileReading (List ℕ)
keep_of bytes = said_by name_on bytes

abbrev pub times_of : List ℕ → FileReading (List ℕ × ℤ)
times_of bytes = said_by pair_on bytes

abbrev pub has_no_space : List ℕ → Bool
has_no_space bytes = list_all (λ b. not (b == 32)) bytes

-- a space, and no other after it
abbrev pub begins_rule : List ℕ → Bool
begins_rule [] = false
begins_rule (b ∷ bytes) = b == 32 && has_no_space bytes

-- the front of a line that has `b` before `bytes`, by that of `bytes`
abbrev pub cut_behind : ℕ → List ℕ → Option (List ℕ) → Option (List ℕ)
cut_behind b bytes (Some front) = Some (b ∷ front)
cut_behind b bytes None = if b == 58 && begins_rule bytes then Some [] else None

-- what stands before the last space, less the colon that must end it
abbrev pub before_rule : List ℕ → Option (List ℕ)
before_rule [] = None
before_rule (b ∷ bytes) = cut_behind b bytes (before_rule bytes)

-- a name, `: ` and a rule, which has no space
abbrev pub target_on : List ℕ → Option (List ℕ)
target_on line = option_and_then name_on (before_rule line)

-- there must be one, because a Ninja that fails prints none
abbrev pub some_said : FileReading (List ℕ) → FileReading (List ℕ)
some_said (Says []) = BadAt 1
some_said (Says (name ∷ names)) = Says (name ∷ names)
some_said (BadAt number) = BadAt number

abbrev pub manifest_of : List ℕ → FileReading (List ℕ)
manifest_of bytes = some_said (said_by target_on bytes)

-- the parts are those that the file says
abbrev pub IfSaid : {T : Type 0} → Result (Vec T) ToolFault → (List ℕ → FileReading T) → Option (List ℕ) → Type 0
IfSaid result reading known = IfOk result (λ parts. OfBytes known (λ bytes. reading bytes ≡ Says parts.items))

-- the number is that of the first bad line
abbrev pub IfBadLine : {R T : Type 0} → Result R ToolFault → (List ℕ → FileReading T) → Option (List ℕ) → Type 0
IfBadLine result reading known = (number : ℕ) → IsErrOf result (BadLine number) → OfBytes known (λ bytes. reading bytes ≡ BadAt number)
