-- What the commands print that go through a log line by line, and what a writer then holds (docs/CLI.md, "`entries`" and "`damage`").
use Rattle.std.specs.Prelude.{◌≡◌, ℕ, ◌+◌, ◌==◌, ◌&&◌, nat_le, nat_lt, Bool, false, List, [], ◌∷◌, ◌++◌, length, drop, Option, None, Some}
use Rattle.std.specs.Prelude.{IfSome, Result, Ok, Err, codes, decimal, count_by, if◌then◌else◌}
use Rattle.std.specs.Io.KnownBytes.{Appends}
use Rattle.nl_fields.specs.declared.entry.Entry.{Entry}
use Rattle.nl_fields.specs.EntryLine.{Texts, line_of}
use Rattle.nl_distrust.specs.Plain.{plain_texts}
use Rattle.nl_lines.specs.Prefix.{IsPrefix}
use Rattle.nl_lines.specs.Split.{lines_of, rest_of, with_newline}
use Rattle.nl_lines.specs.Lines.{lent_rest, max_line}
use Rattle.nl_table.specs.Log.{LogReading, Log, OtherVersion, NotALog, entry_by, log_of}
use Rattle.nl_table.specs.LogText.{lines_of_entries}
use Rattle.nl_tool_texts.specs.declared.fault.ToolFault.{ToolFault}
use Rattle.nl_tool_print.specs.Output.{IsTextAsRead}

-- ---- the text of a log that is told line by line

-- `number` is that of the first line
abbrev pub texts_from : (ℕ → List ℕ → List ℕ) → ℕ → List (List ℕ) → List ℕ
texts_from of_line number [] = []
texts_from of_line number (line ∷ lines) = of_line number line ++ texts_from of_line (number + 1) lines

-- the first line has no text, and the rest has the number that its line would have; none if there is no log
abbrev pub text_by_parts : (ℕ → ℕ → List ℕ → List ℕ) → (ℕ → ℕ → List ℕ → List ℕ) → List (List ℕ) → List ℕ → LogReading → Option (List ℕ)
text_by_parts of_line of_rest lines rest (Log version entries) =
    Some (texts_from (of_line version) 2 (drop 1 lines) ++ of_rest version (length lines + 1) rest)
text_by_parts of_line of_rest lines rest OtherVersion = None
text_by_parts of_line of_rest lines rest NotALog = None

abbrev pub text_by_lines : (ℕ → ℕ → List ℕ → List ℕ) → (ℕ → ℕ → List ℕ → List ℕ) → List ℕ → Option (List ℕ)
text_by_lines of_line of_rest bytes = text_by_parts of_line of_rest (lines_of bytes) (rest_of bytes) (log_of bytes)

-- ---- `entries`

-- the line of each entry, in the order of the file; none if there is no log
abbrev pub entries_text : LogReading → Option (List ℕ)
entries_text (Log version entries) = Some (lines_of_entries entries)
entries_text OtherVersion = None
entries_text NotALog = None

abbrev pub entries_text_of : List ℕ → Option (List ℕ)
entries_text_of bytes = entries_text (log_of bytes)

-- a line that is no entry has no text
abbrev pub entry_text : Option Entry → List ℕ
entry_text None = []
entry_text (Some e) = with_newline (line_of e)

-- ---- `damage`

-- a line by its number, what it is, its length, and two outputs
abbrev pub damage_line : ℕ → List ℕ → ℕ → List ℕ → List ℕ → List ℕ
damage_line number kind len last first = decimal number ++ codes "\t" ++ kind ++ codes "\t" ++ decimal len ++ codes "\t" ++ last
    ++ codes "\t" ++ first ++ codes "\n"

abbrev pub tabs_in : List ℕ → ℕ
tabs_in bytes = count_by (λ b. b == 9) bytes

-- the bytes begin with a tab, and have four
abbrev pub has_four_tabs : List ℕ → Bool
has_four_tabs [] = false
has_four_tabs (b ∷ bytes) = b == 9 && tabs_in (b ∷ bytes) == 4

-- the first of the five fields is its last byte alone; nothing if there are fewer
abbrev pub last_five : List ℕ → List ℕ
last_five [] = []
last_five (b ∷ bytes) = if has_four_tabs bytes then b ∷ bytes else last_five bytes

-- `-` if there is no entry
abbrev pub output_of : Option Entry → List ℕ
output_of None = codes "-"
output_of (Some e) = e.name

abbrev pub named_last : ℕ → List ℕ → List ℕ
named_last version line = output_of (entry_by version (last_five line))

-- `-` for a name without a byte
abbrev pub or_dash : List ℕ → List ℕ
or_dash [] = codes "-"
or_dash (b ∷ bytes) = b ∷ bytes

-- `-` if plain Ninja takes the line for no entry
abbrev pub first_of : Option Texts → List ℕ
first_of None = codes "-"
first_of (Some t) = or_dash t.name

abbrev pub named_first : List ℕ → List ℕ
named_first line = first_of (plain_texts line)

-- a line that is an entry has no text
abbrev pub skipped_text : ℕ → ℕ → List ℕ → Option Entry → List ℕ
skipped_text version number line None = damage_line number (codes "skipped") (length line) (named_last version line) (named_first line)
skipped_text version number line (Some e) = []

abbrev pub damage_on : ℕ → ℕ → List ℕ → List ℕ
damage_on version number line = if nat_le (length line) max_line then skipped_text version number line (entry_by version line)
    else damage_line number (codes "long") (length line) (codes "-") (codes "-")

abbrev pub torn_on : ℕ → ℕ → List ℕ → List ℕ
torn_on version number [] = []
torn_on version number (b ∷ bytes) = damage_line number (codes "torn") (length (b ∷ bytes)) (named_last version (lent_rest (b ∷ bytes)))
    (named_first (lent_rest (b ∷ bytes)))

-- none if there is no log
abbrev pub damage_text_of : List ℕ → Option (List ℕ)
damage_text_of bytes = text_by_lines damage_on torn_on bytes

-- ---- what a writer holds

-- the writer got a part of the text of what was read so far
pub record IsSoFar (text_of : List ℕ → Option (List ℕ)) (known old new : Option (List ℕ)) : Type 0 where
  pub read : List ℕ
  pub given : IfSome known (λ bs. IsPrefix read bs)
  pub text : List ℕ
  pub is : text_of read ≡ Some text
  pub written : List ℕ
  pub part : IsPrefix written text
  pub appended : Appends old new written

-- the command writes while it reads: on Ok all of the text, after a refusal a part of that of what was read so far
abbrev pub Streams : (List ℕ → Option (List ℕ)) → Option (List ℕ) → Option (List ℕ) → Option (List ℕ) → Result (Unit {0}) ToolFault → Type 0
Streams text_of known old new (Ok done) = (text : List ℕ) × IsTextAsRead text_of known text × Appends old new text
Streams text_of known old new (Err fault) = IsSoFar text_of known old new

-- the answer says whether there was any text
abbrev pub StreamsSome : (List ℕ → Option (List ℕ)) → Option (List ℕ) → Option (List ℕ) → Option (List ℕ) → Result Bool ToolFault → Type 0
StreamsSome text_of known old new (Ok any) =
    (text : List ℕ) × IsTextAsRead text_of known text × Appends old new text × (any ≡ nat_lt 0 (length text))
StreamsSome text_of known old new (Err fault) = IsSoFar text_of known old new
