-- What the commands print (docs/CLI.md), and what a writer holds after them.
use Rattle.std.specs.Prelude.{◌≡◌, ◌++◌, ◌∷◌, [], Bool, List, ℕ, Option, None, Some, IfSome, codes, decimal, if◌then◌else◌, length, map}
use Rattle.nl_fields.specs.CommandHash.{IsHash}
use Rattle.nl_fields.specs.Digits.{digits_of}
use Rattle.nl_fields.specs.EntryLine.{line_of}
use Rattle.nl_lines.specs.Split.{joined, torn_len}
use Rattle.nl_table.specs.Due.{is_due}
use Rattle.nl_table.specs.History.{logged, table}
use Rattle.nl_table.specs.Log.{LogReading, Log, NotALog, OtherVersion, log_of, skipped_count}

-- a hash in its one spelling, and a newline
pub record IsHashText (command text : List ℕ) : Type 0 where
  pub hash : ℕ
  pub is_hash : IsHash command hash
  pub is : text ≡ digits_of 16 hash ++ 10 ∷ []

-- the line of each entry of the table, in order; none if there is no log
abbrev pub show_text : LogReading → Option (List ℕ)
show_text (Log version entries) = Some (joined (map line_of (table (logged version entries))))
show_text OtherVersion = None
show_text NotALog = None

abbrev pub show_text_of : List ℕ → Option (List ℕ)
show_text_of bytes = show_text (log_of bytes)

abbrev pub yes_or_no : Bool → List ℕ
yes_or_no b = if b then codes "yes" else codes "no"

-- six lines, each a key and a value
abbrev pub report_lines : ℕ → ℕ → ℕ → ℕ → ℕ → List ℕ → List ℕ
report_lines version total unique skipped torn due = codes "version " ++ decimal version ++ codes "\ntotal " ++ decimal total
    ++ codes "\nunique " ++ decimal unique ++ codes "\nskipped " ++ decimal skipped ++ codes "\ntorn " ++ decimal torn
    ++ codes "\ndue " ++ due ++ codes "\n"

abbrev pub report : ℕ → ℕ → ℕ → ℕ → ℕ → List ℕ
report version total unique skipped torn = report_lines version total unique skipped torn (yes_or_no (is_due version total unique))

-- none if there is no log
abbrev pub checked_of : ℕ → ℕ → LogReading → Option (List ℕ)
checked_of skipped torn (Log version entries) =
    Some (report version (length entries) (length (table (logged version entries))) skipped torn)
checked_of skipped torn OtherVersion = None
checked_of skipped torn NotALog = None

abbrev pub check_text_of : List ℕ → Option (List ℕ)
check_text_of bytes = checked_of (skipped_count bytes) (torn_len bytes) (log_of bytes)

-- the text is that of the bytes that a reader gave: the known ones where they are known
pub record IsTextAsRead (text_of : List ℕ → Option (List ℕ)) (known : Option (List ℕ)) (text : List ℕ) : Type 0 where
  pub bytes : List ℕ
  pub given : IfSome known (λ bs. bs ≡ bytes)
  pub is : text_of bytes ≡ Some text
