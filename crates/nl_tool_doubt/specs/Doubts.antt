-- The outputs of a log that can't be trusted, and the text of `doubt` (docs/CLI.md).
use Rattle.std.specs.Prelude.{◌≡◌, ◌++◌, ◌∷◌, [], ◌/◌, ℕ, Bool, false, true, not, is_some, nat_lt, List, map, length, count_by, codes, Option, None, Some, IfSome, if◌then◌else◌}
use Rattle.std.specs.List.{All, flat_map}
use Rattle.nl_fields.specs.declared.entry.Entry.{Entry}
use Rattle.nl_table.specs.History.{logged, table}
use Rattle.nl_table.specs.Log.{Log, log_of}
use Rattle.nl_table.specs.Table.{entry_named}
use Rattle.nl_versions.specs.VersionOf.{as_five, lines_version}
use Rattle.nl_distrust.specs.Distrusted.{distrusted_in}
use Rattle.nl_versions.specs.Stamps.{stamps_of}
use Rattle.nl_versions.specs.declared.entries.Stamps.{Stamps}
use Rattle.nl_tool_doubt.specs.Judging.{doubt_of, is_present, is_written, was_moved}
use Rattle.nl_tool_doubt.specs.Moments.{lines_that_tell}
use Rattle.nl_tool_doubt.specs.declared.files.FileState.{FileState}
use Rattle.nl_tool_doubt.specs.declared.files.Looked.{Looked}
use Rattle.nl_tool_doubt.specs.declared.judge.Doubt.{Doubt}
use Rattle.nl_tool_doubt.specs.declared.judge.Doubt.TheVariants.{Damaged, Newer, Unsure, Gone, Folder, NoTime, Untold}
use Rattle.nl_tool_doubt.specs.declared.doubts.Doubted.{Doubted}
use Rattle.nl_tool_doubt.specs.declared.doubts.Doubts.{Doubts}

-- ---- whether change times count

abbrev pub is_file : Looked → Bool
is_file l = is_written l.file

abbrev pub is_moved : Looked → Bool
is_moved l = was_moved l.file

abbrev pub is_there : Looked → Bool
is_there l = is_present l.file

-- more than half of the files are such: the tree was copied, restored, or given to another user
abbrev pub is_copied : List Looked → Bool
is_copied looked = nat_lt (count_by is_file looked / 2) (count_by is_moved looked)

-- ---- the outputs that can't be trusted

-- damage comes before what the file says
abbrev pub why : List Entry → Option Doubt → Entry → Option Doubt
why damaged doubt e = if is_some (entry_named damaged e.name) then Some Damaged else doubt

abbrev pub doubted : Entry → Option Doubt → List Doubted
doubted e None = []
doubted e (Some doubt) = record { why = doubt; entry = e } ∷ []

abbrev pub named_by : List Entry → Bool → Stamps → List Entry → Looked → List Doubted
named_by damaged counts stamps ls l = doubted l.entry (why damaged (doubt_of counts stamps ls l.entry l.file) l.entry)

abbrev pub named : List Entry → Stamps → List Entry → List Looked → List Doubted
named damaged stamps ls looked = flat_map (named_by damaged (not (is_copied looked)) stamps ls) looked

-- the file is in the state that is known, if it is
abbrev pub IsSaidOf : Option (List ℕ → FileState) → Looked → Type 0
IsSaidOf states l = IfSome states (λ state_of. l.file ≡ state_of l.entry.name)

-- the file of the output of each of these entries was looked at, in order
pub record AreLooked (entries : List Entry) (states : Option (List ℕ → FileState)) (looked : List Looked) : Type 0 where
  pub are : map (λ (l : Looked). l.entry) looked ≡ entries
  pub said : All (IsSaidOf states) looked

-- the doubts on the outputs of these last entries, by what was said of their files, by all lines, and by the damaged ones among them
pub record AreDoubts (damaged : List Entry) (stamps : Stamps) (lines entries : List Entry) (states : Option (List ℕ → FileState))
    (doubts : Doubts) : Type 0 where
  pub looked : List Looked
  pub looks : AreLooked entries states looked
  pub named : doubts.named.items ≡ named damaged stamps (lines_that_tell stamps lines) looked
  pub outputs : doubts.outputs ≡ length looked
  pub there : doubts.there ≡ count_by is_there looked
  pub copied : doubts.copied ≡ is_copied looked

pub record IsDoubts (damaged : List Entry → List Entry) (log : List ℕ) (states : Option (List ℕ → FileState)) (doubts : Doubts) : Type 0 where
  pub version : ℕ
  pub lines : List Entry
  pub reads : log_of (as_five log) ≡ Log version lines
  pub are : AreDoubts (damaged (table (logged version lines))) (stamps_of log) lines (table (logged version lines)) states doubts

-- `doubt` takes no output for damaged, and `mend` those that a damaged or torn line of the log may be about
abbrev pub damaged_by : Bool → List ℕ → List Entry → List Entry
damaged_by false log es = []
damaged_by true log es = distrusted_in (lines_version log) log es

-- ---- the text

abbrev pub word_of : Doubt → List ℕ
word_of Damaged = codes "damaged"
word_of Newer = codes "newer"
word_of Unsure = codes "unsure"
word_of Gone = codes "missing"
word_of Folder = codes "directory"
word_of NoTime = codes "no-time"
word_of Untold = codes "unknown"

abbrev pub doubt_line : Doubted → List ℕ
doubt_line d = word_of d.why ++ codes "\t" ++ d.entry.name ++ codes "\n"
