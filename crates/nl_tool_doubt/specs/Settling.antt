-- What a word makes of a log by what it finds in the log's bytes and at the outputs' files: docs/PROMISES.md.
use Rattle.std.specs.Prelude.{◌≡◌, ◌⊎◌, ◌<◌, ⊤, ℕ, ℤ, Bool, true, false, List, [], length, Option, None, Some, Result, Ok, Err, IsSome, IsSomeAnd, slice_get}
use Rattle.std.specs.Global.{Vec}
use Rattle.std.specs.Result.{result_and}
use Rattle.std.specs.Io.KnownBytes.{Appends, Keeps}
use Rattle.nl_fields.specs.declared.entry.Entry.{Entry}
use Rattle.nl_table.specs.Log as log_reading
use Rattle.nl_table.specs.Log.{log_of}
use Rattle.nl_folder.specs.FolderView.{FolderView}
use Rattle.nl_versions.specs.declared.version.LogVersion.{LogVersion}
use Rattle.nl_versions.specs.LogAs.{log_as, log_for}
use Rattle.nl_versions.specs.VersionOf.{as_five}
use Rattle.nl_session.specs.Machine.{IsFirstNegative, NoneNegative}
use Rattle.nl_tool_texts.specs.declared.fault.ToolFault.{ToolFault}
use Rattle.nl_tool_texts.specs.declared.fault.ToolFault.TheVariants.{NotALog, OtherVersion, Memory, Write, Folder, NegativeTime, Elsewhere}
use Rattle.nl_tool_print.specs.Streams.{IsSoFar, damage_text_of}
use Rattle.nl_tool_change.specs.Calls.{ChangesLogFor, IsFree, keeping, touching}
use Rattle.nl_tool_change.specs.Mending.{MendsLogAs, ReadsWhole}
use Rattle.nl_tool_doubt.specs.There.{AddsFor, FitEntries, KeepsMost, LosesMost, pair_by, table_in}
use Rattle.nl_tool_doubt.specs.declared.files.FileState.{FileState}
use Rattle.nl_tool_doubt.specs.declared.settling.Due.{Due}
use Rattle.nl_tool_doubt.specs.declared.settling.Due.TheVariants.{Nothing, Keep, Touch, Mend}

-- ---- a log that is read is the one that is changed

-- of the log, by what is due
abbrev pub IsMade : Option LogVersion → Due → Result (Unit {0}) ToolFault → FolderView → FolderView → Type 0
IsMade asked Nothing result old new = (result ≡ Ok tt) × (new ≡ old)
IsMade asked (Keep set) result old new = ChangesLogFor asked (λ _. keeping set) result old new
IsMade asked (Touch times) result old new = ChangesLogFor asked (λ _. touching times.items) result old new
IsMade asked (Mend version names) result old new = IsFree old.disk version → MendsLogAs version names.items result old new

abbrev pub is_nothing : Due → Bool
is_nothing Nothing = true
is_nothing _ = false

-- the answer says whether nothing was due
pub record MakesDue (asked : Option LogVersion) (due : Due) (result : Result Bool ToolFault) (old new : FolderView) : Type 0 where
  pub made : Result (Unit {0}) ToolFault
  pub answer : result ≡ result_and made (Ok (is_nothing due))
  pub is : IsMade asked due made old new

-- what is found to be due is made, and a fault changes nothing
abbrev pub MakesFound : Option LogVersion → Result Due ToolFault → Result Bool ToolFault → FolderView → FolderView → Type 0
MakesFound asked (Ok due) result old new = MakesDue asked due result old new
MakesFound asked (Err fault) result old new = (result ≡ Err fault) × (new ≡ old)

pub record SettlesFound (Finds : Result Due ToolFault → Type 0) (asked : Option LogVersion) (result : Result Bool ToolFault)
    (old new : FolderView) : Type 0 where
  pub found : Result Due ToolFault
  pub finds : Finds found
  pub makes : MakesFound asked found result old new

-- what couldn't be read isn't looked at
abbrev pub SettlesRead : (List ℕ → Result Due ToolFault → Type 0) → Type 0 → Option LogVersion → Result (Vec ℕ) ToolFault → Result Bool ToolFault
    → FolderView → FolderView → Type 0
SettlesRead Finds Stays asked (Ok log) result old new = SettlesFound (Finds log.items) asked result old new
SettlesRead Finds Stays asked (Err fault) result old new = Stays × (result ≡ Err fault) × (new ≡ old)

-- to read the log changes nothing; what is found in the bytes that were read is made of the log that they are
pub record Settles (Finds : List ℕ → Result Due ToolFault → Type 0) (Stays : Type 0) (asked : Option LogVersion) (result : Result Bool ToolFault)
    (old new : FolderView) : Type 0 where
  pub read : Result (Vec ℕ) ToolFault
  pub between : FolderView
  pub reads : ReadsWhole old between read
  pub settles : SettlesRead Finds Stays asked read result between new

-- ---- a log that is damaged

-- a part of what damage there is
abbrev pub TellsPart : List ℕ → Option (List ℕ) → Option (List ℕ) → Type 0
TellsPart bytes from to = IsSoFar (λ bs. damage_text_of (as_five bs)) (Some bytes) from to

-- the log isn't one, or isn't of the version that is asked for, or else of one that there is; or memory was refused
abbrev pub IsUnloaded : Option LogVersion → List ℕ → ToolFault → Type 0
IsUnloaded asked bytes NotALog = log_for asked bytes ≡ log_reading.NotALog
IsUnloaded asked bytes OtherVersion = log_for asked bytes ≡ log_reading.OtherVersion
IsUnloaded asked bytes Memory = ⊤
IsUnloaded asked bytes _ = ⊥

-- the log isn't loaded; or memory was refused while its damage was written, or a write was
abbrev pub IsUntold : Option LogVersion → List ℕ → Option (List ℕ) → Option (List ℕ) → ToolFault → Type 0
IsUntold asked bytes from to Write = TellsPart bytes from to
IsUntold asked bytes from to Memory = (to ≡ from) ⊎ TellsPart bytes from to
IsUntold asked bytes from to fault = (to ≡ from) × (IsUnloaded asked bytes fault ⊎ IsUnloaded None bytes fault)

-- the log is one of the version, if that is asked for
abbrev pub IsAsked : Option LogVersion → List ℕ → Type 0
IsAsked None bytes = ⊤
IsAsked (Some version) bytes = IsSome (table_in (log_as version bytes))

-- the log has damage, and all of it was written
pub record TellsDamage (asked : Option LogVersion) (bytes : List ℕ) (from to : Option (List ℕ)) : Type 0 where
  pub version : IsAsked asked bytes
  pub text : List ℕ
  pub is : damage_text_of (as_five bytes) ≡ Some text
  pub some : 0 < length text
  pub wrote : Appends from to text

-- the log has this table and no damage, and nothing was written
pub record IsWholeLog (asked : Option LogVersion) (bytes : List ℕ) (table : List Entry) (from to : Option (List ℕ)) : Type 0 where
  pub version : IsAsked asked bytes
  pub reads : table_in (log_of (as_five bytes)) ≡ Some table
  pub whole : damage_text_of (as_five bytes) ≡ Some []
  pub wrote : Keeps from to

-- ---- `prune` and `retime`

abbrev pub KeepsFound : Option (List ℕ → FileState) → List (List ℕ) → List Entry → Due → Type 0
KeepsFound states targets table (Keep set) = KeepsMost table states targets set
KeepsFound states targets table _ = ⊥

-- the targets are kept, and each output whose file isn't missing; none go if that is more than stay
abbrev pub FindsKept : Option LogVersion → List (List ℕ) → Option (List ℕ → FileState) → Option (List ℕ) → Option (List ℕ) → List ℕ
    → Result Due ToolFault → Type 0
FindsKept asked targets states from to bytes (Ok Nothing) = TellsDamage asked bytes from to
FindsKept asked targets states from to bytes (Ok due) = (table : List Entry) × IsWholeLog asked bytes table from to × KeepsFound states targets table due
FindsKept asked targets states from to bytes (Err Elsewhere) =
    (table : List Entry) × IsWholeLog asked bytes table from to × ((set : List (List ℕ)) × LosesMost table states targets set)
FindsKept asked targets states from to bytes (Err fault) = IsUntold asked bytes from to fault

abbrev pub AreTimes : Option (List ℕ → FileState) → List Entry → List (List ℕ × ℤ) → Type 0
AreTimes states table times = AddsFor pair_by table states [] times

abbrev pub TimesFound : Option (List ℕ → FileState) → List Entry → Due → Type 0
TimesFound states table (Touch times) = AreTimes states table times.items × NoneNegative times.items × FitEntries times.items
TimesFound states table _ = ⊥

-- the first of the times that is negative, and its output
pub record IsEarly (states : Option (List ℕ → FileState)) (table : List Entry) (place : ℕ) (name : List ℕ) : Type 0 where
  pub times : List (List ℕ × ℤ)
  pub are : AreTimes states table times
  pub first : IsFirstNegative times place
  pub named : IsSomeAnd (slice_get times place) (λ pair. pair.0 ≡ name)

-- each output gets the time of its file, if it has one and its entry is no intent, and if none is negative
abbrev pub FindsTimes : Option LogVersion → Option (List ℕ → FileState) → Option (List ℕ) → Option (List ℕ) → List ℕ → List ℕ
    → Result Due ToolFault → Type 0
FindsTimes asked states from to early bytes (Ok Nothing) = TellsDamage asked bytes from to
FindsTimes asked states from to early bytes (Ok due) = (table : List Entry) × IsWholeLog asked bytes table from to × TimesFound states table due
FindsTimes asked states from to early bytes (Err (NegativeTime place)) =
    (table : List Entry) × IsWholeLog asked bytes table from to × IsEarly states table place early
FindsTimes asked states from to early bytes (Err fault) = IsUntold asked bytes from to fault

-- ---- which faults there may be

abbrev pub IsUntoldFault : ToolFault → Type 0
IsUntoldFault NotALog = ⊤
IsUntoldFault OtherVersion = ⊤
IsUntoldFault Memory = ⊤
IsUntoldFault Write = ⊤
IsUntoldFault _ = ⊥

abbrev pub IsPruned : ToolFault → Type 0
IsPruned Folder = ⊤
IsPruned Elsewhere = ⊤
IsPruned fault = IsUntoldFault fault

abbrev pub IsRetimed : ToolFault → Type 0
IsRetimed Folder = ⊤
IsRetimed (NegativeTime place) = ⊤
IsRetimed fault = IsUntoldFault fault
