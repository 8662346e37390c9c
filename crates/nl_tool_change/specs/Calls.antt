-- What each call that changes a log makes of what contracts see of its folder, by the answer: docs/PROMISES.md.
use Rattle.std.specs.Prelude.{◌≡◌, ◌≢◌, ◌≤◌, ◌⊎◌, ◌++◌, ℕ, ℤ, Bool, true, false, List, [], Option, None, Some, IsSomeAnd, IsTrue, Result, IsErr, IsErrOf, IfErr, IfOk}
use Rattle.std.specs.Prelude.{OnErr, OnOk}
use Rattle.std.specs.Result.{IsErrAnd}
use Rattle.nl_fields.specs.declared.entry.Entry.{Entry}
use Rattle.nl_fields.specs.EntryLine.{line_of}
use Rattle.nl_lines.specs.Source.{FailedBetween}
use Rattle.nl_lines.specs.Split.{with_newline}
use Rattle.nl_versions.specs.declared.version.LogVersion.{LogVersion}
use Rattle.nl_versions.specs.declared.version.LogVersion.TheVariants.{Five}
use Rattle.nl_table.specs.History.{Enter, History, Touch, Update}
use Rattle.nl_table.specs.Log.{LogReading, log_of}
use Rattle.nl_table.specs.Log as log_reading
use Rattle.nl_table.specs.LogText.{text_of}
use Rattle.nl_table.specs.LogUser.{forget_dead}
use Rattle.nl_table.specs.Table.{touched_table}
use Rattle.nl_folder.specs.DiskState.{Disk}
use Rattle.nl_folder.specs.FolderView.{FolderView, SameState, folder_view}
use Rattle.nl_versions.specs.VersionFolder.{seen_as_version}
use Rattle.nl_folder.specs.declared.folder.Folder.{Ghosts}
use Rattle.nl_session.specs.declared.fault.LogFault.{LogFault}
use Rattle.nl_session.specs.declared.fault.LogFault.TheVariants as refusal
use Rattle.nl_session.specs.declared.fault.LogState.{LogState}
use Rattle.nl_session.specs.Calls as log
use Rattle.nl_session.specs.Machine.{IsFirstNegative, State, all_of}
use Rattle.nl_session.specs.Opened.{IsLog, survivors}
use Rattle.nl_session.specs.Runs.{BeginsAt}
use Rattle.nl_session.specs.LogView.{StandsAt, LogView}
use Rattle.nl_versions.specs.VersionOf.{version_of}
use Rattle.nl_versions.specs.LogAs.{is_barred, log_as}
use Rattle.nl_versions.specs.Version.{hash_as}
use Rattle.nl_tool_texts.specs.Files.{OfBytes}
use Rattle.nl_tool_texts.specs.declared.fault.ToolFault.{ToolFault}
use Rattle.nl_tool_texts.specs.declared.fault.ToolFault.TheVariants.{BadLine, Folder, NegativeTime, NotALog, OtherVersion, Read}
use Rattle.nl_tool_change.specs.Faults.{IsChangeFault, IsChangeRefusal, IsFileFault, IsNoLogFault, IsRecordFault}
use Rattle.nl_tool_change.specs.Files.{BadAt, FileReading}
use Rattle.nl_tool_change.specs.Updates.{AsSaid, Changes, HasTable, IsOpenLeft, IsRepaired, IsUnmade, IsUpdated, UpdateLeaves, OfAllFound}
use Rattle.nl_tool_change.specs.Updates.{StaysRepaired, dead_but, none_dead}

-- ---- what is asked

-- the update of a history, what is made of the bytes of a log with this table, and the mtimes that are set
pub record Meaning : Type 0 where
  pub update : History → Update
  pub bytes : List Entry → List ℕ → List ℕ
  pub times : List (List ℕ × ℤ)

abbrev pub adding : Entry → Meaning
adding e = record { update = λ h. Enter e; bytes = λ es bs. bs ++ with_newline (line_of e); times = [] }

-- the log is then the text of the table without these outputs
abbrev pub dropping : (List ℕ → Bool) → Meaning
dropping dead = record { update = forget_dead dead; bytes = λ es bs. text_of (survivors dead es); times = [] }

abbrev pub keeping : List (List ℕ) → Meaning
keeping names = dropping (dead_but names)

abbrev pub keeping_all : Meaning
keeping_all = dropping none_dead

abbrev pub hashed : Entry → List ℕ → LogVersion → Entry
hashed e command version = record e { hash = hash_as version command }

-- the log is then the text of the table with these mtimes
abbrev pub touching : List (List ℕ × ℤ) → Meaning
touching pairs = record { update = λ h. Touch pairs; bytes = λ es bs. text_of (touched_table pairs es); times = pairs }

-- the first negative mtime is at fault, or the change fails as adding an entry does
abbrev pub IsFaultBy : Meaning → ToolFault → Type 0
IsFaultBy m (NegativeTime index) = IsFirstNegative m.times index
IsFaultBy m fault = IsRecordFault fault

-- ---- an open log

pub record Makes (m : Meaning) (result : Result (Unit {0}) LogFault) (old new : LogView) : Type 0 where
  pub stays_open : OnOk result (new.mode ≡ LogState.Open)
  pub contents : (d : Disk) → old.folder.disk ≡ Some d → OnOk result (IsSomeAnd new.folder.disk (λ e. e.visible ≡ m.bytes old.table d.visible))
  pub refusals : IfErr result IsChangeRefusal
  pub negative_time : (index : ℕ) → IsErrOf result (refusal.NegativeTime index) → IsFirstNegative m.times index
  pub accepts : OnOk result ((index : ℕ) → ¬ IsFirstNegative m.times index)
  pub scratch : OnOk result ((new.folder.has_scratch ≡ old.folder.has_scratch) ⊎ (new.folder.has_scratch ≡ false))
  pub unchanged : ¬ IsErrOf result refusal.Fault → OnErr result (new.folder.disk ≡ old.folder.disk)
  pub count : log.IsCounted result old new
  pub goes : (s : State) → StandsAt old s → Changes (m.update (all_of s)) result s new.folder.disk new.folder.is_settled new.mode new.table

-- ---- the log of a folder

-- in an honest folder the change is made, or it isn't, or after a fault a crash decides; if an mtime is negative the log was opened; and
-- bytes that are no log stay as they are, whatever the answer
pub record ChangesDisk (m : Meaning) (result : Result (Unit {0}) ToolFault) (old new : Option Disk) : Type 0 where
  pub leaves : (start : History) → BeginsAt start old → UpdateLeaves m.update start result new
  pub contents : (d : Disk) → old ≡ Some d → OnOk result (IsUpdated m.bytes d.visible new)
  pub unmade : (d : Disk) → old ≡ Some d → ¬ IsErrOf result Folder → OnErr result (IsUnmade d new)
  pub opened : (d : Disk) (index : ℕ) → old ≡ Some d → IsErrOf result (NegativeTime index) → IsOpenLeft d new
  pub negative_time : (index : ℕ) → IsErrOf result (NegativeTime index) → IsFirstNegative m.times index
  pub accepts : OnOk result ((index : ℕ) → ¬ IsFirstNegative m.times index)
  pub untouched : (d : Disk) → old ≡ Some d → ¬ IsLog d.visible → new ≡ old

pub record RefusesBytes (reading : List ℕ → LogReading) (result : Result (Unit {0}) ToolFault) (old : Option Disk) : Type 0 where
  pub not_a_log : (d : Disk) → old ≡ Some d → IsErrOf result NotALog → reading d.visible ≡ log_reading.NotALog
  pub other_version : (d : Disk) → old ≡ Some d → IsErrOf result OtherVersion → reading d.visible ≡ log_reading.OtherVersion

-- a fault has a failed call as its cause, and no other answer changes the count
pub record IsCounted (result : Result (Unit {0}) ToolFault) (before after : ℕ) : Type 0 where
  pub cause : IsErrOf result Folder → FailedBetween before after
  pub steady : ¬ IsErrOf result Folder → after ≡ before

-- after Ok the change is durable, no cut or rename awaits a sync, and there is no scratch that wasn't there before
pub record ChangesLog (m : Meaning) (result : Result (Unit {0}) ToolFault) (old new : FolderView) : Type 0 where
  pub disk : ChangesDisk m result old.disk new.disk
  pub settled : OnOk result (IsTrue new.is_settled)
  pub scratch : OnOk result ((new.has_scratch ≡ old.has_scratch) ⊎ (new.has_scratch ≡ false))
  pub bytes : RefusesBytes log_of result old.disk
  pub unchanged : IsErrAnd result IsNoLogFault → SameState old new
  pub count : IsCounted result old.failures new.failures
  pub refusals : IfErr result IsChangeFault

-- bytes that are barred, those of a log of version 4, are refused, and left as they are on every exit
pub record ChangesSeen (version : LogVersion) (m : Meaning) (result : Result (Unit {0}) ToolFault) (old new : FolderView) : Type 0 where
  pub disk : ChangesDisk m result (seen_as_version version old.disk) (seen_as_version version new.disk)
  pub settled : OnOk result (IsTrue new.is_settled)
  pub barred : (d : Disk) → old.disk ≡ Some d → IsTrue (is_barred version d.visible) → IsErr result × (new.disk ≡ old.disk)
  pub bytes : RefusesBytes (log_as version) result old.disk
  pub unchanged : IsErrAnd result IsNoLogFault → new.disk ≡ old.disk
  pub count : old.failures ≡ 0 → IsCounted result old.failures new.failures
  pub refusals : IfErr result IsChangeFault

-- in version 5 the change is that of a log as it stands, no more and no less
pub record ChangesLogAs (version : LogVersion) (m : Meaning) (result : Result (Unit {0}) ToolFault) (old new : FolderView) : Type 0 where
  pub seen : ChangesSeen version m result old new
  pub five : version ≡ Five → ChangesLog m result old new

-- ---- which version

-- the version is the one that is asked for, or else the one that the bytes of an honest folder name
abbrev pub IsVersionFor : Option LogVersion → Option Disk → LogVersion → Type 0
IsVersionFor (Some asked) disk version = version ≡ asked
IsVersionFor None disk version = (d : Disk) → disk ≡ Some d → version ≡ version_of d.visible

-- the log may be taken for one of the version
abbrev pub IsFree : Option Disk → LogVersion → Type 0
IsFree disk version = (d : Disk) → disk ≡ Some d → is_barred version d.visible ≡ false

-- the look at the folder failed; or 6 or 7 is asked for, and the log is of version 4
abbrev pub IsReason : Option LogVersion → Option Disk → ℕ → ℕ → LogFault → Type 0
IsReason asked disk before after refusal.Fault = FailedBetween before after
IsReason asked disk before after refusal.OtherVersion = (after ≡ before)
    × IsSomeAnd asked (λ version. (version ≢ Five) × ((d : Disk) → disk ≡ Some d → is_barred version d.visible ≡ true))
IsReason asked disk before after _ = ⊥

-- the folder stays as it is
pub record Looks (asked : Option LogVersion) (old new : FolderView) (result : Result LogVersion LogFault) : Type 0 where
  pub same : SameState old new
  pub rises : old.failures ≤ new.failures
  pub steady : OnOk result (new.failures ≡ old.failures)
  pub chosen : IfOk result (IsVersionFor asked old.disk)
  pub free : IfOk result (IsFree old.disk)
  pub refusals : IfErr result (IsReason asked old.disk old.failures new.failures)

-- the log is one of the version that is asked for, or else of the one that it has
pub record ChangesLogFor (asked : Option LogVersion) (m : LogVersion → Meaning) (result : Result (Unit {0}) ToolFault)
    (old new : FolderView) : Type 0 where
  pub version : LogVersion
  pub chosen : IsVersionFor asked old.disk version
  pub call : ChangesLogAs version (m version) result old new

-- ---- what stands about it

-- the file can't be read, or has a bad line; the folder is as it came
pub record IsUnread {T F : Type 0} (reading : List ℕ → FileReading T) (known : Option (List ℕ)) (result : Result (Unit {0}) ToolFault)
    (old new : F) : Type 0 where
  pub refused : IsErrAnd result IsFileFault
  pub bad_line : (number : ℕ) → IsErrOf result (BadLine number) → OfBytes known (λ bytes. reading bytes ≡ BadAt number)
  pub stays : new ≡ old

-- nothing else was done, or this holds of what the file says
abbrev pub ReadsFirst : {T F : Type 0} → (List ℕ → FileReading T) → Option (List ℕ) → (List T → Type 0) → Result (Unit {0}) ToolFault
    → F → F → Type 0
ReadsFirst reading known Holds result old new = IsUnread reading known result old new ⊎ AsSaid reading known Holds

abbrev pub ChangesAsRead : {T F : Type 0} → Ghosts F → (List ℕ → FileReading T) → (List T → Meaning) → Option (List ℕ)
    → Result (Unit {0}) ToolFault → F → F → Type 0
ChangesAsRead g reading meaning known result old new =
    ReadsFirst reading known (λ parts. ChangesLog (meaning parts) result (folder_view g old) (folder_view g new)) result old new

-- nothing was done, or the answer is of what the file says
pub record SaysAsRead {T : Type 0} (reading : List ℕ → FileReading T) (meaning : List T → Meaning) (known : Option (List ℕ))
    (result : Result (Unit {0}) ToolFault) (old new : FolderView) : Type 0 where
  pub leaves : (start : History) → BeginsAt start old.disk
      → (IsErr result × (new ≡ old)) ⊎ AsSaid reading known (λ parts. UpdateLeaves (meaning parts).update start result new.disk)
  pub contents : (d : Disk) → old.disk ≡ Some d
      → OnOk result (AsSaid reading known (λ parts. IsUpdated (meaning parts).bytes d.visible new.disk))
  pub settled : OnOk result (IsTrue new.is_settled)
  pub scratch : OnOk result ((new.has_scratch ≡ old.has_scratch) ⊎ (new.has_scratch ≡ false))
  pub accepts : OnOk result (AsSaid reading known (λ parts. (index : ℕ) → ¬ IsFirstNegative (meaning parts).times index))
  pub said : (IsErr result × (new ≡ old)) ⊎ AsSaid reading known (λ parts. Unit {0})
  pub read : IsErrOf result Read → new ≡ old
  pub bad_line : (number : ℕ) → IsErrOf result (BadLine number)
      → OfBytes known (λ bytes. reading bytes ≡ BadAt number) × (new ≡ old)
  pub negative_time : (index : ℕ) → IsErrOf result (NegativeTime index)
      → AsSaid reading known (λ parts. IsFirstNegative (meaning parts).times index)
  pub opened : (d : Disk) (index : ℕ) → old.disk ≡ Some d → IsErrOf result (NegativeTime index) → IsOpenLeft d new.disk
  pub unmade : (d : Disk) → old.disk ≡ Some d → ¬ IsErrOf result Folder → OnErr result (IsUnmade d new.disk)
  pub untouched : (d : Disk) → old.disk ≡ Some d → ¬ IsLog d.visible → new.disk ≡ old.disk
  pub bytes : RefusesBytes log_of result old.disk
  pub unchanged : IsErrAnd result IsNoLogFault → SameState old new
  pub count : IsCounted result old.failures new.failures

-- whatever is found has the table that was found before; on Ok the log is its text, which a repair leaves as it is
pub record Repairs (result : Result (Unit {0}) ToolFault) (old new : Option Disk) : Type 0 where
  pub keeps : (start : History) → BeginsAt start old → OfAllFound (HasTable start) new
  pub contents : (d : Disk) → old ≡ Some d → OnOk result (IsRepaired d.visible new)
  pub again : (d : Disk) → old ≡ Some d → OnOk result (StaysRepaired new)

-- the log is one of the version that is asked for, or else of the one that it has
pub record RepairsFor (asked : Option LogVersion) (result : Result (Unit {0}) ToolFault) (old new : Option Disk) : Type 0 where
  pub version : LogVersion
  pub chosen : IsVersionFor asked old version
  pub repairs : Repairs result (seen_as_version version old) (seen_as_version version new)
