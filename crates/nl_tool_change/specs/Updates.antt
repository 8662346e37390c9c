-- What the commands that change a log leave: docs/PROMISES.md.
use Rattle.std.specs.Prelude.{◌≡◌, ◌⊎◌, ℕ, Bool, false, not, List, Option, Some, IsSomeAnd, option_map, Result, Ok, Err}
use Rattle.nl_fields.specs.declared.entry.Entry.{Entry}
use Rattle.nl_table.specs.History.{Update, History, Then, holds, table}
use Rattle.nl_table.specs.Log.{history_of}
use Rattle.nl_table.specs.LogText.{text_of}
use Rattle.nl_folder.specs.DiskState.{Disk}
use Rattle.nl_folder.specs.CrashImages.{IsImage}
use Rattle.nl_session.specs.declared.fault.LogFault.{LogFault}
use Rattle.nl_session.specs.declared.fault.LogState.{LogState}
use Rattle.nl_session.specs.declared.fault.LogState.TheVariants.{Open}
use Rattle.nl_session.specs.Machine.{State, MayHaveGained, all_of, durable_at, gained_state, history_opened}
use Rattle.nl_session.specs.Opened.{IsLog, opened_bytes}
use Rattle.nl_session.specs.Parts.{IsDurable}
use Rattle.nl_session.specs.Represents.{Represents}
use Rattle.nl_session.specs.States.{IsAt}
use Rattle.nl_tool_texts.specs.Files.{OfBytes}
use Rattle.nl_tool_change.specs.Files.{FileReading, Says}

abbrev pub none_dead : List ℕ → Bool
none_dead name = false

abbrev pub dead_but : List (List ℕ) → List ℕ → Bool
dead_but names name = not (holds names name)

-- it drops nothing
abbrev pub history_kept : History → History
history_kept h = history_opened none_dead h

-- the update depends on that history
abbrev pub history_updated : (History → Update) → History → History
history_updated update start = Then (history_kept start) (update (history_kept start))

-- whatever may be found, also after a crash
abbrev pub OfAllFound : (List ℕ → Type 0) → Option Disk → Type 0
OfAllFound Holds disk = IsSomeAnd disk (λ d. (bs : List ℕ) → IsImage d bs → Holds bs)

-- the history that was found, the one that an open leaves, or that and then the update
abbrev pub MayRepresent : (History → Update) → History → List ℕ → Type 0
MayRepresent update start bs = Represents bs start ⊎ Represents bs (history_kept start) ⊎ Represents bs (history_updated update start)

-- `start` is the history that the log has before the update
abbrev pub UpdateLeaves : {E : Type 0} → (History → Update) → History → Result Unit E → Option Disk → Type 0
UpdateLeaves update start (Ok done) disk = OfAllFound (λ bs. Represents bs (history_updated update start)) disk
UpdateLeaves update start (Err fault) disk = OfAllFound (MayRepresent update start) disk

-- the bytes stay so after every crash
abbrev pub IsUpdated : (List Entry → List ℕ → List ℕ) → List ℕ → Option Disk → Type 0
IsUpdated bytes found disk =
    IsSomeAnd (history_of (opened_bytes none_dead found)) (λ h. IsDurable (bytes (table h) (opened_bytes none_dead found)) disk)

-- the header line, and the line of each entry of its table, in order
abbrev pub repaired_text : List ℕ → Option (List ℕ)
repaired_text bytes = option_map (λ (h : History). text_of (table h)) (history_of bytes)

-- the bytes were a log, and the repaired text is the log, whatever crash comes
abbrev pub IsRepaired : List ℕ → Option Disk → Type 0
IsRepaired found disk = IsSomeAnd (repaired_text found) (λ text. IsDurable text disk)

abbrev pub StaysRepaired : Option Disk → Type 0
StaysRepaired disk = IsSomeAnd disk (λ d. repaired_text d.visible ≡ Some d.visible)

abbrev pub HasTable : History → List ℕ → Type 0
HasTable h bs = IsSomeAnd (history_of bs) (λ (found : History). table found ≡ table h)

-- the bytes were a log, and are opened, whatever crash comes
pub record IsOpenLeft (found : Disk) (disk : Option Disk) : Type 0 where
  pub log : IsLog found.visible
  pub left : IsDurable (opened_bytes none_dead found.visible) disk

-- the disk is as it was, or opened
abbrev pub IsUnmade : Disk → Option Disk → Type 0
IsUnmade found disk = (disk ≡ Some found) ⊎ IsOpenLeft found disk

-- a file was read, and this holds of what it says
pub record AsSaid {T : Type 0} (reading : List ℕ → FileReading T) (known : Option (List ℕ)) (Holds : List T → Type 0) : Type 0 where
  pub parts : List T
  pub said : OfBytes known (λ bytes. reading bytes ≡ Says parts)
  pub holds : Holds parts

abbrev pub GoesBy : Update → Result Unit LogFault → State → State → Type 0
GoesBy update (Ok done) s t = (t ≡ gained_state s update) ⊎ (t ≡ durable_at (Then (all_of s) update) Open)
GoesBy update (Err why) s t = (t ≡ s) ⊎ MayHaveGained s update t

-- `s` is the state from which the log came
pub record Changes (update : Update) (result : Result Unit LogFault) (s : State) (disk : Option Disk) (settled : Bool) (mode : LogState)
    (entries : List Entry) : Type 0 where
  pub next : State
  pub goes : GoesBy update result s next
  pub at : IsAt disk settled mode entries next
