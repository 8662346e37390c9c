-- What each word that changes a log does: what it reads and looks at, what becomes of LOG, and what it prints (docs/CLI.md).
use Rattle.std.specs.Prelude.{◌≡◌, ◌⊎◌, ◌<◌, ◌≤◌, ◌/◌, ◌++◌, ⊤, ℕ, Bool, false, List, [], Option, None, Some, Result, Ok, Err, IsSomeAnd, codes, decimal}
use Rattle.std.specs.Borrow.{Bor}
use Rattle.std.specs.Io.KnownBytes.{Appends, Keeps}
use Rattle.std.specs.IoError.{error_kind}
use Rattle.std.specs.Result.{IsErrAnd}
use Rattle.std.specs.declared.io.ErrorKind.TheVariants.{NotFound}
use Rattle.nl_fields.specs.declared.entry.Entry.{Entry}
use Rattle.nl_folder.specs.FolderView.{FolderView}
use Rattle.nl_versions.specs.declared.version.LogVersion.{LogVersion}
use Rattle.nl_os.specs.declared.failed_call.Failure.{Failure}
use Rattle.nl_os.specs.declared.failed_call.FileRole.TheVariants as file
use Rattle.nl_tool_change.specs.Applying.{IsApplied}
use Rattle.nl_tool_change.specs.Calls.{ChangesLogFor, Meaning, ReadsFirst, RepairsFor, adding, hashed, keeping, keeping_all, touching}
use Rattle.nl_tool_change.specs.Faults.{IsFileFault}
use Rattle.nl_tool_change.specs.Files.{FileReading, IfBadLine, Says, keep_of, manifest_of, times_of}
use Rattle.nl_tool_change.specs.Mending.{MendsLogFor}
use Rattle.nl_tool_change.specs.RecordWords.{IsEntryOf, IsWordFault}
use Rattle.nl_tool_change.specs.declared.line_fault.WrongNumber.{WrongNumber}
use Rattle.nl_tool_doubt.specs.Mending.{MendsFolder}
use Rattle.nl_tool_doubt.specs.Settling.{FindsKept, FindsTimes, Settles}
use Rattle.nl_tool_doubt.specs.declared.mending.How.{How}
use Rattle.nl_tool_doubt.specs.declared.mending.Mended.{Mended}
use Rattle.nl_tool_texts.specs.Files.{OfBytes}
use Rattle.nl_tool_texts.specs.declared.fault.ToolFault.{ToolFault}
use Rattle.nl_tool_texts.specs.declared.fault.ToolFault.TheVariants.{Read, Memory, Folder}
use Rattle.nl_tool_words.specs.declared.words.Choices.{Choices}
use Rattle.nl_tool_words.specs.declared.words.NewEntry.{NewEntry}
use Rattle.nl_tool.specs.Ending.{verdict_of}
use Rattle.nl_tool.specs.World.{World, GivesText, MayMiss, path_below, said_line, states_from}
use Rattle.nl_tool.specs.declared.program.Verdict.{Verdict}
use Rattle.nl_tool.specs.declared.program.Verdict.TheVariants.{Done}

-- a file couldn't be opened, or memory was refused
abbrev pub IsUnopened : ToolFault → Type 0
IsUnopened Read = ⊤
IsUnopened Memory = ⊤
IsUnopened _ = ⊥

-- nothing was asked of a log, and one of these is why
pub record Unasked {A : Type 0} (Causes : ToolFault → Type 0) (result : Result A ToolFault) (old new : Option FolderView) : Type 0 where
  pub why : IsErrAnd result Causes
  pub stays : new ≡ old

-- the folder of the log at this path was asked, as it was found, and left so
abbrev pub AsksLog : World → Bor (List ℕ) → (FolderView → FolderView → Type 0) → Option FolderView → Type 0
AsksLog w log Holds new = IsSomeAnd new (Holds (w.found log.now))

-- ---- `record`

-- the words aren't those of an entry, or memory was refused
abbrev pub IsNoRecord : NewEntry → Option WrongNumber → ToolFault → Type 0
IsNoRecord given told fault =
    (fault ≡ Memory) ⊎ IsWordFault given.start.now given.end.now given.mtime.now given.name.now told fault

-- the entry is the one that the words give, with the command's hash in the log's version
pub record Records (asked : Option LogVersion) (given : NewEntry) (result : Result (Unit {0}) ToolFault) (found left : FolderView) : Type 0 where
  pub entry : Entry
  pub is : IsEntryOf given.start.now given.end.now given.mtime.now given.name.now entry
  pub call : ChangesLogFor asked (λ version. adding (hashed entry given.command.now version)) result found left

abbrev pub RecordsAt : World → Option LogVersion → NewEntry → Option WrongNumber → Result (Unit {0}) ToolFault → Option FolderView
    → Option FolderView → Type 0
RecordsAt w asked given told result old new =
    Unasked (IsNoRecord given told) result old new ⊎ AsksLog w given.log (Records asked given result) new

-- ---- `recompact`, `restat`

-- the file is read first, and LOG changed by what it says

pub record ChangesBy {T : Type 0} (w : World) (reading : List ℕ → FileReading T) (meaning : List T → Meaning) (asked : Option LogVersion)
    (path : Bor (List ℕ)) (result : Result (Unit {0}) ToolFault) (found left : FolderView) : Type 0 where
  pub known : Option (List ℕ)
  pub gives : GivesText w false (Some path) known
  pub call : ReadsFirst reading known (λ parts. ChangesLogFor asked (λ _. meaning parts) result found left) result found left

abbrev pub RecompactsAt : World → Option LogVersion → Bor (List ℕ) → Bor (List ℕ) → Result (Unit {0}) ToolFault → Option FolderView
    → Option FolderView → Type 0
RecompactsAt w asked log keep result old new = Unasked IsUnopened result old new
    ⊎ AsksLog w log (ChangesBy w keep_of keeping asked keep result) new

abbrev pub RestatsAt : World → Option LogVersion → Bor (List ℕ) → Bor (List ℕ) → Result (Unit {0}) ToolFault → Option FolderView
    → Option FolderView → Type 0
RestatsAt w asked log times result old new = Unasked IsUnopened result old new
    ⊎ AsksLog w log (ChangesBy w times_of touching asked times result) new

-- ---- `apply`

-- the lines are those of a script, or of standard input
pub record Applies (w : World) (asked : Option LogVersion) (script : Option (Bor (List ℕ))) (from to : Option (List ℕ))
    (result : Result (Unit {0}) ToolFault) (found left : FolderView) : Type 0 where
  pub known : Option (List ℕ)
  pub gives : GivesText w false script known
  pub call : IsApplied asked known found left from to result

abbrev pub AppliesAt : World → Option LogVersion → Bor (List ℕ) → Option (Bor (List ℕ)) → Option (List ℕ) → Option (List ℕ)
    → Result (Unit {0}) ToolFault → Option FolderView → Option FolderView → Type 0
AppliesAt w asked log script from to result old new =
    Unasked IsUnopened result old new ⊎ AsksLog w log (Applies w asked script from to result) new

-- ---- the words that look and change: LOG is read, files are looked at, and LOG is changed, over one state of its folder

-- the last failure is that the log is missing
abbrev pub IsNoLog : Failure → Type 0
IsNoLog failure = (failure.file ≡ file.Log) × (error_kind failure.error ≡ NotFound)

-- a log that couldn't be opened because it is missing wasn't read
abbrev pub IsAnswerOf : {A : Type 0} → Option Failure → Result A ToolFault → Result A ToolFault → Type 0
IsAnswerOf last answer result = (result ≡ answer) ⊎ ((answer ≡ Err Folder) × (result ≡ Err Read) × IsSomeAnd last IsNoLog)

-- `prune` and `retime` tell damage
abbrev pub found_as : Result Bool ToolFault → Result Verdict ToolFault
found_as (Ok found) = Ok (verdict_of found)
found_as (Err fault) = Err fault

-- the targets can't be read, or one line is bad; nothing else was done
pub record Untargeted (w : World) (path : Option (Bor (List ℕ))) (from to : Option (List ℕ)) (result : Result Verdict ToolFault)
    (old new : Option FolderView) : Type 0 where
  pub unasked : Unasked IsFileFault result old new
  pub wrote : Keeps from to
  pub known : Option (List ℕ)
  pub gives : GivesText w false path known
  pub bad_line : IfBadLine result manifest_of known

-- by the targets that the file has
pub record Prunes (w : World) (asked : Option LogVersion) (path : Option (Bor (List ℕ))) (last : Option Failure) (from to : Option (List ℕ))
    (result : Result Verdict ToolFault) (found left : FolderView) : Type 0 where
  pub known : Option (List ℕ)
  pub gives : GivesText w false path known
  pub targets : List (List ℕ)
  pub said : OfBytes known (λ bytes. manifest_of bytes ≡ Says targets)
  pub answer : Result Bool ToolFault
  pub call : Settles (FindsKept asked targets (states_from None w.states) from to) (to ≡ from) asked answer found left
  pub read : Result Bool ToolFault
  pub is : IsAnswerOf last answer read
  pub told : result ≡ found_as read

abbrev pub PrunesAt : World → Option LogVersion → Bor (List ℕ) → Option (Bor (List ℕ)) → Option Failure → Option (List ℕ) → Option (List ℕ)
    → Result Verdict ToolFault → Option FolderView → Option FolderView → Type 0
PrunesAt w asked log path last from to result old new = (Unasked IsUnopened result old new × Keeps from to)
    ⊎ (Untargeted w path from to result old new ⊎ AsksLog w log (Prunes w asked path last from to result) new)

-- of an output whose file has a negative time the name is told
pub record Retimes (w : World) (asked : Option LogVersion) (early : List ℕ) (last : Option Failure) (from to : Option (List ℕ))
    (result : Result Verdict ToolFault) (found left : FolderView) : Type 0 where
  pub answer : Result Bool ToolFault
  pub call : Settles (FindsTimes asked (states_from None w.states) from to early) (to ≡ from) asked answer found left
  pub read : Result Bool ToolFault
  pub is : IsAnswerOf last answer read
  pub told : result ≡ found_as read

abbrev pub RetimesAt : World → Option LogVersion → Bor (List ℕ) → List ℕ → Option Failure → Option (List ℕ) → Option (List ℕ)
    → Result Verdict ToolFault → Option FolderView → Option FolderView → Type 0
RetimesAt w asked log early last from to result old new =
    (Unasked (λ fault. fault ≡ Memory) result old new × Keeps from to) ⊎ AsksLog w log (Retimes w asked early last from to result) new

-- the whole log is written anew by one change
pub record RepairsWhole (asked : Option LogVersion) (last : Option Failure) (result : Result (Unit {0}) ToolFault) (found left : FolderView) : Type 0 where
  pub answer : Result (Unit {0}) ToolFault
  pub call : MendsLogFor asked [] answer found left
  pub changes : ChangesLogFor asked (λ _. keeping_all) answer found left
  pub repairs : RepairsFor asked answer found.disk left.disk
  pub is : IsAnswerOf last answer result

abbrev pub RepairsAt : World → Option LogVersion → Bor (List ℕ) → Option Failure → Result (Unit {0}) ToolFault → Option FolderView
    → Option FolderView → Type 0
RepairsAt w asked log last result old new =
    Unasked (λ fault. fault ≡ Memory) result old new ⊎ AsksLog w log (RepairsWhole asked last result) new

-- ---- `mend`

-- LOG is that of the build's folder where none is named
abbrev pub mended_log : Option (Bor (List ℕ)) → Option (Bor (List ℕ)) → List ℕ
mended_log (Some log) folder = log.now
mended_log None folder = path_below folder (codes ".ninja_log")

-- the build's folder is missing, or memory was refused
abbrev pub IsNoBuild : World → Option (Bor (List ℕ)) → ToolFault → Type 0
IsNoBuild w folder Read = IsSomeAnd folder (λ path. MayMiss w.states path.now)
IsNoBuild w folder Memory = ⊤
IsNoBuild w folder _ = ⊥

-- a missing log needs no mending
abbrev pub IsMendAnswer : Option Failure → Result Mended ToolFault → Result Verdict ToolFault → Type 0
IsMendAnswer last (Ok mended) result = result ≡ Ok (verdict_of mended.is_told)
IsMendAnswer last (Err fault) result = (result ≡ Err fault) ⊎ ((fault ≡ Folder) × (result ≡ Ok Done) × IsSomeAnd last IsNoLog)

-- a line tells that fewer than one output in ten is here
abbrev pub few_text : List ℕ → Mended → List ℕ
few_text path mended =
    codes "LOG " ++ (path ++ (codes ": " ++ (decimal mended.there ++ (codes " of " ++ (decimal mended.outputs ++ codes " outputs are here")))))

abbrev pub SaysFew : List ℕ → Mended → Option (List ℕ) → Option (List ℕ) → Type 0
SaysFew path mended said says =
    ((mended.there < mended.outputs / 10) × Appends said says (said_line (few_text path mended)))
    ⊎ ((mended.outputs / 10 ≤ mended.there) × Keeps said says)

abbrev pub SaysFewOf : List ℕ → Result Mended ToolFault → Option (List ℕ) → Option (List ℕ) → Type 0
SaysFewOf path (Ok mended) said says = SaysFew path mended said says
SaysFewOf path (Err fault) said says = Keeps said says

pub record MendsBuild (w : World) (path : List ℕ) (folder : Option (Bor (List ℕ))) (how : How) (last : Option Failure)
    (said says from to : Option (List ℕ)) (result : Result Verdict ToolFault) (found left : FolderView) : Type 0 where
  pub answer : Result Mended ToolFault
  pub call : MendsFolder (states_from folder w.states) how from to answer found left
  pub few : SaysFewOf path answer said says
  pub is : IsMendAnswer last answer result

abbrev pub how_of : Choices → Bool → How
how_of choices terminal = record { dry_run = choices.dry_run; all = choices.all; at_terminal = terminal }

abbrev pub MendsAt : World → Option (Bor (List ℕ)) → Choices → Bool → Option Failure → Option (List ℕ) → Option (List ℕ) → Option (List ℕ)
    → Option (List ℕ) → Result Verdict ToolFault → Option FolderView → Option FolderView → Type 0
MendsAt w log choices terminal last said says from to result old new =
    (Unasked (IsNoBuild w choices.folder) result old new × Keeps said says × Keeps from to)
    ⊎ IsSomeAnd new (MendsBuild w (mended_log log choices.folder) choices.folder (how_of choices terminal) last said says from to result
    (w.found (mended_log log choices.folder)))
