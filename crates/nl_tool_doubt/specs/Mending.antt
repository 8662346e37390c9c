-- What `mend` says of the outputs of a log, and what it makes of the log (docs/CLI.md, "mend").
use Rattle.std.specs.Prelude.{◌≡◌, ◌≢◌, ◌↔◌, ◌⊎◌, ⊤, ℕ, Bool, true, false, not, ◌&&◌, ◌||◌, ◌==◌, List, [], ◌∷◌, ◌++◌, length, codes, Option, None, Some, Result, Ok, Err, IfOk, IfErr, IsErrOf, OnOk, if◌then◌else◌}
use Rattle.std.specs.Global.{Vec}
use Rattle.std.specs.List.{flat_map}
use Rattle.std.specs.Io.KnownBytes.{Appends, Keeps}
use Rattle.nl_folder.specs.DiskState.{Disk}
use Rattle.nl_folder.specs.FolderView.{FolderView}
use Rattle.nl_table.specs.Log.{log_of}
use Rattle.nl_table.specs.Log as log_reading
use Rattle.nl_versions.specs.VersionOf.{as_five, lines_version, version_of}
use Rattle.nl_fields.specs.Intent.{is_intent}
use Rattle.nl_distrust.specs.Distrusted.{is_whole}
use Rattle.nl_tool_texts.specs.Output.{AppendsPrefixOf}
use Rattle.nl_tool_texts.specs.declared.fault.ToolFault.{ToolFault}
use Rattle.nl_tool_texts.specs.declared.fault.ToolFault.TheVariants.{NotALog, OtherVersion, Read, Memory, Write, Folder, Elsewhere}
use Rattle.nl_tool_change.specs.Mending.{MendsLogAs, ReadsWhole}
use Rattle.nl_tool_doubt.specs.Doubts.{IsDoubts, damaged_by, word_of}
use Rattle.nl_tool_doubt.specs.declared.files.FileState.{FileState}
use Rattle.nl_tool_doubt.specs.declared.judge.Doubt.{Doubt}
use Rattle.nl_tool_doubt.specs.declared.judge.Doubt.TheVariants as doubt
use Rattle.nl_tool_doubt.specs.declared.doubts.Doubted.{Doubted}
use Rattle.nl_tool_doubt.specs.declared.doubts.Doubts.{Doubts}
use Rattle.nl_tool_doubt.specs.declared.mending.How.{How}
use Rattle.nl_tool_doubt.specs.declared.mending.Mended.{Mended}
use Rattle.nl_tool_doubt.specs.declared.mending.Said.{Said}
use Rattle.nl_tool_doubt.specs.declared.settling.Due.{Due}
use Rattle.nl_tool_doubt.specs.declared.settling.Due.TheVariants.{Nothing, Mend}

-- ---- which outputs are told of, and which are made anew

-- an output whose file is missing isn't told of
abbrev pub cause_by : Doubt → Option Doubt
cause_by doubt.Damaged = Some doubt.Damaged
cause_by doubt.Newer = Some doubt.Newer
cause_by doubt.Unsure = Some doubt.Unsure
cause_by doubt.Folder = Some doubt.Unsure
cause_by doubt.NoTime = Some doubt.Unsure
cause_by doubt.Untold = Some doubt.Unsure
cause_by doubt.Gone = None

-- an output whose entry has the form of an intent isn't told of, because no command passes for that
abbrev pub cause_of : Doubted → Option Doubt
cause_of d = if is_intent d.entry then None else cause_by d.why

-- outputs that can't be trusted are made anew, and with `--all` also those of which that isn't sure
abbrev pub is_taken : Bool → Option Doubt → Bool
is_taken all None = false
is_taken all (Some doubt.Unsure) = all
is_taken all (Some cause) = true

abbrev pub taken_by : Bool → Doubted → List (List ℕ)
taken_by all d = if is_taken all (cause_of d) then d.entry.name ∷ [] else []

abbrev pub taken : Bool → List Doubted → List (List ℕ)
taken all ds = flat_map (taken_by all) ds

-- ---- the text

abbrev pub line_for : List ℕ → Option Doubt → List ℕ
line_for name None = []
line_for name (Some cause) = word_of cause ++ codes "\t" ++ name ++ codes "\n"

abbrev pub line_of : Doubted → List ℕ
line_of d = line_for d.entry.name (cause_of d)

abbrev pub mend_lines : List Doubted → List ℕ
mend_lines ds = flat_map line_of ds

abbrev pub is_told : List Doubted → Bool
is_told ds = not (length (mend_lines ds) == 0)

-- the log is written anew if an output is made anew or a line is damaged, unless nothing is to be changed
abbrev pub is_due : Bool → List ℕ → List (List ℕ) → Bool
is_due dry_run log names = not dry_run && (not (length names == 0) || not (is_whole (lines_version log) log))

-- a line may follow at a terminal alone
abbrev pub EndsBy : Bool → List ℕ → List ℕ → Type 0
EndsBy terminal lines text = (end : List ℕ) × (text ≡ lines ++ end) × (terminal ≡ false → end ≡ [])

pub record IsSaid (how : How) (log : List ℕ) (ds : List Doubted) (said : Said) : Type 0 where
  pub text : EndsBy how.at_terminal (mend_lines ds) said.text.items
  pub told : said.is_told ≡ is_told ds
  pub names : said.names.items ≡ taken how.all ds
  pub due : said.is_due ≡ is_due how.dry_run log (taken how.all ds)

-- ---- the log

-- the log has these bytes, in an honest folder
abbrev pub IsIn : Option Disk → List ℕ → Type 0
IsIn disk log = (d : Disk) → disk ≡ Some d → d.visible ≡ log

-- what is said was written, or a part of it
abbrev pub IsDone : Result (Unit {0}) ToolFault → Type 0
IsDone (Ok done) = ⊤
IsDone (Err fault) = fault ≡ Write

pub record Writes (text : List ℕ) (from to : Option (List ℕ)) (result : Result (Unit {0}) ToolFault) : Type 0 where
  pub all : OnOk result (Appends from to text)
  pub part : IsErrOf result Write → AppendsPrefixOf from to text
  pub none : ¬ IsDone result → Keeps from to

-- the outputs of these names get intents over their entries if that is due, and else the folder is as it was
pub record MendsIfDue (due : Bool) (log : List ℕ) (names : List (List ℕ)) (result : Result (Unit {0}) ToolFault) (old new : FolderView) : Type 0 where
  pub mended : due ≡ true → IsDone result → MendsLogAs (version_of log) names (Ok tt) old new
  pub stays : due ≡ false → new ≡ old
  pub refused : IfErr result (λ fault. (fault ≡ Write) ⊎ ((new ≡ old) ⊎ MendsLogAs (version_of log) names (Err fault) old new))

-- the log has outputs, and none has a file
abbrev pub is_elsewhere : Doubts → Bool
is_elsewhere doubts = doubts.there == 0 && not (doubts.outputs == 0)

abbrev pub done_by : Result Mended ToolFault → Result (Unit {0}) ToolFault
done_by (Ok mended) = Ok tt
done_by (Err fault) = Err fault

pub record Mends (how : How) (log : List ℕ) (doubts : Doubts) (from to : Option (List ℕ)) (result : Result Mended ToolFault)
    (old new : FolderView) : Type 0 where
  pub elsewhere : IsErrOf result Elsewhere ↔ (is_elsewhere doubts ≡ true)
  pub told : IfOk result (λ mended. mended.is_told ≡ is_told doubts.named.items)
  pub outputs : IfOk result (λ mended. (mended.outputs ≡ doubts.outputs) × (mended.there ≡ doubts.there))
  pub text : List ℕ
  pub says : EndsBy how.at_terminal (mend_lines doubts.named.items) text
  pub writes : Writes text from to (done_by result)
  pub mends : MendsIfDue (is_due how.dry_run log (taken how.all doubts.named.items)) log (taken how.all doubts.named.items) (done_by result) old new

abbrev pub IsMendFault : ToolFault → Type 0
IsMendFault NotALog = ⊤
IsMendFault OtherVersion = ⊤
IsMendFault Read = ⊤
IsMendFault Memory = ⊤
IsMendFault Write = ⊤
IsMendFault Folder = ⊤
IsMendFault Elsewhere = ⊤
IsMendFault _ = ⊥

-- the bytes are no log, or memory was refused
abbrev pub IsUnread : List ℕ → ToolFault → Type 0
IsUnread log NotALog = log_of (as_five log) ≡ log_reading.NotALog
IsUnread log OtherVersion = log_of (as_five log) ≡ log_reading.OtherVersion
IsUnread log Memory = ⊤
IsUnread log _ = ⊥

-- nothing was written or changed
pub record NoMend (from to : Option (List ℕ)) (result : Result Mended ToolFault) (fault : ToolFault) (old new : FolderView) : Type 0 where
  pub answer : result ≡ Err fault
  pub wrote : Keeps from to
  pub stays : new ≡ old

-- what is said of the doubts, and what is due by it
pub record MendsBy (how : How) (log : List ℕ) (doubts : Doubts) (says : List ℕ) (mended : Mended) (found : Due) : Type 0 where
  pub said : Said
  pub is : IsSaid how log doubts.named.items said
  pub here : is_elsewhere doubts ≡ false
  pub text : says ≡ said.text.items
  pub told : mended.is_told ≡ said.is_told
  pub outputs : (mended.outputs ≡ doubts.outputs) × (mended.there ≡ doubts.there)
  pub due : found ≡ (if said.is_due then Mend (version_of log) said.names else Nothing)

-- nothing is written before the log is mended
abbrev pub FindsDoubts : How → Option (List ℕ → FileState) → Option (List ℕ) → Option (List ℕ) → List ℕ → Mended → List ℕ
    → Result Due ToolFault → Type 0
FindsDoubts how states from to text mended log (Ok due) =
    (to ≡ from) × (doubts : Doubts) × IsDoubts (damaged_by true log) log states doubts × MendsBy how log doubts text mended due
FindsDoubts how states from to text mended log (Err Elsewhere) =
    (to ≡ from) × (doubts : Doubts) × IsDoubts (damaged_by true log) log states doubts × (is_elsewhere doubts ≡ true)
FindsDoubts how states from to text mended log (Err fault) = (to ≡ from) × IsUnread log fault

abbrev pub MendsBytes : Option (List ℕ → FileState) → How → List ℕ → Option (List ℕ) → Option (List ℕ) → Result Mended ToolFault → FolderView
    → FolderView → Type 0
MendsBytes states how log from to result old new =
    ((fault : ToolFault) × (fault ≢ Elsewhere) × IsUnread log fault × NoMend from to result fault old new)
    ⊎ ((doubts : Doubts) × IsDoubts (damaged_by true log) log states doubts × Mends how log doubts from to result old new)

-- the log is read first
abbrev pub MendsRead : Option (List ℕ → FileState) → How → Result (Vec ℕ) ToolFault → Option (List ℕ) → Option (List ℕ) → Result Mended ToolFault
    → FolderView → FolderView → Type 0
MendsRead states how (Ok log) from to result old new = MendsBytes states how log.items from to result old new
MendsRead states how (Err fault) from to result old new = NoMend from to result fault old new

-- to read the log changes nothing; what was read is mended
pub record MendsFolder (states : Option (List ℕ → FileState)) (how : How) (from to : Option (List ℕ)) (result : Result Mended ToolFault)
    (old new : FolderView) : Type 0 where
  pub read : Result (Vec ℕ) ToolFault
  pub between : FolderView
  pub reads : ReadsWhole old between read
  pub mends : MendsRead states how read from to result between new
