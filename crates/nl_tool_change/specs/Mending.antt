-- What a mend of the log of a folder makes of what contracts see of it, by the answer: docs/PROMISES.md.
use Rattle.std.specs.Prelude.{◌≡◌, ◌≤◌, ⊤, ℕ, false, IsTrue, List, Option, Some, Result, IfErr, IfOk, IsErrOf, OnErr, OnOk}
use Rattle.std.specs.Global.{Vec}
use Rattle.nl_lines.specs.Source.{FailedBetween}
use Rattle.nl_table.specs.Log.{log_of}
use Rattle.nl_folder.specs.DiskState.{Disk}
use Rattle.nl_folder.specs.FolderView.{FolderView, SameState}
use Rattle.nl_versions.specs.declared.version.LogVersion.{LogVersion}
use Rattle.nl_versions.specs.declared.version.LogVersion.TheVariants.{Five}
use Rattle.nl_versions.specs.LogAs.{log_as}
use Rattle.nl_versions.specs.VersionFolder.{seen_as_version}
use Rattle.nl_session.specs.Effects.{Rewrites}
use Rattle.nl_session.specs.Intents.{with_intents}
use Rattle.nl_session.specs.Mending.{IsOldOrMended, MendFaults}
use Rattle.nl_session.specs.Opened.{IsLog}
use Rattle.nl_tool_texts.specs.declared.fault.ToolFault.{ToolFault}
use Rattle.nl_tool_texts.specs.declared.fault.ToolFault.TheVariants.{Folder, Memory}
use Rattle.nl_tool_change.specs.Calls.{IsCounted, IsVersionFor, RefusesBytes}
use Rattle.nl_tool_change.specs.Faults.{IsRecordFault}

-- ---- a log that is read

-- the folder failed meanwhile, or memory was refused
abbrev pub IsNoWhole : ℕ → ℕ → ToolFault → Type 0
IsNoWhole before after Folder = FailedBetween before after
IsNoWhole before after Memory = ⊤
IsNoWhole before after _ = ⊥

-- the folder stays as it is
pub record ReadsWhole (old new : FolderView) (result : Result (Vec ℕ) ToolFault) : Type 0 where
  pub same : SameState old new
  pub rises : old.failures ≤ new.failures
  pub value : IfOk result (λ bytes. (d : Disk) → old.disk ≡ Some d → d.visible ≡ bytes.items)
  pub faults : IfErr result (IsNoWhole old.failures new.failures)

-- ---- a log that is mended

-- in an honest folder on Ok the log is the text of the table with the intents, whatever crash comes; after any answer what is found could be
-- found before, or is that text; and bytes that are no log stay as they are
pub record MendsDisk (names : List (List ℕ)) (result : Result (Unit {0}) ToolFault) (old new : Option Disk) : Type 0 where
  pub contents : OnOk result (Rewrites (with_intents names) old new)
  pub left : IsErrOf result Folder → MendFaults names old new
  pub stays : ¬ IsErrOf result Folder → OnErr result (new ≡ old)
  pub either : IsOldOrMended names old new
  pub untouched : (d : Disk) → old ≡ Some d → ¬ IsLog d.visible → new ≡ old

-- after Ok no cut or rename awaits a sync, and there is no scratch
pub record MendsLog (names : List (List ℕ)) (result : Result (Unit {0}) ToolFault) (old new : FolderView) : Type 0 where
  pub disk : MendsDisk names result old.disk new.disk
  pub settled : OnOk result (IsTrue new.is_settled)
  pub scratch : OnOk result (new.has_scratch ≡ false)
  pub bytes : RefusesBytes log_of result old.disk
  pub unchanged : ¬ IsErrOf result Folder → OnErr result (SameState old new)
  pub count : IsCounted result old.failures new.failures
  pub refusals : IfErr result IsRecordFault

-- the log is seen as one of the version
pub record MendsSeen (version : LogVersion) (names : List (List ℕ)) (result : Result (Unit {0}) ToolFault) (old new : FolderView) : Type 0 where
  pub disk : MendsDisk names result (seen_as_version version old.disk) (seen_as_version version new.disk)
  pub settled : OnOk result (IsTrue new.is_settled)
  pub bytes : RefusesBytes (log_as version) result old.disk
  pub count : old.failures ≡ 0 → IsCounted result old.failures new.failures
  pub refusals : IfErr result IsRecordFault

-- in version 5 the mend is that of a log as it stands, no more and no less
pub record MendsLogAs (version : LogVersion) (names : List (List ℕ)) (result : Result (Unit {0}) ToolFault) (old new : FolderView) : Type 0 where
  pub seen : MendsSeen version names result old new
  pub five : version ≡ Five → MendsLog names result old new

-- the log is one of the version that is asked for, or else of the one that it has
pub record MendsLogFor (asked : Option LogVersion) (names : List (List ℕ)) (result : Result (Unit {0}) ToolFault) (old new : FolderView) : Type 0 where
  pub version : LogVersion
  pub chosen : IsVersionFor asked old.disk version
  pub call : MendsLogAs version names result old new
