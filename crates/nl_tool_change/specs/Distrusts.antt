-- Which outputs of a closed log can't be trusted, as the bytes tell that its folder has: docs/CLI.md, "`apply`".
use Rattle.std.specs.Prelude.{◌≡◌, ◌≤◌, ⊤, ℕ, List, Option, Some, IfOk, IfErr, Result}
use Rattle.nl_fields.specs.declared.entry.Entry.{Entry}
use Rattle.nl_lines.specs.Source.{FailedBetween}
use Rattle.nl_table.specs.History.{logged, table}
use Rattle.nl_table.specs.Log.{Log, NotALog, OtherVersion}
use Rattle.nl_folder.specs.DiskState.{Disk}
use Rattle.nl_versions.specs.LogAs.{log_for}
use Rattle.nl_versions.specs.declared.version.LogVersion.{LogVersion}
use Rattle.nl_distrust.specs.Distrusted.{distrusted_in}
use Rattle.nl_session.specs.declared.fault.LogFault.{LogFault}
use Rattle.nl_session.specs.declared.fault.LogFault.TheVariants as refusal
use Rattle.nl_folder.specs.FolderView.{FolderView, SameState}

-- the bytes are a log of the version, if one is asked for, and these are the entries of its table that can't be trusted
pub record AreDistrusted (asked : Option LogVersion) (bytes : List ℕ) (es : List Entry) : Type 0 where
  pub version : ℕ
  pub entries : List Entry
  pub is_log : log_for asked bytes ≡ Log version entries
  pub are : es ≡ distrusted_in version bytes (table (logged version entries))

-- the folder failed meanwhile, the bytes of an honest one are no log or one of another version, or memory was refused
abbrev pub IsUntold : Option LogVersion → Option Disk → ℕ → ℕ → LogFault → Type 0
IsUntold asked disk before after refusal.Fault = FailedBetween before after
IsUntold asked disk before after refusal.NotALog = (d : Disk) → disk ≡ Some d → log_for asked d.visible ≡ NotALog
IsUntold asked disk before after refusal.OtherVersion = (d : Disk) → disk ≡ Some d → log_for asked d.visible ≡ OtherVersion
IsUntold asked disk before after refusal.OutOfMemory = ⊤
IsUntold asked disk before after _ = ⊥

-- the folder stays as it is
pub record Distrusts (asked : Option LogVersion) (old new : FolderView) (result : Result (List Entry) LogFault) : Type 0 where
  pub same : SameState old new
  pub rises : old.failures ≤ new.failures
  pub found : IfOk result (λ es. (d : Disk) → old.disk ≡ Some d → AreDistrusted asked d.visible es)
  pub refusals : IfErr result (IsUntold asked old.disk old.failures new.failures)
