-- A log that is seen as of a version, and what is seen of its folder: docs/CLI.md, "`apply`".
use Rattle.std.specs.Prelude.{◌≡◌, ◌<◌, ◌≤◌, false, IsTrue}
use Rattle.nl_versions.specs.declared.version.LogVersion.{LogVersion}
use Rattle.nl_versions.specs.declared.version.LogVersion.TheVariants.{Five, Six, Seven}
use Rattle.nl_folder.specs.declared.folder.Folder.{Ghosts}
use Rattle.nl_versions.specs.VersionFolder.{seen_as_version}
use Rattle.nl_session.specs.declared.fault.LogState.TheVariants.{Closed}
use Rattle.nl_session.specs.LogView.{LogView, view_of}
use Rattle.nl_tool_change.specs.declared.seen.AnyLog.{AnyLog}
use Rattle.nl_tool_change.specs.declared.seen.AnyLog.TheVariants.{OfFive, OfSix, OfSeven}
use Rattle.nl_folder.specs.FolderView.{FolderView}

pub record Seen : Type 0 where
  pub version : LogVersion
  pub view : LogView

abbrev pub seen_of : {A B C : Type 0} {a : Ghosts A} {b : Ghosts B} {c : Ghosts C} → AnyLog A B C a b c → Seen
seen_of (OfFive log) = record { version = Five; view = view_of log }
seen_of (OfSix log) = record { version = Six; view = view_of log }
seen_of (OfSeven log) = record { version = Seven; view = view_of log }

-- a closed log; a version other than 5 is seen through a folder that asks for a sync first, and knows of no scratch
pub record Begins (found : FolderView) (seen : Seen) : Type 0 where
  pub closed : seen.view.mode ≡ Closed
  pub disk : seen.view.folder.disk ≡ seen_as_version seen.version found.disk
  pub failures : seen.view.folder.failures ≡ found.failures
  pub five : seen.version ≡ Five → seen.view.folder ≡ found
  pub other : (seen.version ≡ Five → ⊥) → (seen.view.folder.is_settled ≡ false) × (seen.view.folder.has_scratch ≡ false)

pub record HandsBack (seen : Seen) (left : FolderView) : Type 0 where
  pub disk : left.disk ≡ seen_as_version seen.version seen.view.folder.disk
  pub settled : IsTrue seen.view.folder.is_settled → IsTrue left.is_settled
  pub scratch : IsTrue seen.view.folder.has_scratch → IsTrue left.has_scratch
  pub failed : left.failures ≤ seen.view.folder.failures
  pub cause : 0 < seen.view.folder.failures → 0 < left.failures
  pub five : seen.version ≡ Five → left ≡ seen.view.folder
