-- What `prune` and `retime` leave of the log that they read: docs/PROMISES.md.
use Rattle.std.specs.Prelude.{◌≡◌, ◌||◌, ℕ, true, List, Option, None, Some, IsSomeAnd, option_map, if◌then◌else◌}
use Rattle.nl_fields.specs.declared.entry.Entry.{Entry}
use Rattle.nl_fields.specs.Intent.{is_intent}
use Rattle.nl_table.specs.History.{holds}
use Rattle.nl_table.specs.Log.{log_of}
use Rattle.nl_table.specs.LogText.{text_of}
use Rattle.nl_table.specs.Table.{entry_named, without_mtimes}
use Rattle.nl_folder.specs.CrashImages.{IsDisk}
use Rattle.nl_folder.specs.DiskState.{Disk}
use Rattle.nl_folder.specs.FolderView.{FolderView}
use Rattle.nl_versions.specs.VersionOf.{as_five}
use Rattle.nl_tool_doubt.specs.Judging.{is_present}
use Rattle.nl_tool_doubt.specs.There.{table_in}
use Rattle.nl_tool_doubt.specs.declared.files.FileState.{FileState}
use Rattle.nl_tool_doubt.specs.declared.files.FileState.TheVariants.{Written}

-- the table of a log of the version that its first line names
abbrev pub table_read : List ℕ → Option (List Entry)
table_read bytes = table_in (log_of (as_five bytes))

-- the log is the text of a table, which is what a load of it finds, and this holds of that table
pub record IsTextWith (Holds : List Entry → Type 0) (d : Disk) : Type 0 where
  pub table : List Entry
  pub text : as_five d.visible ≡ text_of table
  pub reads : IsDisk d → table_read d.visible ≡ Some table
  pub holds : Holds table

-- in an honest folder there was a table and there is the text of one, and this holds of both
abbrev pub LeavesTable : (List Entry → List Entry → Type 0) → FolderView → FolderView → Type 0
LeavesTable Holds old new = (d : Disk) → old.disk ≡ Some d → IsSomeAnd (table_read d.visible) (λ es. IsSomeAnd new.disk (IsTextWith (Holds es)))

abbrev pub KeepsNamed : List (List ℕ) → List Entry → List Entry → Type 0
KeepsNamed names es fs = (name : List ℕ) → holds names name ≡ true → entry_named fs name ≡ entry_named es name

-- the outputs that are targets or have a file have the entries that they had, and no other output has one
abbrev pub KeepsThere : List (List ℕ) → (List ℕ → FileState) → List Entry → List Entry → Type 0
KeepsThere targets state_of es fs = (name : List ℕ)
    → entry_named fs name ≡ (if holds targets name || is_present (state_of name) then entry_named es name else None)

-- an entry that tells of no end of its command stays as it is
abbrev pub KeepsIntents : List Entry → List Entry → Type 0
KeepsIntents es fs = (name : List ℕ) (e : Entry) → entry_named es name ≡ Some e → is_intent e ≡ true → entry_named fs name ≡ Some e

-- by its file's state
abbrev pub timed : FileState → Entry → Entry
timed (Written t) e = if is_intent e then e else record e { mtime = t.written }
timed file e = e

-- the entries in their order, each as it was but for its time
abbrev pub KeepsButTimes : List Entry → List Entry → Type 0
KeepsButTimes es fs = without_mtimes fs ≡ without_mtimes es

-- an entry of an output whose file has a time has that time, if it is no intent, and every other stays as it is
abbrev pub TakesTimes : (List ℕ → FileState) → List Entry → List Entry → Type 0
TakesTimes state_of es fs = (name : List ℕ) → entry_named fs name ≡ option_map (timed (state_of name)) (entry_named es name)
