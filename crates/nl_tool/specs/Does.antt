-- What the program does for its words: what it reads and looks at, what becomes of LOG, what it prints, and what it answers (docs/CLI.md).
use Rattle.std.specs.Prelude.{◌≡◌, ℕ, Bool, List, [], Option, Some, Result, Ok, Err}
use Rattle.nl_folder.specs.FolderView.{FolderView}
use Rattle.nl_os.specs.declared.failed_call.Failure.{Failure}
use Rattle.nl_versions.specs.declared.version.LogVersion.{LogVersion}
use Rattle.nl_tool_change.specs.declared.line_fault.WrongNumber.{WrongNumber}
use Rattle.nl_tool_texts.specs.declared.fault.ToolFault.{ToolFault}
use Rattle.nl_tool_words.specs.declared.words.Changing.TheVariants.{Prune, Retime, Repair, Apply}
use Rattle.nl_tool_words.specs.declared.words.Reading.TheVariants as reading
use Rattle.nl_tool_words.specs.declared.words.Words.{Words}
use Rattle.nl_tool_words.specs.declared.words.Words.TheVariants as words
use Rattle.nl_tool.specs.Answers.{PrintsBy}
use Rattle.nl_tool.specs.Changed.{AppliesAt, MendsAt, PrunesAt, RecompactsAt, RecordsAt, RepairsAt, RestatsAt, RetimesAt}
use Rattle.nl_tool.specs.Printed.{BuildsAt, CompareAt, DoubtsAt, PictureAt, PrintsAt, SummaryAt, TraceAt}
use Rattle.nl_tool.specs.World.{World}
use Rattle.nl_tool.specs.declared.printing.Printing.TheVariants as printing
use Rattle.nl_tool.specs.declared.program.Verdict.{Verdict}
use Rattle.nl_tool.specs.declared.program.Verdict.TheVariants.{Done}

-- what stands around a command: the world; what is asked for beside its words; what standard error and standard output had and have; the
-- folder of LOG as it was left, if it was asked; and what is noted of a refusal
pub record Around : Type 0 where
  pub world : World
  pub asked : Option LogVersion
  pub missing_ok : Bool
  pub columns : Option ℕ
  pub terminal : Bool
  pub said : Option (List ℕ)
  pub says : Option (List ℕ)
  pub from : Option (List ℕ)
  pub to : Option (List ℕ)
  pub old : Option FolderView
  pub new : Option FolderView
  pub number : Option WrongNumber
  pub early : List ℕ
  pub last : Option Failure

abbrev pub done_as : Result (Unit {0}) ToolFault → Result Verdict ToolFault
done_as (Ok done) = Ok Done
done_as (Err fault) = Err fault

-- a word that finds nothing
abbrev pub Does : (Result (Unit {0}) ToolFault → Type 0) → Result Verdict ToolFault → Type 0
Does Holds result = (done : Result (Unit {0}) ToolFault) × Holds done × (result ≡ done_as done)

-- no log was asked for a change
abbrev pub Looks : Around → Type 0 → Type 0
Looks a Holds = Holds × (a.new ≡ a.old)

abbrev pub IsRun : Around → Words → Result Verdict ToolFault → Type 0
IsRun a (words.Show log) result = Looks a (PrintsAt a.world printing.Show a.asked a.missing_ok log a.from a.to result)
IsRun a (words.Check log) result = Looks a (PrintsAt a.world printing.Check a.asked a.missing_ok log a.from a.to result)
IsRun a (words.Hash command) result = Looks a (PrintsBy (printing.Hash command) a.asked (Some []) a.from a.to result)
IsRun a (words.HashFile file) result = Looks a (PrintsAt a.world printing.HashFile a.asked a.missing_ok file a.from a.to result)
IsRun a (words.Replay script) result = Looks a (PrintsAt a.world printing.Replay a.asked a.missing_ok script a.from a.to result)
IsRun a (words.Read reading.Entries log choices) result = Looks a (PrintsAt a.world printing.Entries a.asked a.missing_ok log a.from a.to result)
IsRun a (words.Read reading.Damage log choices) result = Looks a (PrintsAt a.world printing.Damage a.asked a.missing_ok log a.from a.to result)
IsRun a (words.Read reading.Doubt log choices) result = Looks a (DoubtsAt a.world log a.from a.to result)
IsRun a (words.Read reading.Builds log choices) result =
    Looks a (Does (λ done. BuildsAt a.world a.missing_ok log a.columns a.from a.to done) result)
IsRun a (words.Read reading.Summary log choices) result =
    Looks a (Does (λ done. SummaryAt a.world a.missing_ok log choices a.columns a.number a.from a.to done) result)
IsRun a (words.Read reading.Trace log choices) result =
    Looks a (Does (λ done. TraceAt a.world a.missing_ok log choices a.columns a.number a.from a.to done) result)
IsRun a (words.Read reading.Picture log choices) result =
    Looks a (Does (λ done. PictureAt a.world a.missing_ok log choices a.columns a.number a.from a.to done) result)
IsRun a (words.Compare old new choices) result =
    Looks a (Does (λ done. CompareAt a.world a.missing_ok old new choices a.columns a.number a.from a.to done) result)
IsRun a (words.Record given) result = Does (λ done. RecordsAt a.world a.asked given a.number done a.old a.new) result × (a.to ≡ a.from)
IsRun a (words.Recompact log keep) result = Does (λ done. RecompactsAt a.world a.asked log keep done a.old a.new) result × (a.to ≡ a.from)
IsRun a (words.Restat log times) result = Does (λ done. RestatsAt a.world a.asked log times done a.old a.new) result × (a.to ≡ a.from)
IsRun a (words.Change Prune log file) result = PrunesAt a.world a.asked log file a.last a.from a.to result a.old a.new
IsRun a (words.Change Retime log file) result = RetimesAt a.world a.asked log a.early a.last a.from a.to result a.old a.new
IsRun a (words.Change Repair log file) result = Does (λ done. RepairsAt a.world a.asked log a.last done a.old a.new) result × (a.to ≡ a.from)
IsRun a (words.Change Apply log file) result = Does (λ done. AppliesAt a.world a.asked log file a.from a.to done a.old a.new) result
IsRun a (words.Mend log choices) result = MendsAt a.world log choices a.terminal a.last a.said a.says a.from a.to result a.old a.new
