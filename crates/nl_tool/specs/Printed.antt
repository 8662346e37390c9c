-- What each word that reads and prints does: what it reads and looks at, and what it prints (docs/CLI.md).
use Rattle.std.specs.Prelude.{◌≡◌, ◌↔◌, ◌<◌, ◌⊎◌, ⊤, ℕ, Bool, false, true, List, length, Option, None, Some, is_some, option_map, Result, Ok, Err, flat_map}
use Rattle.std.specs.Borrow.{Bor}
use Rattle.std.specs.Io.KnownBytes.{Appends, Keeps}
use Rattle.std.specs.Result.{IsErrAnd}
use Rattle.jiff_tz.specs.declared.timezone.TimeZone.{TimeZone}
use Rattle.nl_table.specs.Log.{log_of}
use Rattle.nl_versions.specs.VersionOf.{as_five}
use Rattle.nl_versions.specs.declared.version.LogVersion.{LogVersion}
use Rattle.nl_reports.specs.Compare.{are_comparable, compare_text, side_of}
use Rattle.nl_reports.specs.declared.choice.Scope.{Scope}
use Rattle.nl_reports.specs.declared.jobs.ByGraph.{ByGraph}
use Rattle.nl_reports.specs.declared.rows.Lists.{Lists}
use Rattle.nl_reports.specs.declared.sides.Side.{Side}
use Rattle.nl_tool_change.specs.declared.line_fault.WrongNumber.{WrongNumber}
use Rattle.nl_tool_doubt.specs.Doubts.{IsDoubts, damaged_by, doubt_line}
use Rattle.nl_tool_doubt.specs.declared.files.FileState.{FileState}
use Rattle.nl_tool_doubt.specs.declared.doubts.Doubts.{Doubts}
use Rattle.nl_tool_print.specs.Faults.{IsLogFault, RefusesLog}
use Rattle.nl_tool_texts.specs.GraphText.{IsOfText, graph_of, seen_graph}
use Rattle.nl_tool_texts.specs.Output.{AppendsPrefixOf, Prints}
use Rattle.nl_tool_texts.specs.declared.fault.ToolFault.{ToolFault}
use Rattle.nl_tool_texts.specs.declared.fault.ToolFault.TheVariants.{Read, Write}
use Rattle.nl_tool_texts.specs.declared.graph.NinjaGraph.{NinjaGraph}
use Rattle.nl_tool_words.specs.declared.words.Choices.{Choices}
use Rattle.nl_tool.specs.Answers.{PrintsBy, reading_by}
use Rattle.nl_tool.specs.Faults.{IsBuildFault, IsCompareFault, IsPictureFault, IsSummaryFault}
use Rattle.nl_tool.specs.Reports.{AreCounts, IsLastOf, IsLeast, IsMost, IsReportOf, IsScope, PrintsReport, laid_out, rule_of}
use Rattle.nl_tool.specs.World.{World, GivesText, IsTextOf, graph_file, states_from}
use Rattle.nl_tool.specs.declared.printing.Printing.{Printing}
use Rattle.nl_tool.specs.declared.printing.Printing.TheVariants.{Show, Check, Entries, Damage}
use Rattle.nl_tool.specs.declared.program.Verdict.{Verdict}
use Rattle.nl_tool.specs.declared.program.Verdict.TheVariants.{Found}
use Rattle.nl_tool.specs.declared.reporting.Report.{Report}
use Rattle.nl_tool.specs.declared.reporting.Report.TheVariants.{Builds, Summary, Trace, Picture}

-- nothing was printed, and one of these is why
pub record Unprinted {A : Type 0} (Causes : ToolFault → Type 0) (from to : Option (List ℕ)) (result : Result A ToolFault) : Type 0 where
  pub why : IsErrAnd result Causes
  pub stays : Keeps from to

-- two of them take a log that is missing for an empty one, and two if that is asked for
abbrev pub missing_by : Printing → Bool → Bool
missing_by Show asked = true
missing_by Check asked = true
missing_by Entries asked = asked
missing_by Damage asked = asked
missing_by printing asked = false

pub record PrintsText (w : World) (printing : Printing) (asked : Option LogVersion) (missing_ok : Bool) (path : Option (Bor (List ℕ)))
    (from to : Option (List ℕ)) (result : Result Verdict ToolFault) : Type 0 where
  pub known : Option (List ℕ)
  pub gives : GivesText w (missing_by printing missing_ok) path known
  pub prints : PrintsBy printing asked known from to result
  pub refused : RefusesLog (reading_by printing asked) known result

abbrev pub PrintsAt : World → Printing → Option LogVersion → Bool → Option (Bor (List ℕ)) → Option (List ℕ) → Option (List ℕ)
    → Result Verdict ToolFault → Type 0
PrintsAt w printing asked missing_ok path from to result =
    Unprinted (λ fault. fault ≡ Read) from to result ⊎ PrintsText w printing asked missing_ok path from to result

-- ---- `doubt`

-- the lines of the outputs that can't be trusted, by what files are; or a part of them
abbrev pub TellsDoubts : Option (List ℕ → FileState) → List ℕ → Option (List ℕ) → Option (List ℕ) → Result Verdict ToolFault → Type 0
TellsDoubts states log from to (Ok outcome) = (doubts : Doubts) × IsDoubts (damaged_by false log) log states doubts
    × Appends from to (flat_map doubt_line doubts.named.items) × ((outcome ≡ Found) ↔ (0 < length doubts.named.items))
TellsDoubts states log from to (Err Write) = (doubts : Doubts) × IsDoubts (damaged_by false log) log states doubts
    × AppendsPrefixOf from to (flat_map doubt_line doubts.named.items)
TellsDoubts states log from to (Err fault) = Keeps from to

pub record DoubtsText (w : World) (path : Option (Bor (List ℕ))) (from to : Option (List ℕ)) (result : Result Verdict ToolFault) : Type 0 where
  pub log : List ℕ
  pub is : IsTextOf w false path log
  pub tells : TellsDoubts (states_from None w.states) log from to result
  pub refused : RefusesLog (λ bs. log_of (as_five bs)) (Some log) result

abbrev pub DoubtsAt : World → Option (Bor (List ℕ)) → Option (List ℕ) → Option (List ℕ) → Result Verdict ToolFault → Type 0
DoubtsAt w path from to result = Unprinted IsLogFault from to result ⊎ DoubtsText w path from to result

-- ---- reports

pub record ReportsText (w : World) (missing_ok : Bool) (path : Option (Bor (List ℕ))) (columns : Option ℕ) (report : Report)
    (from to : Option (List ℕ)) (result : Result (Unit {0}) ToolFault) : Type 0 where
  pub log : List ℕ
  pub is : IsTextOf w missing_ok path log
  pub prints : PrintsReport columns report (IsReportOf report log) from to result
  pub refused : RefusesLog (λ bs. log_of (as_five bs)) (Some log) result

-- as a report of a log, or nothing is printed, because the log can't be read
abbrev pub ReportsAt : World → Bool → Option (Bor (List ℕ)) → Option ℕ → Report → Option (List ℕ) → Option (List ℕ) → Result (Unit {0}) ToolFault
    → Type 0
ReportsAt w missing_ok path columns report from to result =
    Unprinted IsLogFault from to result ⊎ ReportsText w missing_ok path columns report from to result

-- a clock is asked for only where a person reads
abbrev pub BuildsAt : World → Bool → Option (Bor (List ℕ)) → Option ℕ → Option (List ℕ) → Option (List ℕ) → Result (Unit {0}) ToolFault → Type 0
BuildsAt w missing_ok path columns from to result =
    (zone : Option TimeZone) × (is_some zone ≡ is_some columns) × ReportsAt w missing_ok path columns (Builds zone) from to result

-- the graph is that of the file, or of standard input
pub record IsGraphAt (w : World) (path : Bor (List ℕ)) (graph : NinjaGraph) : Type 0 where
  pub text : List ℕ
  pub is : IsTextOf w false (graph_file path) text
  pub reads : IsOfText (graph_of text) (seen_graph graph)

abbrev pub IsGraphGiven : World → Option (Bor (List ℕ)) → Option NinjaGraph → Type 0
IsGraphGiven w None None = ⊤
IsGraphGiven w (Some path) (Some graph) = IsGraphAt w path graph
IsGraphGiven w _ _ = ⊥

-- ---- `summary`

pub record AreLists (choices : Choices) (columns : Option ℕ) (lists : Lists) : Type 0 where
  pub most : IsMost choices.lines lists.most
  pub rule : lists.rule ≡ rule_of choices.kind (is_some columns)
  pub screen : lists.screen ≡ is_some columns

pub record IsByGraph (w : World) (choices : Choices) (columns : Option ℕ) (path : Bor (List ℕ)) (by : ByGraph) : Type 0 where
  pub graph : IsGraphAt w path by.graph.now
  pub counts : AreCounts choices.jobs by.counts.now
  pub most : IsMost choices.lines by.most
  pub screen : by.screen ≡ is_some columns

abbrev pub IsBySome : World → Choices → Option ℕ → Option (Bor (List ℕ)) → Option ByGraph → Type 0
IsBySome w choices columns None None = ⊤
IsBySome w choices columns (Some path) (Some by) = IsByGraph w choices columns path by
IsBySome w choices columns _ _ = ⊥

pub record Summarizes (w : World) (missing_ok : Bool) (path : Option (Bor (List ℕ))) (choices : Choices) (columns : Option ℕ)
    (from to : Option (List ℕ)) (result : Result (Unit {0}) ToolFault) : Type 0 where
  pub scope : Scope
  pub scoped : IsScope choices.all choices.build scope
  pub lists : Lists
  pub listed : AreLists choices columns lists
  pub by : Option ByGraph
  pub given : IsBySome w choices columns choices.graph by
  pub reports : ReportsAt w missing_ok path columns (Summary scope lists by) from to result

abbrev pub SummaryAt : World → Bool → Option (Bor (List ℕ)) → Choices → Option ℕ → Option WrongNumber → Option (List ℕ) → Option (List ℕ)
    → Result (Unit {0}) ToolFault → Type 0
SummaryAt w missing_ok path choices columns told from to result =
    Unprinted (IsSummaryFault choices told) from to result ⊎ Summarizes w missing_ok path choices columns from to result

-- ---- `trace`, `picture`

abbrev pub TraceAt : World → Bool → Option (Bor (List ℕ)) → Choices → Option ℕ → Option WrongNumber → Option (List ℕ) → Option (List ℕ)
    → Result (Unit {0}) ToolFault → Type 0
TraceAt w missing_ok path choices columns told from to result = Unprinted (IsBuildFault choices told) from to result
    ⊎ ((scope : Scope) × IsScope choices.all choices.build scope × ReportsAt w missing_ok path columns (Trace scope) from to result)

pub record Draws (w : World) (missing_ok : Bool) (path : Option (Bor (List ℕ))) (choices : Choices) (columns : Option ℕ)
    (from to : Option (List ℕ)) (result : Result (Unit {0}) ToolFault) : Type 0 where
  pub scope : Scope
  pub scoped : IsScope choices.all choices.build scope
  pub graph : Option (Bor NinjaGraph)
  pub given : IsGraphGiven w choices.graph (option_map (λ (g : Bor NinjaGraph). g.now) graph)
  pub reports : ReportsAt w missing_ok path columns (Picture scope graph) from to result

abbrev pub PictureAt : World → Bool → Option (Bor (List ℕ)) → Choices → Option ℕ → Option WrongNumber → Option (List ℕ) → Option (List ℕ)
    → Result (Unit {0}) ToolFault → Type 0
PictureAt w missing_ok path choices columns told from to result =
    Unprinted (IsPictureFault choices told) from to result ⊎ Draws w missing_ok path choices columns from to result

-- ---- `compare`

pub record IsSideAt (w : World) (missing_ok : Bool) (path : Bor (List ℕ)) (held : Side) : Type 0 where
  pub text : List ℕ
  pub is : IsTextOf w missing_ok (Some path) text
  pub last : IsLastOf text held

pub record Compares (w : World) (missing_ok : Bool) (old new : Bor (List ℕ)) (choices : Choices) (columns : Option ℕ)
    (from to : Option (List ℕ)) (result : Result (Unit {0}) ToolFault) : Type 0 where
  pub most : ℕ
  pub most_is : IsMost choices.lines most
  pub least : ℕ
  pub least_is : IsLeast choices.least least
  pub before : Side
  pub before_is : IsSideAt w missing_ok old before
  pub after : Side
  pub after_is : IsSideAt w missing_ok new after
  pub prints : Prints (λ text. text ≡ laid_out columns
      (compare_text (is_some columns) most least (are_comparable before.version after.version) (side_of before) (side_of after))) from to result

abbrev pub CompareAt : World → Bool → Bor (List ℕ) → Bor (List ℕ) → Choices → Option ℕ → Option WrongNumber → Option (List ℕ) → Option (List ℕ)
    → Result (Unit {0}) ToolFault → Type 0
CompareAt w missing_ok old new choices columns told from to result =
    Unprinted (IsCompareFault choices told) from to result ⊎ Compares w missing_ok old new choices columns from to result
