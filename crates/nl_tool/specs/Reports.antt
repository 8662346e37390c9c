-- What each command prints that tells of builds.
use Rattle.std.specs.Prelude.{⊤, ◌≡◌, ◌⊎◌, ◌==◌, ◌++◌, [], ◌∷◌, ℕ, zero, suc, Bool, true, false, ◌<◌, ◌^◌, pos, List, Option, None, Some, IsSome, IsSomeAnd, Result, length, map, option_map, bytes_eq, codes, if◌then◌else◌}
use Rattle.std.specs.Borrow.{Bor}
use Rattle.std.specs.Global.{Vec}
use Rattle.std.specs.List.{slice_split}
use Rattle.nl_fields.specs.Digits.{IsDecimal}
use Rattle.nl_fields.specs.declared.entry.Entry.{Entry}
use Rattle.nl_table.specs.Log.{Log, log_of}
use Rattle.nl_versions.specs.VersionOf.{as_five, version_of}
use Rattle.nl_builds.specs.Builds.{Told, builds_of}
use Rattle.nl_builds.specs.Recorded.{recorded, unfinished}
use Rattle.nl_versions.specs.Stamps.{stamps_of}
use Rattle.nl_builds.specs.declared.reading.LogBuilds.{LogBuilds}
use Rattle.nl_tool_texts.specs.Output.{Prints}
use Rattle.nl_tool_change.specs.RecordWords.{IsToldOf}
use Rattle.nl_tool_change.specs.declared.line_fault.NumberOf.{NumberOf}
use Rattle.nl_tool_change.specs.declared.line_fault.NumberOf.TheVariants.{Lines, Build, Jobs, Least}
use Rattle.nl_tool_change.specs.declared.line_fault.WrongNumber.{WrongNumber}
use Rattle.nl_tool_texts.specs.declared.fault.ToolFault.{ToolFault}
use Rattle.nl_tool_texts.specs.declared.fault.ToolFault.TheVariants.{Memory}
use Rattle.jiff_tz.specs.declared.timezone.TimeZone.{TimeZone}
use Rattle.nl_reports.specs.BuildsTable.{IsBuildsScreen}
use Rattle.nl_reports.specs.BuildsText.{builds_text}
use Rattle.nl_reports.specs.Choice.{chosen_jobs}
use Rattle.nl_tool_texts.specs.Columns.{in_columns}
use Rattle.nl_reports.specs.declared.sides.Side.{Side}
use Rattle.nl_tool_texts.specs.GraphText.{seen_graph}
use Rattle.nl_reports.specs.Jobs.{told}
use Rattle.nl_reports.specs.Lasting.{lasting}
use Rattle.nl_reports.specs.Picture.{IsPicture}
use Rattle.nl_reports.specs.Plans.{IsToldBy}
use Rattle.nl_reports.specs.Summary.{summary_text}
use Rattle.nl_reports.specs.Trace.{scoped_text}
use Rattle.nl_tool_texts.specs.Writing.{PrintsInPieces}
use Rattle.nl_reports.specs.declared.choice.Scope.{Scope}
use Rattle.nl_reports.specs.declared.choice.Scope.TheVariants.{Last, Numbered, All}
use Rattle.nl_reports.specs.declared.jobs.ByGraph.{ByGraph}
use Rattle.nl_tool_texts.specs.declared.kind.KindRule.{KindRule}
use Rattle.nl_tool_texts.specs.declared.kind.KindRule.TheVariants.{Extension, Folder, Top, Work}
use Rattle.nl_reports.specs.declared.rows.Lists.{Lists}
use Rattle.nl_tool.specs.declared.reporting.Report.{Report}
use Rattle.nl_tool.specs.declared.reporting.Report.TheVariants.{Builds, Picture, Summary, Trace}

-- ---- what is asked for

-- how many there are: so many as is given, and as usual where nothing is
abbrev pub IsCount : ℕ → Option (Bor (List ℕ)) → ℕ → Type 0
IsCount usual None n = n ≡ usual
IsCount usual (Some text) n = (n < 2 ^ 63) × IsDecimal (pos n) text.now

-- how many lines a list has at most: ten where nothing is given
abbrev pub IsMost : Option (Bor (List ℕ)) → ℕ → Type 0
IsMost lines most = IsCount 10 lines most

-- how many milliseconds a difference has at the least: none where nothing is given
abbrev pub IsLeast : Option (Bor (List ℕ)) → ℕ → Type 0
IsLeast least ms = IsCount 0 least ms

-- which build is told of: the one of a number, from 1, or the last one where none is given
abbrev pub IsBuild : Option (Bor (List ℕ)) → Scope → Type 0
IsBuild None scope = scope ≡ Last
IsBuild (Some text) (Numbered number) = (0 < number) × (number < 2 ^ 63) × IsDecimal (pos number) text.now
IsBuild (Some text) scope = ⊥

-- what is told of: all builds, or one
abbrev pub IsScope : Bool → Option (Bor (List ℕ)) → Scope → Type 0
IsScope true build scope = scope ≡ All
IsScope false build scope = IsBuild build scope

-- a number of commands at a time, from 1
abbrev pub IsPositive : List ℕ → ℕ → Type 0
IsPositive text n = (0 < n) × (n < 2 ^ 63) × IsDecimal (pos n) text

abbrev pub ArePositive : List (List ℕ) → List ℕ → Type 0
ArePositive [] [] = ⊤
ArePositive [] (n ∷ ns) = ⊥
ArePositive (text ∷ texts) [] = ⊥
ArePositive (text ∷ texts) (n ∷ ns) = IsPositive text n × ArePositive texts ns

-- of these texts the one of this number, from 1, is the first that is no such number
abbrev pub IsFirstWrong : List (List ℕ) → ℕ → Type 0
IsFirstWrong [] number = ⊥
IsFirstWrong (text ∷ texts) zero = ⊥
IsFirstWrong (text ∷ texts) (suc zero) = (n : ℕ) → IsPositive text n → ⊥
IsFirstWrong (text ∷ texts) (suc (suc m)) = ((n : ℕ) × IsPositive text n) × IsFirstWrong texts (suc m)

-- with commas between them; none where nothing is given
abbrev pub AreCounts : Option (Bor (List ℕ)) → List ℕ → Type 0
AreCounts None ns = ns ≡ []
AreCounts (Some text) ns = ArePositive (slice_split (λ b. b == 44) text.now) ns

-- ---- what is refused, and told

-- a value is no number of these
abbrev pub IsNoCount : NumberOf → ℕ → Option (Bor (List ℕ)) → Option WrongNumber → ToolFault → Type 0
IsNoCount which usual text told fault = IsToldOf which told fault × ((n : ℕ) → IsCount usual text n → ⊥)

-- one is no number of lines, or of milliseconds
abbrev pub IsNoMost : Option (Bor (List ℕ)) → Option WrongNumber → ToolFault → Type 0
IsNoMost lines told fault = IsNoCount Lines 10 lines told fault

abbrev pub IsNoLeast : Option (Bor (List ℕ)) → Option WrongNumber → ToolFault → Type 0
IsNoLeast least told fault = IsNoCount Least 0 least told fault

-- one is no number of a build
abbrev pub IsNoScope : Bool → Option (Bor (List ℕ)) → Option WrongNumber → ToolFault → Type 0
IsNoScope all build told fault = IsToldOf Build told fault × ((scope : Scope) → IsScope all build scope → ⊥)

-- memory is wanting, or one of these is no number of commands, and the first such one is told
abbrev pub IsNotPositive : List (List ℕ) → Option WrongNumber → ToolFault → Type 0
IsNotPositive texts told fault = (fault ≡ Memory)
    ⊎ (IsToldOf Jobs told fault × IsSomeAnd told (λ bad. IsSomeAnd bad.nth (IsFirstWrong texts)) × ((counts : List ℕ) → ArePositive texts counts → ⊥))

abbrev pub IsNoCounts : Option (Bor (List ℕ)) → Option WrongNumber → ToolFault → Type 0
IsNoCounts None told fault = fault ≡ Memory
IsNoCounts (Some text) told fault = IsNotPositive (slice_split (λ b. b == 44) text.now) told fault

-- the rule by which kinds are told apart, by its word
abbrev pub rule_by : List ℕ → KindRule
rule_by text = if bytes_eq text (codes "folder") then Folder else (if bytes_eq text (codes "top") then Top else (if bytes_eq text (codes "work") then Work else Extension))

-- where it is left out, what commands do at a terminal, and extensions elsewhere
abbrev pub rule_of : Option (Bor (List ℕ)) → Bool → KindRule
rule_of None screen = if screen then Work else Extension
rule_of (Some text) screen = rule_by text.now

-- ---- what is told

-- the builds that are told of: where these are all, with the last entry of each output alone that doesn't wait
abbrev pub asked_told : Scope → List (List ℕ) → Told → Told
asked_told Last names t = t
asked_told (Numbered number) names t = t
asked_told All names t = lasting names t

-- a summary of these builds, where so many outputs wait, and after it what a graph tells
abbrev pub IsSummary : Scope → Lists → Option ByGraph → ℕ → Told → List ℕ → Type 0
IsSummary scope lists None count t text = text ≡ summary_text scope lists count t
IsSummary scope lists (Some by) count t text = (told : Vec ℕ) × IsToldBy by.screen (seen_graph by.graph.now) by.most by.counts.now (chosen_jobs scope t) (Some told)
    × (text ≡ summary_text scope lists count t ++ told.items)

-- a summary, or none, where the graph isn't that of these builds
abbrev pub IsFound : Scope → Lists → Option ByGraph → ℕ → Told → Option (Vec ℕ) → Type 0
IsFound scope lists graph count t None = IsSome graph
IsFound scope lists graph count t (Some lines) = IsSummary scope lists graph count t lines.items

-- each build: in a pipe, and at a terminal by the clock of a time zone
abbrev pub AreBuilds : Option TimeZone → Told → List ℕ → Type 0
AreBuilds None t text = text ≡ builds_text t
AreBuilds (Some zone) t text = IsBuildsScreen zone t text

-- a report of builds, where outputs of these names wait for a command that didn't end
abbrev pub IsReport : Report → List (List ℕ) → Told → List ℕ → Type 0
IsReport (Builds zone) names t text = AreBuilds zone t text
IsReport (Summary scope lists graph) names t text = IsSummary scope lists graph (length names) (asked_told scope names t) text
IsReport (Trace scope) names t text = text ≡ scoped_text scope (asked_told scope names t)
IsReport (Picture scope graph) names t text = IsPicture scope (option_map (λ g. seen_graph g.now) graph) (asked_told scope names t) text

-- what a log tells, as it is held
abbrev pub waiting : LogBuilds → List (List ℕ)
waiting log = map (λ n. n.now) log.unfinished.items

-- a report of a log
pub record IsReportOf (report : Report) (bytes : List ℕ) (text : List ℕ) : Type 0 where
  pub version : ℕ
  pub entries : List Entry
  pub is_log : log_of (as_five bytes) ≡ Log version entries
  pub is_told : IsReport report (unfinished entries) (builds_of (stamps_of bytes) (recorded entries)) text

-- ---- two logs

-- what a log tells that is compared
pub record IsLastOf (bytes : List ℕ) (held : Side) : Type 0 where
  pub version : ℕ
  pub entries : List Entry
  pub is_log : log_of (as_five bytes) ≡ Log version entries
  pub named : held.version ≡ version_of bytes
  pub builds : told held.told ≡ lasting (unfinished entries) (builds_of (stamps_of bytes) (recorded entries))
  pub waits : map (λ n. n.now) held.waiting.items ≡ unfinished entries

-- ---- how it is written

abbrev pub laid_out : Option ℕ → List ℕ → List ℕ
laid_out None text = text
laid_out (Some most) text = in_columns most text

-- a text in columns where a line has so many characters at most; a trace and a picture piece by piece
abbrev pub IsLaidOut : Option ℕ → (List ℕ → Type 0) → List ℕ → Type 0
IsLaidOut columns IsText text = (lines : List ℕ) × IsText lines × (text ≡ laid_out columns lines)

abbrev pub PrintsReport : Option ℕ → Report → (List ℕ → Type 0) → Option (List ℕ) → Option (List ℕ) → Result (Unit {0}) ToolFault → Type 0
PrintsReport columns (Builds _) IsText old new result = Prints (IsLaidOut columns IsText) old new result
PrintsReport columns (Summary scope lists graph) IsText old new result = Prints (IsLaidOut columns IsText) old new result
PrintsReport columns (Trace scope) IsText old new result = PrintsInPieces IsText old new result
PrintsReport columns (Picture scope graph) IsText old new result = PrintsInPieces IsText old new result
