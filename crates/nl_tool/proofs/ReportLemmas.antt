-- A text that is told of builds, laid out, or written piece by piece.
use Rattle.std.proofs.Common.{◌≡◌, ◌⊎◌, ◌++◌, List, ℕ, Option, None, Some, Result, Ok, Err, inl, inr, refl, sym, subst, ap, ◌∙◌}
use Rattle.std.specs.Prelude.{IfErr, IsSome, length, option_map}
use Rattle.std.specs.Borrow.{Bor}
use Rattle.std.specs.Global.{Vec}
use Rattle.std.specs.Io.KnownBytes.{Keeps}
use Rattle.nl_table.specs.Log.{LogReading}
use Rattle.nl_table.specs.declared.loader.LoadFault.{LoadFault}
use Rattle.nl_table.specs.declared.loader.LoadFault.TheVariants as load
use Rattle.nl_builds.specs.Builds.{IsTold, Told}
use Rattle.nl_builds.specs.declared.build.Build.{Build}
use Rattle.nl_builds.specs.declared.build.Builds.{Builds as Held}
use Rattle.nl_builds.specs.declared.command.Command.{Command}
use Rattle.nl_fields.specs.declared.entry.Entry.{Entry}
use Rattle.nl_tool_print.specs.Faults.{IsLogFault}
use Rattle.nl_tool_print.proofs.VersionLemmas.{prints_as}
use Rattle.nl_tool_texts.specs.Faults.{of_load_fault}
use Rattle.nl_tool_texts.specs.Output.{Prints}
use Rattle.nl_tool_texts.specs.declared.fault.ToolFault.{ToolFault}
use Rattle.nl_tool_texts.specs.declared.fault.ToolFault.TheVariants.{NotALog as NoLog, OtherVersion as Other, Read, Memory, Write, Folder, NegativeTime, BadNumber, EmptyName, BadByte, LongName, BadLine, OtherGraph, Elsewhere}
use Rattle.nl_reports.specs.Choice.{chosen_jobs}
use Rattle.nl_tool_texts.specs.GraphText.{seen_graph}
use Rattle.nl_reports.specs.Jobs.{Job, told}
use Rattle.nl_reports.specs.Summary.{summary_text}
use Rattle.nl_reports.specs.declared.choice.Scope.{Scope}
use Rattle.nl_reports.specs.declared.jobs.ByGraph.{ByGraph}
use Rattle.nl_reports.specs.Plans.{IsToldBy}
use Rattle.nl_reports.specs.declared.rows.Lists.{Lists}
use Rattle.nl_reports.specs.Picture.{IsPicture}
use Rattle.nl_reports.specs.Trace.{scoped_text}
use Rattle.nl_tool_texts.specs.Writing.{IsFoundFault, IsWriteFault, PrintsInPieces, Writes}
use Rattle.nl_tool_texts.specs.declared.graph.NinjaGraph.{NinjaGraph}
use Rattle.nl_tool_texts.proofs.WritingLemmas.{pieces_of}
use Rattle.nl_tool_print.specs.Faults.{RefusesLog}
use Rattle.nl_tool.specs.Faults.{IsGraphFault, IsPathFault, IsReportFault, IsToldFault}
use Rattle.nl_tool.specs.Reports.{asked_told, IsLaidOut, IsReport, IsSummary, PrintsReport, laid_out}
use Rattle.nl_tool.specs.declared.reporting.Report.{Report}
use Rattle.nl_tool.specs.declared.reporting.Report.TheVariants.{Builds, Picture, Summary, Trace}

-- what is written of one kind is of another, where each text of the one is
pieces_as : (P Q : List ℕ → Type 0) → ((text : List ℕ) → P text → Q text) → (old new : Option (List ℕ)) (r : Result (Unit {0}) ToolFault)
    → PrintsInPieces P old new r → PrintsInPieces Q old new r
pieces_as P Q is old new (Ok done) w = prints_as P Q is old new (Ok done) w
pieces_as P Q is old new (Err Memory) (inl kept) = inl kept
pieces_as P Q is old new (Err Memory) (inr w) = inr (w.0, is w.0 w.1, w.2)
pieces_as P Q is old new (Err Write) w = prints_as P Q is old new (Err Write) w
pieces_as P Q is old new (Err NoLog) w = w
pieces_as P Q is old new (Err Other) w = w
pieces_as P Q is old new (Err Read) w = w
pieces_as P Q is old new (Err Folder) w = w
pieces_as P Q is old new (Err (NegativeTime index)) w = w
pieces_as P Q is old new (Err BadNumber) w = w
pieces_as P Q is old new (Err EmptyName) w = w
pieces_as P Q is old new (Err (BadByte at)) w = w
pieces_as P Q is old new (Err LongName) w = w
pieces_as P Q is old new (Err (BadLine number)) w = w
pieces_as P Q is old new (Err OtherGraph) w = w
pieces_as P Q is old new (Err Elsewhere) w = w

laid_as : (columns : Option ℕ) (P Q : List ℕ → Type 0) → ((text : List ℕ) → P text → Q text) → (text : List ℕ) → IsLaidOut columns P text
    → IsLaidOut columns Q text
laid_as columns P Q is text laid = (laid.0, is laid.0 laid.1, laid.2)

pub report_as : (columns : Option ℕ) (report : Report) (P Q : List ℕ → Type 0) → ((text : List ℕ) → P text → Q text) → (old new : Option (List ℕ))
    (r : Result (Unit {0}) ToolFault) → PrintsReport columns report P old new r → PrintsReport columns report Q old new r
report_as columns (Builds _) P Q is old new r w = prints_as (IsLaidOut columns P) (IsLaidOut columns Q) (laid_as columns P Q is) old new r w
report_as columns (Summary scope lists graph) P Q is old new r w =
    prints_as (IsLaidOut columns P) (IsLaidOut columns Q) (laid_as columns P Q is) old new r w
report_as columns (Trace scope) P Q is old new r w = pieces_as P Q is old new r w
report_as columns (Picture scope graph) P Q is old new r w = pieces_as P Q is old new r w

-- a text in columns where they are wanted
pub laid_of : (columns : Option ℕ) (IsText : List ℕ → Type 0) (lines : List ℕ) → IsText lines → (old new : Option (List ℕ))
    (r : Result (Unit {0}) ToolFault) → Prints (λ text. text ≡ laid_out columns lines) old new r → Prints (IsLaidOut columns IsText) old new r
laid_of columns IsText lines is old new r w =
    prints_as (λ text. text ≡ laid_out columns lines) (IsLaidOut columns IsText) (λ text laid. (lines, is, laid)) old new r w

-- nothing is written where a log isn't read
not_printed : (IsText : List ℕ → Type 0) (old new : Option (List ℕ)) (e : LoadFault) → Keeps old new → Prints IsText old new (Err (of_load_fault e))
not_printed IsText old new load.NotALog kept = kept
not_printed IsText old new load.OtherVersion kept = kept
not_printed IsText old new load.Read kept = kept
not_printed IsText old new load.OutOfMemory kept = kept

not_in_pieces : (IsText : List ℕ → Type 0) (old new : Option (List ℕ)) (e : LoadFault) → Keeps old new
    → PrintsInPieces IsText old new (Err (of_load_fault e))
not_in_pieces IsText old new load.NotALog kept = kept
not_in_pieces IsText old new load.OtherVersion kept = kept
not_in_pieces IsText old new load.Read kept = kept
not_in_pieces IsText old new load.OutOfMemory kept = inl kept

pub not_read : (columns : Option ℕ) (report : Report) (IsText : List ℕ → Type 0) (old new : Option (List ℕ)) (e : LoadFault) → Keeps old new
    → PrintsReport columns report IsText old new (Err (of_load_fault e))
not_read columns (Builds _) IsText old new e kept = not_printed (IsLaidOut columns IsText) old new e kept
not_read columns (Summary scope lists graph) IsText old new e kept = not_printed (IsLaidOut columns IsText) old new e kept
not_read columns (Trace scope) IsText old new e kept = not_in_pieces IsText old new e kept
not_read columns (Picture scope graph) IsText old new e kept = not_in_pieces IsText old new e kept

-- ---- which faults

pub as_log : (fault : ToolFault) → IsWriteFault fault → IsLogFault fault
as_log Memory h = tt
as_log Write h = tt
as_log NoLog h = absurd h
as_log Other h = absurd h
as_log Read h = absurd h
as_log Folder h = absurd h
as_log (NegativeTime index) h = absurd h
as_log BadNumber h = absurd h
as_log EmptyName h = absurd h
as_log (BadByte at) h = absurd h
as_log LongName h = absurd h
as_log (BadLine number) h = absurd h
as_log OtherGraph h = absurd h
as_log Elsewhere h = absurd h

pub as_log_by : {A : Type 0} (r : Result A ToolFault) → IfErr r IsWriteFault → IfErr r IsLogFault
as_log_by (Ok x) h = tt
as_log_by (Err fault) h = as_log fault h

found : {G : Type 0} (g : Option G) (fault : ToolFault) → IsWriteFault fault → IsFoundFault g fault
found None fault h = h
found (Some g) fault h = inl h

pub found_by : {A G : Type 0} (g : Option G) (r : Result A ToolFault) → IfErr r IsWriteFault → IfErr r (IsFoundFault g)
found_by g (Ok x) h = tt
found_by g (Err fault) h = found g fault h

pub other_found : {G : Type 0} (g : Option G) → IsSome g → IsFoundFault g OtherGraph
other_found None there = absurd (cc)
other_found (Some g) there = inr refl

told_fault : (report : Report) (fault : ToolFault) → IsWriteFault fault → IsToldFault report fault
told_fault (Builds _) fault h = h
told_fault (Summary scope lists graph) fault h = found graph fault h
told_fault (Trace scope) fault h = h
told_fault (Picture scope graph) fault h = found graph fault h

pub told_fault_by : {A : Type 0} (report : Report) (r : Result A ToolFault) → IfErr r IsWriteFault → IfErr r (IsToldFault report)
told_fault_by report (Ok x) h = tt
told_fault_by report (Err fault) h = told_fault report fault h

pub read_fault_by : {A : Type 0} (report : Report) (r : Result A ToolFault) → IfErr r IsLogFault → IfErr r (IsReportFault report)
read_fault_by report (Ok x) h = tt
read_fault_by report (Err fault) h = inl h

pub report_fault_by : {A : Type 0} (report : Report) (r : Result A ToolFault) → IfErr r (IsToldFault report) → IfErr r (IsReportFault report)
report_fault_by report (Ok x) h = tt
report_fault_by report (Err fault) h = inr h

path_fault : (fault : ToolFault) → IsLogFault fault ⊎ (IsWriteFault fault ⊎ (fault ≡ OtherGraph)) → IsPathFault fault
path_fault fault (inl h) = inl h
path_fault fault (inr (inl h)) = inl (as_log fault h)
path_fault fault (inr (inr h)) = inr (subst IsGraphFault (sym h) tt)

pub path_fault_by : {A : Type 0} (r : Result A ToolFault) → IfErr r (λ f. IsLogFault f ⊎ (IsWriteFault f ⊎ (f ≡ OtherGraph))) → IfErr r IsPathFault
path_fault_by (Ok x) h = tt
path_fault_by (Err fault) h = path_fault fault h

-- of what was read nothing is refused for its bytes any more
no_log_told : (report : Report) → IsToldFault report NoLog → ⊥
no_log_told (Builds _) h = h
no_log_told (Summary scope lists None) h = h
no_log_told (Summary scope lists (Some g)) (inl h) = h
no_log_told (Summary scope lists (Some g)) (inr h) = absurd (cc)
no_log_told (Trace scope) h = h
no_log_told (Picture scope None) h = h
no_log_told (Picture scope (Some g)) (inl h) = h
no_log_told (Picture scope (Some g)) (inr h) = absurd (cc)

no_version_told : (report : Report) → IsToldFault report Other → ⊥
no_version_told (Builds _) h = h
no_version_told (Summary scope lists None) h = h
no_version_told (Summary scope lists (Some g)) (inl h) = h
no_version_told (Summary scope lists (Some g)) (inr h) = absurd (cc)
no_version_told (Trace scope) h = h
no_version_told (Picture scope None) h = h
no_version_told (Picture scope (Some g)) (inl h) = h
no_version_told (Picture scope (Some g)) (inr h) = absurd (cc)

abbrev IsErrFault : Report → Result (Unit {0}) ToolFault → Type 0
IsErrFault report r = IfErr r (IsToldFault report)

pub not_refused : (report : Report) (reading : List ℕ → LogReading) (known : Option (List ℕ)) (r : Result (Unit {0}) ToolFault)
    → IfErr r (IsToldFault report) → RefusesLog reading known r
not_refused report reading known (Ok x) h = record { not_a_log = λ is. absurd (cc is); other_version = λ is. absurd (cc is) }
not_refused report reading known (Err fault) h = record {
  not_a_log = λ is. absurd (no_log_told report (subst (IsErrFault report) is h));
  other_version = λ is. absurd (no_version_told report (subst (IsErrFault report) is h));
}

-- ---- what is told

pub summary_plain : (scope : Scope) (lists : Lists) (g : Option ByGraph) (count : ℕ) (t : Told) (text : List ℕ)
    → ((x : ByGraph) → g ≡ Some x → ⊥) → text ≡ summary_text scope lists count t → IsSummary scope lists g count t text
summary_plain scope lists None count t text none is = is
summary_plain scope lists (Some x) count t text none is = absurd (none x refl)

pub summary_by : (scope : Scope) (lists : Lists) (g : Option ByGraph) (by : ByGraph) (count : ℕ) (t : Told) (js : List Job)
    (found : Option (Vec ℕ)) (more : Vec ℕ) (lines text : List ℕ) → g ≡ Some by → IsToldBy by.screen (seen_graph by.graph.now) by.most by.counts.now js found
    → found ≡ Some more → js ≡ chosen_jobs scope t → lines ≡ summary_text scope lists count t → text ≡ lines ++ more.items
    → IsSummary scope lists g count t text
summary_by scope lists g by count t js found more lines text given told is jobs summed whole =
    let by_graph : IsToldBy by.screen (seen_graph by.graph.now) by.most by.counts.now js (Some more) = subst (IsToldBy by.screen (seen_graph by.graph.now) by.most by.counts.now js) is told in
    let by_jobs = subst (λ js. IsToldBy by.screen (seen_graph by.graph.now) by.most by.counts.now js (Some more)) jobs by_graph in
    subst (λ g. IsSummary scope lists g count t text) (sym given) (more, by_jobs, whole ∙ ap (λ (l : List ℕ). l ++ more.items) summed)

-- what is held is what was told
told_by : (es : List Entry) (cs : List Command) (bs : List Build) (t : Told) → es ≡ t.entries → cs ≡ t.commands → bs ≡ t.builds
    → t ≡ record { entries = es; commands = cs; builds = bs }
told_by es cs bs t a b c = rw a (rw b (rw c refl))

pub told_is : (held : Held) (t : Told) → IsTold t held.entries.items held.commands.items held.builds.items → told held ≡ t
told_is held t is = sym (told_by held.entries.items held.commands.items held.builds.items t is.0 is.1 is.2)

pub report_of : (report : Report) (names more : List (List ℕ)) (t u : Told) (text : List ℕ) → names ≡ more → t ≡ u → IsReport report names t text
    → IsReport report more u text
report_of report names more t u text same told is =
    subst (λ u. IsReport report more u text) told (subst (λ names. IsReport report names t text) same is)

pub printed_so : (columns : Option ℕ) (lines text : List ℕ) (old new : Option (List ℕ)) (r : Result (Unit {0}) ToolFault) → lines ≡ text
    → Prints (λ out. out ≡ laid_out columns lines) old new r → Prints (λ out. out ≡ laid_out columns text) old new r
printed_so columns lines text old new r is printed = subst (λ l. Prints (λ out. out ≡ laid_out columns l) old new r) is printed

pub summary_told : (columns : Option ℕ) (report : Report) (scope : Scope) (lists : Lists) (graph : Option ByGraph)
    → report ≡ Summary scope lists graph → (names : List (List ℕ)) (t asked : Told) (count : ℕ) (old new : Option (List ℕ))
    (r : Result (Unit {0}) ToolFault) → asked ≡ asked_told scope names t → count ≡ length names
    → Prints (IsLaidOut columns (IsSummary scope lists graph count asked)) old new r
    → PrintsReport columns report (IsReport report names t) old new r
summary_told columns report scope lists graph is names t asked count old new r same counted printed =
    let one = subst (λ a. Prints (IsLaidOut columns (IsSummary scope lists graph count a)) old new r) same printed in
    let two = subst (λ n. Prints (IsLaidOut columns (IsSummary scope lists graph n (asked_told scope names t))) old new r) counted one in
    subst (λ p. PrintsReport columns p (IsReport p names t) old new r) (sym is) two

pub trace_told : (columns : Option ℕ) (report : Report) (scope : Scope) → report ≡ Trace scope → (names : List (List ℕ)) (t asked : Told)
    (old new : Option (List ℕ)) (r : Result (Unit {0}) ToolFault) → asked ≡ asked_told scope names t → Writes old new (scoped_text scope asked) r
    → IfErr r IsWriteFault → PrintsReport columns report (IsReport report names t) old new r
trace_told columns report scope is names t asked old new r same writes faults =
    subst (λ p. PrintsReport columns p (IsReport p names t) old new r) (sym is)
    (pieces_of (IsReport (Trace scope) names t) (scoped_text scope asked) (ap (scoped_text scope) same) old new r writes faults)

pub picture_told : (columns : Option ℕ) (report : Report) (scope : Scope) (graph : Option (Bor NinjaGraph)) → report ≡ Picture scope graph
    → (names : List (List ℕ)) (t asked : Told) (old new : Option (List ℕ)) (r : Result (Unit {0}) ToolFault) → asked ≡ asked_told scope names t
    → PrintsInPieces (IsPicture scope (option_map (λ g. seen_graph g.now) graph) asked) old new r
    → PrintsReport columns report (IsReport report names t) old new r
picture_told columns report scope graph is names t asked old new r same printed =
    subst (λ p. PrintsReport columns p (IsReport p names t) old new r) (sym is)
    (subst (λ a. PrintsInPieces (IsPicture scope (option_map (λ g. seen_graph g.now) graph) a) old new r) same printed)
