-- The text of `summary` (docs/CLI.md, "summary").
use Rattle.std.specs.Prelude.{ℕ, ◌+◌, ◌-◌, ◌/◌, ◌==◌, ◌*◌, ◌^◌, ◌≤◌, max, Bool, true, false, List, [], ◌∷◌, ◌++◌, length, Option, None, Some, option_and_then, codes, decimal, if◌then◌else◌}
use Rattle.std.specs.List.{sum_by}
use Rattle.nl_builds.specs.Builds.{Told as BuildsTold}
use Rattle.nl_builds.specs.declared.build.Build.{Build}
use Rattle.nl_builds.specs.declared.build.How.{How}
use Rattle.nl_builds.specs.declared.build.How.TheVariants.{AsWritten, FoundAgain}
use Rattle.nl_reports.specs.Choice.{chosen}
use Rattle.nl_tool_texts.specs.Fraction.{ratio}
use Rattle.nl_tool_texts.specs.Lists.{between}
use Rattle.nl_reports.specs.Jobs.{build_jobs}
use Rattle.nl_reports.specs.Kinds.{kinds}
use Rattle.nl_reports.specs.Numbers.{numbers_of, spans_of}
use Rattle.nl_reports.specs.Rows.{Told, both_lists, rank_told, told_jobs}
use Rattle.nl_tool_texts.specs.Falling.{falling}
use Rattle.nl_tool_texts.specs.Texts.{joined, line, time_text}
use Rattle.nl_reports.specs.Sweep.{alone_time, busy_time, most_at_once}
use Rattle.nl_reports.specs.declared.choice.Choice.{Choice}
use Rattle.nl_reports.specs.declared.choice.Scope.{Scope}
use Rattle.nl_reports.specs.declared.choice.Scope.TheVariants.{Last, Numbered, All}
use Rattle.nl_reports.specs.declared.rows.Lists.{Lists}
use Rattle.nl_reports.specs.declared.rows.Rank.TheVariants.{Time}
use Rattle.nl_reports.specs.declared.job.Numbers.{Numbers}
use Rattle.nl_reports.specs.declared.moments.Span.{Span}
use Rattle.nl_reports.specs.declared.summary.Totals.{Totals}

-- ---- the numbers

-- the numbers of no build
abbrev pub no_totals : Totals
no_totals = record { outputs = 0; wall = 0; busy = 0; alone = 0; most = 0 }

abbrev pub with_numbers : Totals → Numbers → List Span → Totals
with_numbers t n cs = record {
  outputs = t.outputs + n.outputs;
  wall = t.wall + n.wall;
  busy = t.busy + busy_time cs;
  alone = t.alone + alone_time cs;
  most = max t.most (most_at_once cs);
}

abbrev pub with_build : Totals → BuildsTold → ℕ → Totals
with_build so_far t number = with_numbers so_far (numbers_of t number) (spans_of (build_jobs t number))

-- the numbers of builds one after another, the first with this number
abbrev pub totals_from : Totals → BuildsTold → ℕ → List Build → Totals
totals_from so_far t number [] = so_far
totals_from so_far t number (b ∷ bs) = totals_from (with_build so_far t number) t (number + 1) bs

-- no number is larger than so many builds can make it
pub record AreTotalsOf (n : ℕ) (t : Totals) : Type 0 where
  pub outputs : t.outputs ≤ n * 2 ^ 64
  pub wall : t.wall ≤ n * 2 ^ 32
  pub busy : t.busy ≤ n * 2 ^ 64
  pub alone : t.alone ≤ n * 2 ^ 64

-- their commands, each among those of its build
abbrev pub rows_from : BuildsTold → ℕ → List Build → List Told
rows_from t number [] = []
rows_from t number (b ∷ bs) = told_jobs (build_jobs t number) ++ rows_from t (number + 1) bs

-- ---- the lines

-- at a terminal: which builds are told of, by the number of the first of them and by how many there are
abbrev pub build_title : ℕ → ℕ → List ℕ
build_title number count = joined (codes "Build " ∷ decimal number ∷ codes " of " ∷ decimal count ∷ codes "\n" ∷ [])

abbrev pub title : Bool → Scope → ℕ → ℕ → List ℕ
title false scope number count = []
title true All number count = joined (codes "All " ∷ decimal count ∷ codes " builds, each output once\n" ∷ [])
title true Last number count = build_title number count
title true (Numbered asked) number count = build_title number count

abbrev pub told_lines : ℕ → ℕ → ℕ → ℕ → ℕ → ℕ → List ℕ → List ℕ
told_lines commands outputs wall total busy alone parallel = joined (codes "commands\t" ∷ decimal commands ∷ codes "\noutputs\t" ∷ decimal outputs
    ∷ codes "\nwall\t" ∷ decimal wall ∷ codes "\ntotal\t" ∷ decimal total ∷ codes "\nbusy\t" ∷ decimal busy
    ∷ codes "\nalone\t" ∷ decimal alone ∷ codes "\nparallel\t" ∷ parallel ∷ codes "\n" ∷ [])

-- commands and outputs, the milliseconds from the first START to the last END, the sum of the commands' times, the milliseconds in which one
-- command at least ran, and one alone, and how many ran at a time in the mean
abbrev pub total_of : List Told → ℕ
total_of ts = sum_by (λ (t : Told). t.sums.time) ts

-- no build takes less time, if no more of these commands run at a time: their times can't be packed closer, and the slowest takes as long as it takes
abbrev pub bound : ℕ → ℕ → ℕ → ℕ
bound most total slowest = max (total / max 1 most) slowest

abbrev pub first_of : List Told → Option Told
first_of [] = None
first_of (t ∷ ts) = Some t

abbrev pub slowest_time : Option Told → ℕ
slowest_time None = 0
slowest_time (Some t) = t.sums.time

-- at a terminal each number stands before what it is of
abbrev pub facts : Totals → ℕ → ℕ → ℕ → ℕ → List ℕ → List ℕ
facts t commands total best none parallel = joined (time_text t.wall ∷ codes "\telapsed\n" ∷ time_text total ∷ codes "\tof work\n" ∷ decimal commands
    ∷ codes "\tcommands\n" ∷ decimal t.outputs ∷ codes "\toutputs\n" ∷ parallel ∷ codes "\tat a time on average\n" ∷ decimal t.most ∷ codes "\tat a time at most\n" ∷ time_text best
    ∷ codes "\tat best with " ∷ decimal t.most ∷ codes " at a time\n" ∷ time_text t.alone ∷ codes "\twith one command alone\n"
    ∷ time_text none ∷ codes "\twith none\n" ∷ [])

abbrev pub facts_of : Totals → List Told → List ℕ
facts_of t ts = facts t (length ts) (total_of ts) (bound t.most (total_of ts) (slowest_time (first_of (falling (rank_told Time) ts))))
    (t.wall - t.busy) (ratio (total_of ts) t.wall)

abbrev pub number_lines : Bool → Totals → List Told → List ℕ
number_lines screen t told = if screen then facts_of t told else
    told_lines (length told) t.outputs t.wall (total_of told) t.busy t.alone (ratio (total_of told) t.wall)

-- the command that took the longest, by its milliseconds and its first output; at a terminal it heads the list
abbrev pub slowest_line : Bool → Option Told → List ℕ
slowest_line screen None = []
slowest_line screen (Some t) = if screen then [] else line (codes "slowest" ∷ decimal t.sums.time ∷ t.name ∷ [])

-- a number after its key, or at a terminal before words, if there is one
abbrev pub count_line : Bool → List ℕ → List ℕ → Option ℕ → List ℕ
count_line screen key words None = []
count_line screen key words (Some count) = if screen then line (decimal count ∷ words ∷ []) else line (key ∷ decimal count ∷ [])

-- how many outputs later builds may have taken at most of one of these, if one was found again
abbrev pub more_taken : Option ℕ → How → Option ℕ
more_taken most AsWritten = most
more_taken None (FoundAgain taken) = Some taken
more_taken (Some before) (FoundAgain taken) = Some (max before taken)

abbrev pub most_taken : Option ℕ → List Build → Option ℕ
most_taken most [] = most
most_taken most (b ∷ bs) = most_taken (more_taken most b.how) bs

-- for all builds nothing is lacking, because what later ones took is told of there
abbrev pub again_in : Scope → List Build → Option ℕ
again_in All bs = None
again_in Last bs = most_taken None bs
again_in (Numbered number) bs = most_taken None bs

-- how many outputs later builds may have taken at most of one of the builds that are told of
abbrev pub taken_in : Scope → BuildsTold → Option ℕ
taken_in scope t = option_and_then (λ (c : Choice). most_taken None (between (c.first - 1) c.last t.builds)) (chosen scope t)

abbrev pub again_line : Bool → Option ℕ → List ℕ
again_line screen taken = count_line screen (codes "again") (codes "outputs lost to later builds") taken

-- how many outputs wait for a command that didn't end, where one does
abbrev pub unfinished_line : Bool → ℕ → List ℕ
unfinished_line screen count = if count == 0 then [] else count_line screen (codes "unfinished") (codes "outputs have yet to be made") (Some count)

abbrev pub all_lists : Lists → ℕ → List Told → List Told → List ℕ
all_lists lists total ts ks = both_lists (record { lists = lists; of_kinds = false; total = total }) ts
    ++ both_lists (record { lists = lists; of_kinds = true; total = total }) ks

abbrev pub lists_text : Lists → List Told → List ℕ
lists_text lists ts = if lists.most == 0 then [] else all_lists lists (total_of ts) ts (kinds lists.rule ts)

-- ---- the text

-- the text of builds by their numbers and commands, and by how they are known
abbrev pub text_of : List ℕ → Lists → ℕ → Totals → List Told → Option ℕ → List ℕ
text_of head lists unfinished ts told taken = head ++ (number_lines lists.screen ts told
    ++ (slowest_line lists.screen (first_of (falling (rank_told Time) told))
    ++ (again_line lists.screen taken ++ (unfinished_line lists.screen unfinished ++ lists_text lists told))))

-- the text of builds, the first with this number; where there is none, it says only how many outputs wait
abbrev pub builds_told : Scope → Lists → ℕ → BuildsTold → ℕ → List Build → List ℕ
builds_told scope lists unfinished t number [] = unfinished_line lists.screen unfinished
builds_told scope lists unfinished t number (b ∷ bs) =
    text_of (title lists.screen scope number (length t.builds)) lists unfinished (totals_from no_totals t number (b ∷ bs)) (rows_from t number (b ∷ bs)) (again_in scope (b ∷ bs))

abbrev pub few_text : Bool → ℕ → ℕ → List ℕ
few_text screen count unfinished = count_line screen (codes "builds") (codes "builds in LOG") (Some count) ++ unfinished_line screen unfinished

-- the text of the builds that are asked for; where there are fewer than that number, it says how many there are
abbrev pub chosen_text : Scope → Option Choice → Lists → ℕ → BuildsTold → List ℕ
chosen_text scope None lists unfinished t = few_text lists.screen (length t.builds) unfinished
chosen_text scope (Some c) lists unfinished t = builds_told scope lists unfinished t c.first (between (c.first - 1) c.last t.builds)

abbrev pub summary_text : Scope → Lists → ℕ → BuildsTold → List ℕ
summary_text scope lists unfinished t = chosen_text scope (chosen scope t) lists unfinished t
