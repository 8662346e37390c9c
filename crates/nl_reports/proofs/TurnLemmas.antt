-- Builds one after another on one clock.
use Rattle.std.proofs.Common.{◌≡◌, ◌∙◌, ◌+◌, ◌-◌, ◌<◌, ◌++◌, [], ◌∷◌, List, ℕ, Option, None, Some, ap, append_assoc, arith, drop, get_or, length, map, max, sym}
use Rattle.std.specs.List.{All}
use Rattle.std.proofs.lemmas.List.{at_drop_more, map-append}
use Rattle.std.proofs.lemmas.List.Elements.{All-append, All-map, All-nil}
use Rattle.nl_builds.specs.Builds.{Told}
use Rattle.nl_builds.specs.declared.build.Build.{Build}
use Rattle.nl_reports.specs.Choice.{chosen}
use Rattle.nl_reports.specs.Frame.{first_began}
use Rattle.nl_tool_texts.specs.Lists.{between}
use Rattle.nl_reports.specs.Jobs.{Job, build_jobs, seen}
use Rattle.nl_reports.specs.Rows.{by_start, spans}
use Rattle.nl_reports.specs.Spans.{IsEarly, closed_of}
use Rattle.nl_reports.specs.Turns.{clock_behind, jobs_by, jobs_in_turn, jobs_turned, turned_job, turned_jobs}
use Rattle.nl_reports.specs.declared.choice.Choice.{Choice}
use Rattle.nl_reports.specs.declared.choice.Scope.{Scope}
use Rattle.nl_reports.specs.declared.job.Job.{Job as Held}

abbrev pub Early : Job → Type 0
Early j = IsEarly j.span

-- no moment of the clock is late
turned_early : (clock : ℕ) (js : List Job) → All Early (turned_jobs clock js)
turned_early clock js =
    All-map Early (turned_job (first_began (spans js)) clock) js (λ k d within. record { began = omega arith; ended = omega arith })

builds_early : (clock : ℕ) (t : Told) (number : ℕ) (bs : List Build) → All Early (jobs_turned clock t number bs)
builds_early clock t number [] = All-nil Early
builds_early clock t number (b ∷ bs) =
    let js = turned_jobs clock (by_start (build_jobs t number)) in
    All-append Early js (jobs_turned (clock_behind clock js) t (number + 1) bs) (turned_early clock (by_start (build_jobs t number)))
    (builds_early (clock_behind clock js) t (number + 1) bs)

pub in_turn_early : (scope : Scope) (t : Told) → All Early (jobs_in_turn scope t)
in_turn_early scope t = by (chosen scope t)
  where
    by : (o : Option Choice) → All Early (jobs_by o t)
    by None = All-nil Early
    by (Some c) = builds_early 0 t c.first (between (c.first - 1) c.last t.builds)

-- one more command is on the clock
pub job_more : (began clock : ℕ) (jobs all now : List Held) (i : ℕ) (j moved : Held) (whole : List Job) → i < length jobs → j ≡ get_or jobs i j
    → now ≡ all ++ moved ∷ [] → seen moved ≡ turned_job began clock (seen j)
    → map seen all ++ map (turned_job began clock) (map seen (drop i jobs)) ≡ whole
    → map seen now ++ map (turned_job began clock) (map seen (drop (i + 1) jobs)) ≡ whole
job_more began clock jobs all now i j moved whole within at is same so_far =
    let rest = map (turned_job began clock) (map seen (drop (i + 1) jobs)) in
    ap (λ (l : List Held). map seen l ++ rest) is
    ∙ ap (λ (l : List Job). l ++ rest) (map-append seen all (moved ∷ []))
    ∙ append_assoc (map seen all) (seen moved ∷ []) rest
    ∙ ap (λ (x : Job). map seen all ++ x ∷ rest) same
    ∙ ap (λ (x : Held). map seen all ++ turned_job began clock (seen x) ∷ rest) at
    ∙ sym (at_drop_more (λ (l : List Held). map seen all ++ map (turned_job began clock) (map seen l)) jobs i j within)
    ∙ so_far

pub clock_more : (began clock last now : ℕ) (jobs : List Held) (i : ℕ) (j : Held) (whole : ℕ) → i < length jobs → j ≡ get_or jobs i j
    → now ≡ max last (closed_of (turned_job began clock (seen j)).span)
    → clock_behind last (map (turned_job began clock) (map seen (drop i jobs))) ≡ whole
    → clock_behind now (map (turned_job began clock) (map seen (drop (i + 1) jobs))) ≡ whole
clock_more began clock last now jobs i j whole within at is so_far =
    let rest = map (turned_job began clock) (map seen (drop (i + 1) jobs)) in
    ap (λ (n : ℕ). clock_behind n rest) is
    ∙ ap (λ (x : Held). clock_behind last (turned_job began clock (seen x) ∷ rest)) at
    ∙ sym (at_drop_more (λ (l : List Held). clock_behind last (map (turned_job began clock) (map seen l))) jobs i j within)
    ∙ so_far
