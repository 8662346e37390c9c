-- Builds one after another on one clock (docs/CLI.md, "picture").
use Rattle.std.specs.Prelude.{ℕ, ◌+◌, ◌-◌, max, min, List, [], ◌∷◌, ◌++◌, map, Option, None, Some}
use Rattle.std.specs.List.{fold}
use Rattle.nl_builds.specs.Builds.{Told}
use Rattle.nl_builds.specs.declared.build.Build.{Build}
use Rattle.nl_reports.specs.Choice.{chosen}
use Rattle.nl_reports.specs.Frame.{first_began}
use Rattle.nl_tool_texts.specs.Lists.{between}
use Rattle.nl_reports.specs.Jobs.{Job, build_jobs}
use Rattle.nl_reports.specs.Rows.{by_start, spans}
use Rattle.nl_reports.specs.Spans.{closed_of}
use Rattle.nl_reports.specs.declared.choice.Choice.{Choice}
use Rattle.nl_reports.specs.declared.choice.Scope.{Scope}
use Rattle.nl_reports.specs.declared.moments.Span.{Span}

-- a moment of a build that began at one moment, on a clock on which it begins at another: the clock stops after 2^32 milliseconds
abbrev pub turned : ℕ → ℕ → ℕ → ℕ
turned began clock at = min ((at - began) + clock) 4294967295

abbrev pub turned_span : ℕ → ℕ → Span → Span
turned_span began clock s = record { began = turned began clock s.began; ended = turned began clock s.ended }

abbrev pub turned_job : ℕ → ℕ → Job → Job
turned_job began clock j = record { span = turned_span began clock j.span; hash = j.hash; outputs = j.outputs }

-- the commands of a build on it, in the order of START, and when all have ended
abbrev pub turned_jobs : ℕ → List Job → List Job
turned_jobs clock js = map (turned_job (first_began (spans js)) clock) js

abbrev pub clock_behind : ℕ → List Job → ℕ
clock_behind clock js = fold (λ at (j : Job). max at (closed_of j.span)) clock js

-- the builds from a number on: each begins as the one before it has ended
abbrev pub jobs_turned : ℕ → Told → ℕ → List Build → List Job
jobs_turned clock t number [] = []
jobs_turned clock t number (b ∷ bs) = turned_jobs clock (by_start (build_jobs t number))
    ++ jobs_turned (clock_behind clock (turned_jobs clock (by_start (build_jobs t number)))) t (number + 1) bs

abbrev pub jobs_by : Option Choice → Told → List Job
jobs_by None t = []
jobs_by (Some c) t = jobs_turned 0 t c.first (between (c.first - 1) c.last t.builds)

-- the commands of the builds that are told of, the first of which begins at 0
abbrev pub jobs_in_turn : Scope → Told → List Job
jobs_in_turn scope t = jobs_by (chosen scope t) t
