-- Which builds are told of (docs/CLI.md, "summary").
use Rattle.std.specs.Prelude.{ℕ, max, nat_lt, List, [], length, Option, None, Some, if◌then◌else◌}
use Rattle.nl_builds.specs.Builds.{Told}
use Rattle.nl_reports.specs.Jobs.{Job, jobs_between, last_number}
use Rattle.nl_reports.specs.Rows.{by_start}
use Rattle.nl_reports.specs.declared.choice.Choice.{Choice}
use Rattle.nl_reports.specs.declared.choice.Scope.{Scope}
use Rattle.nl_reports.specs.declared.choice.Scope.TheVariants.{Last, Numbered, All}

-- from one number to another, which counts from 1
abbrev pub from_to : ℕ → ℕ → Choice
from_to first last = record { first = first; last = last }

-- the builds that are told of; none where there aren't so many
abbrev pub chosen : Scope → Told → Option Choice
chosen Last t = Some (from_to (max (last_number t) 1) (last_number t))
chosen (Numbered number) t = if nat_lt (length t.builds) number then None else Some (from_to (max number 1) number)
chosen All t = Some (from_to 1 (length t.builds))

-- their commands in the order of START
abbrev pub jobs_by : Option Choice → Told → List Job
jobs_by None t = []
jobs_by (Some c) t = by_start (jobs_between t c.first c.last)

abbrev pub chosen_jobs : Scope → Told → List Job
chosen_jobs scope t = jobs_by (chosen scope t) t
