-- The numbers of builds (docs/CLI.md, "builds").
use Rattle.std.specs.Prelude.{ℕ, ◌-◌, ◌<◌, ◌^◌, min, max, List, length}
use Rattle.std.specs.List.{fold, sum_by}
use Rattle.nl_builds.specs.Builds.{Told}
use Rattle.nl_reports.specs.Jobs.{Job, build_jobs, commands_to, entries_to}
use Rattle.nl_reports.specs.Rows.{spans}
use Rattle.nl_reports.specs.Spans.{time_of}
use Rattle.nl_reports.specs.declared.job.Numbers.{Numbers}
use Rattle.nl_reports.specs.declared.moments.Span.{Span}

abbrev pub spans_of : List Job → List Span
spans_of js = spans js

-- every moment is below 2 ^ 32
abbrev pub first_start : List Job → ℕ
first_start js = fold (λ at (j : Job). min at j.span.began) (2 ^ 32) js

abbrev pub last_end : List Job → ℕ
last_end js = fold (λ at (j : Job). max at j.span.ended) 0 js

abbrev pub total_time : List Job → ℕ
total_time js = sum_by (λ (j : Job). time_of j.span) js

abbrev pub count_outputs : Told → ℕ → ℕ
count_outputs t number =
    entries_to (commands_to number t.builds) t.commands - entries_to (commands_to (number - 1) t.builds) t.commands

-- the wall time goes from the first START to the last END
abbrev pub numbers_by : ℕ → List Job → Numbers
numbers_by outputs js = record {
  commands = length js;
  outputs = outputs;
  wall = last_end js - first_start js;
  total = total_time js;
}

abbrev pub numbers_of : Told → ℕ → Numbers
numbers_of t number = numbers_by (count_outputs t number) (build_jobs t number)

-- the numbers are those of commands that fit in memory
pub record IsSmall (n : Numbers) : Type 0 where
  pub commands : n.commands < 2 ^ 63
  pub outputs : n.outputs < 2 ^ 64
  pub wall : n.wall < 2 ^ 32
  pub total : n.total < 2 ^ 96
