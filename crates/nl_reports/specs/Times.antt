-- How long commands took by what they do.
use Rattle.std.specs.Prelude.{◌≡◌, ◌≤◌, ℕ, ◌+◌, ◌*◌, ◌/◌, ◌^◌, max, List, [], ◌∷◌, length, set, slice_index}
use Rattle.std.specs.List.{fold}
use Rattle.nl_reports.specs.Jobs.{Job, first_name}
use Rattle.nl_reports.specs.Spans.{time_of}
use Rattle.nl_tool_texts.specs.Work.{place, work_of}
use Rattle.nl_reports.specs.declared.kinds.Times.{Times}
use Rattle.nl_tool_texts.specs.declared.kind.Work.{Work}
use Rattle.nl_tool_texts.specs.declared.kind.Work.TheVariants.{Compile, Link, Archive, Generate, Test, Other}

-- by the place of what they do
abbrev pub no_times : Times
no_times = record { by_place = 0 ∷ 0 ∷ 0 ∷ 0 ∷ 0 ∷ 0 ∷ [] }

abbrev pub time_in : Times → Work → ℕ
time_in t w = slice_index t.by_place (place w)

abbrev pub with_time : Times → Work → ℕ → Times
with_time t w ms = record { by_place = set t.by_place (place w) (time_in t w + ms) }

abbrev pub job_work : Job → Work
job_work j = work_of (first_name j.outputs)

abbrev pub with_job : Times → Job → Times
with_job t j = with_time t (job_work j) (time_of j.span)

abbrev pub times_of : List Job → Times
times_of js = fold with_job no_times js

abbrev pub total : Times → ℕ
total t = time_in t Compile + time_in t Link + time_in t Archive + time_in t Generate + time_in t Test + time_in t Other

-- in parts of a hundred, rounded down
abbrev pub share_of : Times → Work → ℕ
share_of t w = time_in t w * 100 / max 1 (total t)

-- of each kind, and no longer than `n` commands can take
pub record AreTimesOf (n : ℕ) (t : Times) : Type 0 where
  pub all : length t.by_place ≡ 6
  pub few : (k : ℕ) → slice_index t.by_place k ≤ n * 2 ^ 32
