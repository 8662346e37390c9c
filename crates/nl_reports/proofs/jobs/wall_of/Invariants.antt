use Rattle.std.proofs.Common.{◌≡◌, ◌+◌, ◌<◌, ◌≤◌, ℕ, get_or, length, map, take}
use Rattle.nl_reports.specs.Spans.{time_of}
use Rattle.nl_reports.specs.declared.job.Job.{Job}
use Rattle.nl_reports.proofs.jobs.wall_of.Given as goal

-- each takes as long as it takes
abbrev pub invariant-loop-place : goal.invariant-loop-place
invariant-loop-place l = map time_of l.spans.items ≡ map (λ (j : Job). time_of j.span) (take l.place l.jobs)

-- each so far ends before that begins
abbrev pub invariant-loop-end : goal.invariant-loop-end
invariant-loop-end l = (k : ℕ) → k < l.end → k + l.count < length l.starts.items → get_or l.ends.items k 0 ≤ get_or l.starts.items (k + l.count) 0
