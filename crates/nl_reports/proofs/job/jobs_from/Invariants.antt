use Rattle.std.proofs.Common.{◌≡◌, ◌++◌, drop, map}
use Rattle.std.specs.List.{All}
use Rattle.nl_reports.specs.Jobs.{jobs_from, seen}
use Rattle.nl_reports.specs.Spans.{IsEarly}
use Rattle.nl_reports.proofs.job.jobs_from.Given as goal

-- the commands so far, and those of what is left
abbrev pub invariant-loop-command : goal.invariant-loop-command
invariant-loop-command l = record {
  told : map seen l.jobs.items ++ jobs_from l.fn.entries l.start (drop l.command-index l.commands) ≡ jobs_from l.fn.entries l.fn.place l.fn.commands;
  early : All (λ j. IsEarly j.span) l.jobs.items;
}
