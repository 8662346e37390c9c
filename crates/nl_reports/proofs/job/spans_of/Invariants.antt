use Rattle.std.proofs.Common.{◌≡◌, ◌++◌, drop, map}
use Rattle.std.specs.List.{All}
use Rattle.nl_reports.specs.Jobs.{seen}
use Rattle.nl_reports.specs.Numbers.{spans_of}
use Rattle.nl_reports.specs.Spans.{IsEarly}
use Rattle.nl_reports.proofs.job.spans_of.Given as goal

-- when those so far ran, and when those that are left did
abbrev pub invariant-loop-job : goal.invariant-loop-job
invariant-loop-job l = record {
  told : l.spans.items ++ spans_of (map seen (drop l.job-index l.jobs)) ≡ spans_of (map seen l.fn.jobs);
  early : All (λ j. IsEarly j.span) l.fn.jobs → All IsEarly l.spans.items;
}
