use Rattle.std.proofs.Common.{◌≡◌, drop, map}
use Rattle.std.specs.List.{fold}
use Rattle.nl_reports.specs.Jobs.{seen}
use Rattle.nl_reports.specs.Times.{AreTimesOf, times_of, with_job}
use Rattle.nl_reports.proofs.kinds.Times.of.Given as goal

abbrev pub invariant-loop-job : goal.invariant-loop-job
invariant-loop-job l = record {
  value : fold with_job (record { by_place = l.by_place }) (map seen (drop l.job-index l.jobs)) ≡ times_of (map seen l.jobs);
  few : AreTimesOf l.job-index (record { by_place = l.by_place });
}
