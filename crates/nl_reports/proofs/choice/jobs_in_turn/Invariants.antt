use Rattle.std.proofs.Common.{◌≡◌, ◌+◌, ◌<◌, ◌^◌, ◌++◌, drop, map}
use Rattle.std.specs.List.{All}
use Rattle.nl_reports.specs.Jobs.{seen, told}
use Rattle.nl_reports.specs.Spans.{IsEarly}
use Rattle.nl_reports.specs.Turns.{clock_behind, jobs_turned, turned_job}
use Rattle.nl_reports.proofs.choice.jobs_in_turn.Given as goal

-- the commands so far, and those of the builds that are left
abbrev pub invariant-loop-build : goal.invariant-loop-build
invariant-loop-build l = record {
  jobs : map seen l.all.items ++ jobs_turned l.clock (told l.fn.from) l.number (drop l._build-index l.builds)
      ≡ jobs_turned 0 (told l.fn.from) l.first l.builds;
  number : l.number ≡ l.first + l._build-index;
  clock : l.clock < 2 ^ 32;
  early : All (λ j. IsEarly j.span) l.all.items;
}

-- the commands of this build so far, and those that are left
abbrev pub invariant-loop-job : goal.invariant-loop-job
invariant-loop-job l = record {
  jobs : map seen l.all.items ++ map (turned_job l.began l.start) (map seen (drop l.job-index l.jobs))
      ≡ map seen l.initial.all.items ++ map (turned_job l.began l.start) (map seen l.jobs);
  clock : clock_behind l.clock (map (turned_job l.began l.start) (map seen (drop l.job-index l.jobs)))
      ≡ clock_behind l.start (map (turned_job l.began l.start) (map seen l.jobs));
  bound : l.clock < 2 ^ 32;
  early : All (λ j. IsEarly j.span) l.all.items;
}
