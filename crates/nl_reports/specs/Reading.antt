-- Events whose numbers JSON's readers take exactly.
use Rattle.std.specs.Prelude.{⊤, ℕ, ◌+◌, ◌-◌, ◌<◌, ◌^◌, List}
use Rattle.serde_json.specs.Data.{Data}
use Rattle.nl_builds.specs.declared.build.How.{How}
use Rattle.nl_builds.specs.declared.build.How.TheVariants.{AsWritten, FoundAgain}
use Rattle.nl_reports.specs.Events.{build_event, command_event, micros, running_event}
use Rattle.nl_reports.specs.Jobs.{Job}
use Rattle.nl_reports.specs.Spans.{time_of}
use Rattle.nl_reports.specs.Sweep.{running}
use Rattle.nl_reports.specs.declared.trace.BuildEvent.{BuildEvent}
use Rattle.nl_reports.specs.declared.moments.Span.{Span}

-- the count of outputs that later builds may have taken from a build has 64 bits
abbrev pub FewTaken : How → Type 0
FewTaken AsWritten = ⊤
FewTaken (FoundAgain taken) = taken < 2 ^ 64

-- the name of a build, a command in a lane, or how many commands run at a moment
pub data IsEvent : Data → Type 0 where
  names : (b : BuildEvent) → b.number < 2 ^ 64 → FewTaken b.how → IsEvent (build_event b)
  tells : (b : BuildEvent) (lane : ℕ) (j : Job) → b.number < 2 ^ 64 → lane + 1 < 2 ^ 64 → micros (time_of j.span) < 2 ^ 64
      → micros (j.span.began - b.began) < 2 ^ 64 → IsEvent (command_event b lane j)
  counts : (b : BuildEvent) (cs : List Span) (at : ℕ) → b.number < 2 ^ 64 → running cs at < 2 ^ 64 → micros (at - b.began) < 2 ^ 64
      → IsEvent (running_event b cs at)
