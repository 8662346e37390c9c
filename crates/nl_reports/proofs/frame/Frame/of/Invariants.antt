use Rattle.std.proofs.Common.{◌≡◌, ◌<◌, ◌^◌, drop, max}
use Rattle.std.specs.List.{fold}
use Rattle.nl_reports.specs.Spans.{closed_of}
use Rattle.nl_reports.specs.Frame.{last_closed}
use Rattle.nl_reports.proofs.frame.Frame.of.Given as goal

abbrev pub invariant-loop-span : goal.invariant-loop-span
invariant-loop-span l = record {
  value : fold (λ at c. max at (closed_of c)) l.last (drop l.span-index l.spans) ≡ last_closed l.spans;
  bound : l.last < 2 ^ 32;
}
