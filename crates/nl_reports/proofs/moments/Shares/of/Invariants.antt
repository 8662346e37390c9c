use Rattle.std.proofs.Common.{length, ◌-◌, ◌+◌}
use Rattle.nl_reports.specs.SweepSteps.{IsSwept}
use Rattle.nl_reports.proofs.moments.Shares.of.Given as goal

abbrev pub invariant-events : goal.invariant-events
invariant-events l =
    IsSwept l.starts l.ends (record { sums = l.sums; at_starts = l.at_starts.items; at_ends = l.at_ends.items })

abbrev pub decreases-events : goal.decreases-events
decreases-events l = (length l.starts + length l.ends) - (length l.at_starts.items + length l.at_ends.items)
