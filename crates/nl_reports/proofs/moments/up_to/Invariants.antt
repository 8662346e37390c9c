use Rattle.std.proofs.Common.{◌≤◌, length}
use Rattle.nl_reports.proofs.moments.up_to.Given as goal

abbrev pub invariant-loop : goal.invariant-loop
invariant-loop l = l.place ≤ length l.moments
