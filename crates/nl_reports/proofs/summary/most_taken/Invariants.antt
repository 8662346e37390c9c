use Rattle.std.proofs.Common.{◌≡◌, None, drop}
use Rattle.nl_reports.specs.Summary.{most_taken}
use Rattle.nl_reports.proofs.summary.most_taken.Given as goal

-- the most so far, and what is left
abbrev pub invariant-loop-build : goal.invariant-loop-build
invariant-loop-build l = most_taken l.most (drop l.build-index l.builds) ≡ most_taken None l.fn.builds
