use Rattle.std.proofs.Common.{◌≡◌, ◌++◌, List}
use Rattle.nl_reports.specs.declared.moments.Span.{Span}
use Rattle.nl_reports.specs.Moments.{AreMoments}
use Rattle.nl_reports.specs.Curve.{points}
use Rattle.nl_reports.proofs.frame.append_curve.Given as goal

-- the points before this one
abbrev pub invariant-loop-i : goal.invariant-loop-i
invariant-loop-i l = (cs : List Span) → AreMoments cs l.moments → l.out.items ≡ l.initial.out.items ++ points l.frame cs l.i
