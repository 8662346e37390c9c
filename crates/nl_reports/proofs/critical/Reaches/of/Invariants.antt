use Rattle.nl_reports.specs.Reaches.{IsOver}
use Rattle.nl_reports.proofs.critical.Reaches.of.Given as goal

-- only how far it is behind a node changes
abbrev pub invariant-loop-place : goal.invariant-loop-place
invariant-loop-place l = IsOver l.fn.graph l.fn.places l.fn.spans l.reaches
