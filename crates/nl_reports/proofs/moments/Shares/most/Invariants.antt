use Rattle.std.proofs.Common.{◌≡◌, List, drop, max}
use Rattle.std.specs.List.{fold}
use Rattle.nl_reports.specs.Shares.{AreSharesOf}
use Rattle.nl_reports.specs.Sweep.{running}
use Rattle.nl_reports.specs.declared.moments.Span.{Span}
use Rattle.nl_reports.proofs.moments.Shares.most.Given as goal

-- the most so far, and what is left
abbrev pub invariant-loop-at : goal.invariant-loop-at
invariant-loop-at l = (cs : List Span) → AreSharesOf cs l.self
    → fold (λ most t. max most (running cs t)) l.most (drop l.at-index l.self.moments.starts.items)
    ≡ fold (λ most t. max most (running cs t)) 0 l.self.moments.starts.items
