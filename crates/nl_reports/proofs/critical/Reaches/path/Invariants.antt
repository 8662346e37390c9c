use Rattle.std.proofs.Common.{◌<◌, ◌≤◌, [], ℕ, List, map}
use Rattle.nl_reports.specs.Jobs.{Job}
use Rattle.nl_reports.specs.Reaches.{AreOf, IsFarthest, far_at, ran_seen}
use Rattle.nl_reports.proofs.ReachesLemmas.{SoFar}
use Rattle.nl_reports.proofs.critical.Reaches.path.Given as goal

-- from no node so far it is farther
abbrev pub invariant-loop-node : goal.invariant-loop-node
invariant-loop-node l = record {
  under : l.start ≤ l.node;
  within : 0 < l.node → l.start < l.node;
  farthest : (k : ℕ) → k < l.node → far_at l.self k ≤ far_at l.self l.start;
}

-- the path so far
abbrev pub invariant-loop-place : goal.invariant-loop-place
invariant-loop-place l = (js : List Job) → AreOf l.self.graph.now js l.self → IsFarthest l.self l.start
    → SoFar js l.self l.start l.node [] (map ran_seen l.commands.items)
