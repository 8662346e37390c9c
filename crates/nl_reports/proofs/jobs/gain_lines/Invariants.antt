use Rattle.std.proofs.Common.{ℕ, List, drop, map}
use Rattle.nl_reports.specs.Gains.{AreGains, heading}
use Rattle.nl_tool_texts.specs.GraphText.{seen_graph}
use Rattle.nl_reports.specs.Jobs.{seen}
use Rattle.nl_reports.specs.Reaches.{ran_seen}
use Rattle.nl_tool_texts.specs.declared.graph.NinjaGraph.{NinjaGraph}
use Rattle.nl_reports.proofs.jobs.gain_lines.Given as goal
use Rattle.nl_reports.specs.Found.{IsFound}

-- what follows these lines makes up all of them
abbrev pub invariant-loop-i : goal.invariant-loop-i
invariant-loop-i l = (g : NinjaGraph) → IsFound g (map seen l.jobs) l.found → (text : List ℕ)
    → AreGains l.screen (seen_graph g) (map seen l.jobs) l.found.path.length (map ran_seen (drop l.i l.longest.items)) l.lines.items text
    → AreGains l.screen (seen_graph g) (map seen l.jobs) l.found.path.length (map ran_seen l.longest.items) (heading l.screen l.most) text
