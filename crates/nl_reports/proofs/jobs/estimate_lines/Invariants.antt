use Rattle.std.proofs.Common.{ℕ, List, drop, map}
use Rattle.nl_reports.specs.Found.{IsFound}
use Rattle.nl_tool_texts.specs.GraphText.{seen_graph}
use Rattle.nl_reports.specs.Jobs.{seen}
use Rattle.nl_reports.specs.Plans.{AreMore, heading}
use Rattle.nl_tool_texts.specs.declared.graph.NinjaGraph.{NinjaGraph}
use Rattle.nl_reports.proofs.jobs.estimate_lines.Given as goal

-- what follows these lines makes up all of them
abbrev pub invariant-loop-count : goal.invariant-loop-count
invariant-loop-count l = (g : NinjaGraph) → IsFound g (map seen l.jobs) l.found → (text : List ℕ)
    → AreMore l.by.screen (seen_graph g) (map seen l.jobs) (drop l.count-index l.by.counts.now) l.lines.items text
    → AreMore l.by.screen (seen_graph g) (map seen l.jobs) l.by.counts.now (heading l.by.screen l.by.counts.now) text
