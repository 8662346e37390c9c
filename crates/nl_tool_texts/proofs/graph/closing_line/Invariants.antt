use Rattle.std.proofs.Common.{ℕ, List, [], get_or, length, map}
use Rattle.nl_tool_texts.specs.GraphText.{seen_edge}
use Rattle.nl_tool_texts.proofs.OrderLemmas.{LeadsOn}
use Rattle.nl_tool_texts.proofs.graph.closing_line.Given as goal

-- the edges so far lead from this node to where the last one begins
abbrev pub invariant-way : goal.invariant-way
invariant-way l = (ids : List (List ℕ)) → LeadsOn (map (seen_edge ids) l.edges) (get_or ids l.head []) (get_or ids l.last.from [])

abbrev pub decreases-way : goal.decreases-way
decreases-way l = length l.rest
