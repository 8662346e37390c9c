use Rattle.std.proofs.Common.{◌≡◌, ◌+◌, false, List, drop, map}
use Rattle.nl_tool_texts.specs.GraphText.{Holds, graph_from, onto}
use Rattle.nl_tool_texts.specs.Graphs.{Edge, Node}
use Rattle.nl_tool_texts.proofs.graph.read_graph.Given as goal

-- the nodes and edges so far are held, and are behind them what the lines that follow say
abbrev pub invariant-loop-place : goal.invariant-loop-place
invariant-loop-place l = record {
  ns : List Node;
  es : List Edge;
  holds : Holds ns es l.graph.nodes.entries l.graph.edges.items;
  said : onto ns es (graph_from l.ended (l.place + 1) (drop l.place (map (λ line. line.now) l.lines.items)))
      ≡ graph_from false 1 (map (λ line. line.now) l.lines.items);
}
