use Rattle.std.proofs.Common.{◌∙◌, ◌++◌, ◌∷◌, [], List, subst, sym}
use Rattle.nl_tool_texts.specs.GraphLine.{line_seen}
use Rattle.nl_tool_texts.specs.GraphText.{Holds, edges_said, nodes_said}
use Rattle.nl_tool_texts.specs.declared.graph.Edge.{Edge as HeldEdge}
use Rattle.nl_tool_texts.specs.declared.graph_line.Line.{Line}
use Rattle.nl_tool_texts.proofs.GraphLemmas.{holds_joined, holds_named}
use Rattle.nl_tool_texts.proofs.graph.NinjaGraph.take.Goals as goal

pub returns-in_ok-insert-in-Labelled : goal.returns-in_ok-insert-in-Labelled
returns-in_ok-insert-in-Labelled c = record {
  ok = λ ns es holds.
      let hs = c.args.self.now.edges.items in
      let new = c.insert.new.self.entries in
      let n = c.args.line in
      let P : Line → Type 0 = λ said. Holds (ns ++ nodes_said (line_seen said)) (es ++ edges_said n (line_seen said)) new hs in
      subst P (sym c.in-Labelled.is) (holds_named ns es c.args.self.now.nodes.entries new hs holds c.in-Labelled.id c.in-Labelled.name
      c.in_ok-insert-in-Labelled.ensures.entries c.in_ok-insert-in-Labelled.ensures.updates.0);
}

pub returns-in_ok-push-in-Joined : goal.returns-in_ok-push-in-Joined
returns-in_ok-push-in-Joined c = record {
  ok = λ ns es holds.
      let first = c.in_ok-from-in-Joined.ensures.place in
      let second = c.in_ok-to-in-Joined.ensures.place in
      let kept = second.kept c.in_ok-from-in-Joined.from first.within in
      let n = c.args.line in
      let e : HeldEdge = record { from = c.in_ok-from-in-Joined.from; to = c.in_ok-to-in-Joined.to; line = n } in
      let new = c.place_of-in-Joined.new.self in
      let held = c.in_ok-to-in-Joined.ensures.holds ns es (c.in_ok-from-in-Joined.ensures.holds ns es holds) in
      let P : Line → Type 0 =
      λ said. Holds (ns ++ nodes_said (line_seen said)) (es ++ edges_said n (line_seen said)) new.nodes.entries c.push.new.self.items in
      let Q : List HeldEdge → Type 0 =
      λ l. Holds (ns ++ []) (es ++ record { from = c.in-Joined.from.now; to = c.in-Joined.to.now; line = n } ∷ []) new.nodes.entries l in
      subst P (sym c.in-Joined.is) (subst Q (sym c.in_ok-push-in-Joined.ensures.items)
      (holds_joined ns es new.nodes.entries new.edges.items e c.in-Joined.from.now c.in-Joined.to.now held (kept.within, second.within)
      (kept.is ∙ first.is) second.is));
}
