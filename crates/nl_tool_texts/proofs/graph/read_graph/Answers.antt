use Rattle.std.proofs.Common.{◌≡◌, ◌∙◌, ◌+◌, ◌++◌, ◌||◌, ◌<◌, ◌≤◌, ℕ, false, List, [], None, Some, ap, arith, bytes_eq, codes, get_or, length, map, subst, sym}
use Rattle.std.proofs.lemmas.List.{length-map}
use Rattle.std.specs.Borrow.{Bor}
use Rattle.nl_tool_texts.specs.declared.fault.ToolFault.TheVariants.{BadLine}
use Rattle.nl_tool_texts.specs.GraphLine.{line_in, line_seen}
use Rattle.nl_tool_texts.specs.GraphText.{edges_said, graph_from, graph_of, has_ended, ids_of, nodes_said, seen_edge}
use Rattle.nl_tool_texts.specs.Graphs.{ClosesCycle}
use Rattle.nl_tool_texts.specs.declared.graph.Edge.{Edge}
use Rattle.nl_tool_texts.proofs.GraphLemmas.{holds_none}
use Rattle.nl_tool_texts.proofs.GraphTextLemmas.{bad_there, ended_there, is_of_cycle, is_of_text, line_at, onto_none, refused_at, said_on}
use Rattle.nl_tool_texts.proofs.graph.read_graph.Goals as goal
use Rattle.nl_tool_texts.proofs.graph.read_graph.Goals.{then-ended, else-ended}

pub loop-place-init : goal.loop-place-init
loop-place-init c = record {
  ns = [];
  es = [];
  holds = holds_none c.with_hasher.result.entries c.new.result.items c.with_hasher.ensures.empty c.new.ensures.items;
  said = onto_none (graph_from false 1 (map (λ line. line.now) c.in_ok-lines.lines.items));
}

pub returns-in-None-clause-told_line : goal.returns-in-None-clause-told_line
returns-in-None-clause-told_line c = λ line is.
    let ls = c.in_ok-lines.lines.items in
    let now : Bor (List ℕ) → List ℕ = λ l. l.now in
    let lines = map now ls in
    let loop = c.loop-place in
    let i = loop.place in
    let held : i < length ls = omega (arith, c.loop-place-test.true, c.len-place-end.ensures) in
    let inside : i < length lines = omega (arith, held, length-map ls now) in
    let none : None ≡ line_in loop.ended (i + 1) (get_or lines i []) =
    c.in-None.ensures.value ∙ ap (line_in loop.ended (i + 1)) (sym (line_at ls i c.index.result.now held c.index.ensures)) in
    refused_at (graph_of c.args.text.now) (i + 1) line (bad_there loop.invariant.ns loop.invariant.es loop.ended i lines inside none
    ∙ loop.invariant.said ∙ ap (graph_from false 1) c.in_ok-lines.ensures.value) (cc is)

pub loop-place-preserved : goal.loop-place-preserved
loop-place-preserved c =
    let ls = c.in_ok-lines.lines.items in
    let now : Bor (List ℕ) → List ℕ = λ l. l.now in
    let lines = map now ls in
    let loop = c.loop-place in
    let i = loop.place in
    let said = line_seen c.in-Some.said in
    let held : i < length ls = omega (arith, c.loop-place-test.true, c.len-place-end.ensures) in
    let inside : i < length lines = omega (arith, held, length-map ls now) in
    let there = line_at ls i c.index.result.now held c.index.ensures in
    let is : Some said ≡ line_in loop.ended (i + 1) (get_or lines i []) = c.in-Some.ensures.value ∙ ap (line_in loop.ended (i + 1)) (sym there) in
    let ends : c.if-ended.ended ≡ has_ended loop.ended (get_or lines i []) = elim c.if-ended.branch [
      | then-ended w ↦ w.ended-is ∙ w.if-ended.true ∙ ap (λ b. b || bytes_eq (get_or lines i []) (codes "}")) (sym w.if-ended.true)
      | else-ended w ↦
          let is : w.eq-ended.result ≡ bytes_eq c.index.result.now.now (codes "}") = cc in
          w.ended-is ∙ is ∙ (λ j. bytes_eq (sym there j) (codes "}")) ∙ ap (λ b. b || bytes_eq (get_or lines i []) (codes "}")) (sym w.if-ended.false)
    ] in
    record {
      ns = loop.invariant.ns ++ nodes_said said;
      es = loop.invariant.es ++ edges_said (i + 1) said;
      holds = c.in_ok-take-in-Some.ensures.ok loop.invariant.ns loop.invariant.es loop.invariant.holds;
      said = said_on loop.invariant.ns loop.invariant.es loop.ended i lines inside said c.if-ended.ended is ends ∙ loop.invariant.said;
    }

pub returns-in_err-graph-clause-told_line : goal.returns-in_err-graph-clause-told_line
returns-in_err-graph-clause-told_line c = λ line is.
    let ls = c.in_ok-lines.lines.items in
    let now : Bor (List ℕ) → List ℕ = λ l. l.now in
    let lines = map now ls in
    let loop = c.loop-place in
    let inv = loop.invariant in
    let all : length lines ≤ loop.place = omega (arith, c.loop-place-test.false, c.len-place-end.ensures, length-map ls now) in
    let whole = ended_there inv.ns inv.es loop.ended loop.place lines all c.if-not-ended.false ∙ inv.said
    ∙ ap (graph_from false 1) c.in_ok-lines.ensures.value in
    let told : BadLine line ≡ c.in_err-graph.field-0.0 = rw is at c.from_residual-in_err-graph.ensures.1 in
    let P : List Edge → Type 0 = λ l. ClosesCycle (map (seen_edge (ids_of loop.graph.nodes.entries)) l) line in
    is_of_cycle (graph_of c.args.text.now) inv.ns inv.es loop.graph.nodes.entries loop.graph.edges.items inv.holds whole line
    (subst P c.as_slice-2.ensures.value (c.in_err-graph.ensures.told_line (ids_of loop.graph.nodes.entries) line (cc told)))

pub returns-clause-value : goal.returns-clause-value
returns-clause-value c =
    let ls = c.in_ok-lines.lines.items in
    let now : Bor (List ℕ) → List ℕ = λ l. l.now in
    let lines = map now ls in
    let loop = c.loop-place in
    let inv = loop.invariant in
    let all : length lines ≤ loop.place = omega (arith, c.loop-place-test.false, c.len-place-end.ensures, length-map ls now) in
    let whole = ended_there inv.ns inv.es loop.ended loop.place lines all c.if-not-ended.false ∙ inv.said
    ∙ ap (graph_from false 1) c.in_ok-lines.ensures.value in
    is_of_text (graph_of c.args.text.now) inv.ns inv.es loop.graph.nodes.entries loop.graph.edges.items inv.holds whole c.len-2.ensures.unique
