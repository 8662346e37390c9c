use Rattle.std.proofs.Common.{sym}
use Rattle.nl_tool_texts.proofs.OrderLemmas.{closes, leads_on}
use Rattle.nl_tool_texts.proofs.graph.closing_line.Goals as goal

pub way-preserved : goal.way-preserved
way-preserved c = λ ids.
    let found = c.in_ok-edge.ensures.lookup in
    leads_on ids c.args.edges.now c.in_ok-edge.edge.now (c.in_ok-place-2.place.now, found.3.0, sym found.1) _ c.way.head c.if-edge-head.false
    (c.way.invariant ids)

pub returns : goal.returns
returns c =
    let found = c.in_ok-last.ensures.lookup in
    record {
      cycle = λ ids. closes ids c.args.edges.now c.in_ok-last.last.now c.way.head (c.in_ok-place.place.now, found.3.0, sym found.1)
          c.way-test.false (c.way.invariant ids);
    }
