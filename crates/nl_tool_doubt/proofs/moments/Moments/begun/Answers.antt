use Rattle.std.proofs.Common.{◌≡◌, ◌∙◌, ◌+◌, ◌-◌, ap, arith, map}
use Rattle.std.specs.Prelude.{max}
use Rattle.nl_tool_doubt.specs.Moments.{begun_by, bound, least_from, nearest, tick_of}
use Rattle.nl_tool_doubt.specs.Spans.{greatest_of}
use Rattle.nl_tool_doubt.specs.declared.moments.Line.{Line}
use Rattle.nl_tool_doubt.specs.declared.spans.Span.{Span}
use Rattle.nl_tool_doubt.proofs.LawLemmas.{least_up}
use Rattle.nl_tool_doubt.proofs.LineLemmas.{bound_is, least_alike, of_lines}
use Rattle.nl_tool_doubt.proofs.moments.Moments.begun.Goals as goal

pub returns-clause-value : goal.returns-clause-value
returns-clause-value c =
    let ls = c.args.self.now in
    let known = of_lines c.self.view_is c.self.invariant in
    let at = c.of-line.result.at in
    let own = c.of-line.result.m in
    let starts = c.self.inside.starts.items in
    let top : c.greatest_up_to-bound.result ≡ bound ls at =
    c.greatest_up_to-bound.ensures.value known.sorted known.rises (c.as_slice.ensures.value ∙ known.bounds) ∙ ap greatest_of (known.ends 0 at) ∙ bound_is at ls in
    let low : c.saturating_sub-low.result ≡ bound ls at - (5 + tick_of ls) = c.saturating_sub-low.ensures ∙ λ i. top i - (5 + c.tick.ensures.value i) in
    let from : c.max-from.result ≡ max (bound ls at - (5 + tick_of ls)) (nearest ls own) = c.max-from.ensures ∙ λ i. max (low i) (c.nearest.ensures.value i) in
    c.least_from.ensures.value ∙ (λ i. least_from (from i) own (map (λ (s : Span). s.first) (c.as_slice-2.ensures.value i)))
    ∙ least_alike (max (bound ls at - (5 + tick_of ls)) (nearest ls own)) own starts ls known.starts
    ∙ ap (λ (l : Line). begun_by ls l.at l.m) c.of-line.ensures.value

pub returns-clause-bound : goal.returns-clause-bound
returns-clause-bound c =
    omega (arith, c.of-line.ensures.bound, c.least_from.ensures.value, least_up c.max-from.result c.of-line.result.m (map (λ (s : Span). s.first) c.as_slice-2.result.now))
