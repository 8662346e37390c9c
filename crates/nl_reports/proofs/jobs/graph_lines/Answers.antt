use Rattle.std.proofs.Common.{◌∙◌, ◌++◌, [], List, ℕ, Option, ap, append-nil, map, refl, subst, sym}
use Rattle.nl_reports.specs.Found.{AreFound}
use Rattle.nl_tool_texts.specs.GraphText.{seen_graph}
use Rattle.nl_reports.specs.Jobs.{seen}
use Rattle.nl_reports.specs.Plans.{AreEstimates}
use Rattle.nl_reports.specs.declared.critical.Critical.{Critical}
use Rattle.nl_reports.proofs.PlanLemmas.{estimates_there, none_asked}
use Rattle.nl_reports.proofs.jobs.graph_lines.Goals as goal

pub estimate_lines-requires : goal.estimate_lines-requires
estimate_lines-requires c =
    let is = subst (λ (o : Option Critical). AreFound c.args.by.now.graph.now (map seen c.args.jobs.now) o) c.in-Some.is c.in_ok-found.ensures.value in
    record { small = is.small }

pub returns-then-is_empty : goal.returns-then-is_empty
returns-then-is_empty c =
    let g = c.args.by.now.graph.now in
    let js = map seen c.args.jobs.now in
    let is = subst (λ (o : Option Critical). AreFound g js o) c.in-Some.is c.in_ok-found.ensures.value in
    record {
      value = record {
        path = c.in_ok-lines.lines;
        is_critical = c.in_ok-lines.ensures.value g is;
        gains = c.in_ok-gains.gains.items;
        are_gains = c.in_ok-gains.ensures.value g is;
        estimates = [];
        are = subst (λ (ns : List ℕ). AreEstimates c.args.by.now.screen (seen_graph g) js ns []) (sym (none_asked _ (sym c.is_empty.ensures ∙ c.if-is_empty.true))) refl;
        is = c.in_ok-extend_from_slice.ensures.items ∙ ap (λ (l : List ℕ). c.in_ok-lines.lines.items ++ l) c.as_slice.ensures.value ∙ sym (append-nil _);
      };
    }

pub returns : goal.returns
returns c =
    let g = c.args.by.now.graph.now in
    let js = map seen c.args.jobs.now in
    let is = subst (λ (o : Option Critical). AreFound g js o) c.in-Some.is c.in_ok-found.ensures.value in
    record {
      value = record {
        path = c.in_ok-lines.lines;
        is_critical = c.in_ok-lines.ensures.value g is;
        gains = c.in_ok-gains.gains.items;
        are_gains = c.in_ok-gains.ensures.value g is;
        estimates = c.in-Some-2.estimates.items;
        are = estimates_there c.args.by.now.screen (seen_graph g) js _ _ _ c.in-Some-2.is (c.in_ok-estimates.ensures.value g is);
        is = c.in_ok-extend_from_slice-2.ensures.items ∙ (λ i. (c.in_ok-extend_from_slice.ensures.items
            ∙ ap (λ (l : List ℕ). c.in_ok-lines.lines.items ++ l) c.as_slice.ensures.value) i ++ c.as_slice-2.ensures.value i);
      };
    }

pub returns-in_default : goal.returns-in_default
returns-in_default c = record {
  value = λ none. subst (λ (o : Option Critical). AreFound c.args.by.now.graph.now (map seen c.args.jobs.now) o) c.in_default.is
      c.in_ok-found.ensures.value c.args.by.now.screen;
}
