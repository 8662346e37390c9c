use Rattle.std.proofs.Common.{◌∙◌, ℕ, ap, sym, subst, arith, rules}
use Rattle.std.specs.Prelude.{nat_le}
use Rattle.std.proofs.lemmas.List.Sorted.{IsPartitionedBy-leb, IsPartitionPoint-from_clause}
use Rattle.nl_tool_doubt.specs.Spans.{Rises}
use Rattle.nl_tool_doubt.specs.declared.spans.Span.{Span}
use Rattle.nl_tool_doubt.proofs.OrderLemmas.{before_at, before_some, greatest_is, point_up_to, rises-sums}
use Rattle.nl_tool_doubt.proofs.spans.greatest_up_to.Goals as goal

pub returns-in-0 : goal.returns-in-0
returns-in-0 c = record {
  value = λ ss rise is.
      let ts = c.args.spans.now in
      let i = c.partition_point.result in
      let d : Span = record { first = 0; least = 0; greatest = 0 } in
      let point = point_up_to ts c.args.to i (IsPartitionPoint-from_clause (λ (s : Span). nat_le s.first c.args.to) ts i c.partition_point.ensures.partitioned
      (IsPartitionedBy-leb (λ (s : Span). s.first) ts c.args.to (subst Rises (sym is) (rises-sums 0 ss rise))) (λ a r next called. search rules)) in
      sym (ap (λ (n : ℕ). before_at 0 ts n d) c.in-0.is) ∙ greatest_is c.args.to ss ts i d is point.0 point.1 c.partition_point.ensures.bound;
}

pub returns-in_default : goal.returns-in_default
returns-in_default c = record {
  value = λ ss rise is.
      let ts = c.args.spans.now in
      let i = c.partition_point.result in
      let d : Span = record { first = 0; least = 0; greatest = 0 } in
      let point = point_up_to ts c.args.to i (IsPartitionPoint-from_clause (λ (s : Span). nat_le s.first c.args.to) ts i c.partition_point.ensures.partitioned
      (IsPartitionedBy-leb (λ (s : Span). s.first) ts c.args.to (subst Rises (sym is) (rises-sums 0 ss rise))) (λ a r next called. search rules)) in
      sym (before_some 0 ts i d (omega arith)) ∙ greatest_is c.args.to ss ts i d is point.0 point.1 c.partition_point.ensures.bound;
}
