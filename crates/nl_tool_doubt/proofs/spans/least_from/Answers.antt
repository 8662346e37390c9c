use Rattle.std.proofs.Common.{◌∙◌, sym, arith, rules}
use Rattle.std.specs.Prelude.{nat_lt}
use Rattle.std.proofs.lemmas.List.Sorted.{IsPartitionedBy-ltb, IsPartitionPoint-from_clause}
use Rattle.nl_tool_doubt.specs.declared.spans.Span.{Span}
use Rattle.nl_tool_doubt.proofs.OrderLemmas.{least_is, least_none, least_some, point_of}
use Rattle.nl_tool_doubt.proofs.spans.least_from.Goals as goal

pub returns-then-start-spans : goal.returns-then-start-spans
returns-then-start-spans c =
    let ss = c.args.spans.now in
    let i = c.partition_point-start.result in
    let d : Span = record { first = 0; least = 0; greatest = 0 } in
    let point = point_of ss c.args.from i (IsPartitionPoint-from_clause (λ (s : Span). nat_lt s.first c.args.from) ss i c.partition_point-start.ensures.partitioned
    (IsPartitionedBy-ltb (λ (s : Span). s.first) ss c.args.from c.requires.rises) (λ a r next called. search rules)) in
    record { value = c.min.ensures ∙ sym (least_is c.args.from c.args.own ss i point.0 point.1 c.requires.rises ∙ least_some c.args.own ss i d (omega arith)) }

pub returns : goal.returns
returns c =
    let ss = c.args.spans.now in
    let i = c.partition_point-start.result in
    let point = point_of ss c.args.from i (IsPartitionPoint-from_clause (λ (s : Span). nat_lt s.first c.args.from) ss i c.partition_point-start.ensures.partitioned
    (IsPartitionedBy-ltb (λ (s : Span). s.first) ss c.args.from c.requires.rises) (λ a r next called. search rules)) in
    record { value = sym (least_is c.args.from c.args.own ss i point.0 point.1 c.requires.rises ∙ least_none c.args.own ss i (omega arith)) }
