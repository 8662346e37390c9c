use Rattle.std.proofs.Common.{◌≡◌, ◌∙◌, ◌-◌, None, ap, arith, sym, rules, length, take, drop}
use Rattle.std.specs.Prelude.{nat_lt}
use Rattle.std.proofs.lemmas.List.{take_all}
use Rattle.std.proofs.lemmas.List.Sorted.{IsNonDecreasingBy-drop, IsNonDecreasingBy-take, IsPartitionedBy-ltb, IsPartitionPoint-from_clause}
use Rattle.nl_tool_doubt.specs.Spans.{both, within}
use Rattle.nl_tool_doubt.specs.declared.spans.Span.{Span}
use Rattle.nl_tool_doubt.proofs.OrderLemmas.{both_none, length-behind, none_late, parted, point_of, rises_behind}
use Rattle.nl_tool_doubt.proofs.spans.within.Goals as goal

pub returns-then-to-span : goal.returns-then-to-span
returns-then-to-span c =
    let ss = c.args.spans.now in
    let i = c.partition_point-start.result in
    let rest = take (length ss - i) (drop i ss) in
    let at = c.loop-span.span-index in
    let d : Span = record { first = 0; least = 0; greatest = 0 } in
    let rises = IsNonDecreasingBy-take (λ (s : Span). s.first) (length ss - i) (drop i ss) (IsNonDecreasingBy-drop (λ (s : Span). s.first) i ss c.requires.rises) in
    let point = point_of ss c.args.from i (IsPartitionPoint-from_clause (λ (s : Span). nat_lt s.first c.args.from) ss i c.partition_point-start.ensures.partitioned
    (IsPartitionedBy-ltb (λ (s : Span). s.first) ss c.args.from c.requires.rises) (λ a r next called. search rules)) in
    let all : rest ≡ drop i ss = take_all (length ss - i) (drop i ss) (length-behind ss i) in
    let none : within 0 c.args.to (drop at rest) ≡ None =
    none_late c.args.to rest at (rises_behind c.args.to rest at d rises (omega arith)) in
    record {
      value = sym (both_none c.loop-span.found) ∙ sym (ap (both c.loop-span.found) none) ∙ c.loop-span.invariant
          ∙ ap (within 0 c.args.to) all ∙ sym (parted c.args.from c.args.to ss i point.0 point.1);
    }

pub returns : goal.returns
returns c =
    let ss = c.args.spans.now in
    let i = c.partition_point-start.result in
    let rest = take (length ss - i) (drop i ss) in
    let point = point_of ss c.args.from i (IsPartitionPoint-from_clause (λ (s : Span). nat_lt s.first c.args.from) ss i c.partition_point-start.ensures.partitioned
    (IsPartitionedBy-ltb (λ (s : Span). s.first) ss c.args.from c.requires.rises) (λ a r next called. search rules)) in
    let all : rest ≡ drop i ss = take_all (length ss - i) (drop i ss) (length-behind ss i) in
    let at = c.loop-span.span-index in
    let none : within 0 c.args.to (drop at rest) ≡ None =
    none_late c.args.to rest at (λ k d after there. omega (arith, after, there, c.loop-span-test.false)) in
    record {
      value = sym (both_none c.loop-span.found) ∙ sym (ap (both c.loop-span.found) none) ∙ c.loop-span.invariant
          ∙ ap (within 0 c.args.to) all ∙ sym (parted c.args.from c.args.to ss i point.0 point.1);
    }
