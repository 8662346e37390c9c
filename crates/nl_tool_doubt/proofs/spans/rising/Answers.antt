use Rattle.std.proofs.Common.{rules}
use Rattle.std.proofs.lemmas.List.Sorted.{IsNonDecreasingBy-from_sort_by_key}
use Rattle.nl_tool_doubt.specs.declared.spans.Span.{Span}
use Rattle.nl_tool_doubt.proofs.SpanLemmas.{within-permutation}
use Rattle.nl_tool_doubt.proofs.spans.rising.Goals as goal

pub returns : goal.returns
returns c = record {
  alike = λ from to. within-permutation from to _ _ c.sort_unstable_by_key.ensures.permutation;
  rises = IsNonDecreasingBy-from_sort_by_key (λ (s : Span). s.first) c.sort_unstable_by_key.new.self.items c.sort_unstable_by_key.ensures.sorted (λ a r q k. search rules);
}
