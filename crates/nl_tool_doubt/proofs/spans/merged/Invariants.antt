use Rattle.std.proofs.Common.{◌≡◌, ◌≤◌, ◌<◌, ℕ, drop, get_or, length}
use Rattle.std.specs.List.{All}
use Rattle.nl_tool_doubt.specs.Spans.{Rises, both, within}
use Rattle.nl_tool_doubt.specs.declared.spans.Span.{Span}
use Rattle.nl_tool_doubt.proofs.spans.merged.Given as goal

abbrev pub invariant-loop-span : goal.invariant-loop-span
invariant-loop-span l = record {
  alike : (from to : ℕ) → both (within from to l.all.items) (within from to (drop l.span-index l.spans)) ≡ within from to l.spans;
  rises : Rises l.all.items;
  below : (d : Span) → l.span-index < length l.spans → All (λ (s : Span). s.first ≤ (get_or l.spans l.span-index d).first) l.all.items;
}
