use Rattle.std.proofs.Common.{◌≡◌, ◌++◌, drop}
use Rattle.nl_tool_doubt.specs.Spans.{sums}
use Rattle.nl_tool_doubt.proofs.spans.summed.Given as goal

abbrev pub invariant-loop-span : goal.invariant-loop-span
invariant-loop-span l = l.all.items ++ sums l.most (drop l.span-index l.spans) ≡ sums 0 l.spans
