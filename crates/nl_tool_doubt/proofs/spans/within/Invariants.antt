use Rattle.std.proofs.Common.{◌≡◌, drop}
use Rattle.nl_tool_doubt.specs.Spans.{both, within}
use Rattle.nl_tool_doubt.proofs.spans.within.Given as goal

abbrev pub invariant-loop-span : goal.invariant-loop-span
invariant-loop-span l = both l.found (within 0 l.to (drop l.span-index l.span-items)) ≡ within 0 l.to l.span-items
