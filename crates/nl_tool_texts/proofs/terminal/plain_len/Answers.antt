use Rattle.std.proofs.Common.{arith, sym}
use Rattle.nl_tool_texts.proofs.ShownLemmas.{passes_on}
use Rattle.nl_tool_texts.proofs.terminal.plain_len.Goals as goal

pub loop-count-preserved : goal.loop-count-preserved
loop-count-preserved c = record {
  within = omega (arith, c.loop-count-test.true);
  plain = passes_on c.args.bytes.now c.loop-count.count (omega (arith, c.loop-count-test.true)) (sym c.if-is_plain.ensures.value) c.loop-count.invariant.plain;
}
