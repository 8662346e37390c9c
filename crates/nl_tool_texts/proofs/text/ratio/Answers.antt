use Rattle.std.proofs.Common.{◌∙◌, append_assoc}
use Rattle.std.proofs.lemmas.Result.{IfOk-weaker}
use Rattle.nl_tool_texts.proofs.FractionLemmas.{ratio_told}
use Rattle.nl_tool_texts.proofs.text.ratio.Goals as goal

pub returns : goal.returns
returns c = record {
  value = IfOk-weaker c.format.result _ _ (λ text h. ratio_told c.args.part c.args.whole _ c.if-whole-eq0.false (h ∙ simp append_assoc)) c.format.ensures.ok;
}
