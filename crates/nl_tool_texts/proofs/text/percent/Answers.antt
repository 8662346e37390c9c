use Rattle.std.proofs.Common.{◌∙◌}
use Rattle.nl_tool_texts.proofs.FractionLemmas.{percent_told}
use Rattle.nl_tool_texts.proofs.text.percent.Goals as goal

pub returns : goal.returns
returns c = record { value = c.unwrap_or.ensures ∙ percent_told c.args.part c.args.whole _ _ c.min-hundredfold.ensures c.checked_div.ensures }
