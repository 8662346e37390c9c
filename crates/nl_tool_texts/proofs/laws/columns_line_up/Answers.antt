use Rattle.nl_tool_texts.proofs.WidthLemmas.{line_up, line_fits}
use Rattle.nl_tool_texts.proofs.laws.columns_line_up.Goals as goal

pub returns-clause-cells : goal.returns-clause-cells
returns-clause-cells c = line_up

pub returns-clause-lines : goal.returns-clause-lines
returns-clause-lines c = λ most last before line later whole some left. line_fits most before line later last whole some left
