use Rattle.nl_tool.proofs.NumberLemmas.{has_text}
use Rattle.nl_tool.proofs.laws.a_bad_number_is_explained.Goals as goal

pub returns : goal.returns
returns c words told h = has_text words told h
