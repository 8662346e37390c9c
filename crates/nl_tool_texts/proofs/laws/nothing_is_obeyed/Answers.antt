use Rattle.nl_tool_texts.proofs.LaidLemmas.{columns_quiet}
use Rattle.nl_tool_texts.proofs.ShownLemmas.{amid, passes, quiet, quiet_append, quiet_of, shown_of-append}
use Rattle.nl_tool_texts.proofs.EscapeLemmas.{text_made, text_quiet, cut_whole, cut_within}
use Rattle.nl_tool_texts.proofs.laws.nothing_is_obeyed.Goals as goal

pub returns-clause-shown : goal.returns-clause-shown
returns-clause-shown c = quiet

pub returns-clause-columns : goal.returns-clause-columns
returns-clause-columns c = columns_quiet

pub returns-clause-part : goal.returns-clause-part
returns-clause-part c = quiet_of

pub returns-clause-together : goal.returns-clause-together
returns-clause-together c = quiet_append

pub returns-clause-passes : goal.returns-clause-passes
returns-clause-passes c = passes

pub returns-clause-characters : goal.returns-clause-characters
returns-clause-characters c = amid

pub returns-clause-parts : goal.returns-clause-parts
returns-clause-parts c = shown_of-append

pub returns-clause-bytes : goal.returns-clause-bytes
returns-clause-bytes c = text_quiet 0 0

pub returns-clause-pieces : goal.returns-clause-pieces
returns-clause-pieces c = text_made 0 0

pub returns-clause-fits : goal.returns-clause-fits
returns-clause-fits c = cut_within

pub returns-clause-whole : goal.returns-clause-whole
returns-clause-whole c = cut_whole
