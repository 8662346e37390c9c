use Rattle.nl_c.proofs.JoinLemmas.{joined_lines, opened_as_it_is}
use Rattle.nl_c.proofs.laws.appended_lines_are_recorded.Goals as goal

pub returns-clause-contents : goal.returns-clause-contents
returns-clause-contents c = λ text entries table open_text is all fits. (joined_lines text entries table open_text all fits is).0

pub returns-clause-table : goal.returns-clause-table
returns-clause-table c = λ text entries table open_text is all fits. (joined_lines text entries table open_text all fits is).1

pub returns-clause-opened : goal.returns-clause-opened
returns-clause-opened c = λ dead text open_text due. opened_as_it_is dead text open_text.ends due
