use Rattle.nl_lines.proofs.SplitLemmas.{lines_of-joined, rest_of-joined}
use Rattle.nl_lines.proofs.NewlineLemmas.{adds_no_line, has_lines, no_rest, joined-ends}
use Rattle.nl_lines.proofs.laws.lines_of_a_longer_text.Goals as goal

pub returns-clause-joined_lines : goal.returns-clause-joined_lines
returns-clause-joined_lines c = lines_of-joined

pub returns-clause-joined_rest : goal.returns-clause-joined_rest
returns-clause-joined_rest c = rest_of-joined

pub returns-clause-tail_lines : goal.returns-clause-tail_lines
returns-clause-tail_lines c = λ text tail plain. (adds_no_line text tail plain).lines

pub returns-clause-tail_rest : goal.returns-clause-tail_rest
returns-clause-tail_rest c = λ text tail plain. (adds_no_line text tail plain).rest

pub returns-clause-some : goal.returns-clause-some
returns-clause-some c = has_lines

pub returns-clause-none : goal.returns-clause-none
returns-clause-none c = no_rest

pub returns-clause-ends : goal.returns-clause-ends
returns-clause-ends c = joined-ends
