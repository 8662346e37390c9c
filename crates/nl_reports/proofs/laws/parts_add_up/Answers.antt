use Rattle.nl_reports.proofs.PictureLemmas.{shares_few, time_is, total_is}
use Rattle.nl_reports.proofs.laws.parts_add_up.Goals as goal

pub returns-clause-kinds : goal.returns-clause-kinds
returns-clause-kinds c = time_is

pub returns-clause-times : goal.returns-clause-times
returns-clause-times c = total_is

pub returns-clause-parts : goal.returns-clause-parts
returns-clause-parts c = shares_few
