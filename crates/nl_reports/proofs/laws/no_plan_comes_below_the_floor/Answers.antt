use Rattle.nl_reports.proofs.PlanLemmas.{no_more_done, no_path_beyond}
use Rattle.nl_reports.proofs.laws.no_plan_comes_below_the_floor.Goals as goal

pub returns-clause-path : goal.returns-clause-path
returns-clause-path c = λ g js n wall plan is path along. no_path_beyond g js n wall plan is path along

pub returns-clause-total : goal.returns-clause-total
returns-clause-total c = λ g js n wall plan is. no_more_done g js n wall plan is
