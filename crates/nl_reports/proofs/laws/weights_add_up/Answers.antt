use Rattle.nl_reports.proofs.SweepLemmas.{weights_add_up}
use Rattle.nl_reports.proofs.LeftOverLemmas.{little_left}
use Rattle.nl_reports.proofs.SharesLemmas.{alone_is, busy_is}
use Rattle.nl_reports.proofs.laws.weights_add_up.Goals as goal

pub returns-clause-weights : goal.returns-clause-weights
returns-clause-weights c = weights_add_up

pub returns-clause-left : goal.returns-clause-left
returns-clause-left c = little_left

pub returns-clause-sums : goal.returns-clause-sums
returns-clause-sums c = λ cs s are. (busy_is cs s are, alone_is cs s are)
