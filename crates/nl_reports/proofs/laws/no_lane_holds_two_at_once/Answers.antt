use Rattle.std.proofs.Common.{[], get_or, arith}
use Rattle.nl_reports.proofs.LaneLawLemmas.{apart, never_both, few}
use Rattle.nl_reports.proofs.laws.no_lane_holds_two_at_once.Goals as goal

pub returns-clause-apart : goal.returns-clause-apart
returns-clause-apart c = λ cs i j t d order within same first second.
    never_both (get_or cs i d) (get_or cs j d) t (apart cs [] i j d order within same) first second

pub returns-clause-few : goal.returns-clause-few
returns-clause-few c = λ cs i d order within. few cs [] [] 0 i d (λ t after. omega arith) (λ k there. omega arith) order within
