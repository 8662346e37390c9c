use Rattle.nl_distrust.proofs.TrustLemmas.{with_before, torn_before}
use Rattle.nl_distrust.proofs.laws.each_part_is_named.Goals as goal

pub returns : goal.returns
returns c = record { within = λ before behind e is. with_before before e behind is; torn = torn_before }
