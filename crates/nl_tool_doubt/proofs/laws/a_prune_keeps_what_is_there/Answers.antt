use Rattle.std.proofs.Common.{refl}
use Rattle.nl_tool_doubt.proofs.KeptLemmas.{targets_stay, there_stay, told_stays}
use Rattle.nl_tool_doubt.proofs.laws.a_prune_keeps_what_is_there.Goals as goal

pub returns-clause-targets : goal.returns-clause-targets
returns-clause-targets c = λ asked targets states from to old new s d is. targets_stay s d is

pub returns-clause-files : goal.returns-clause-files
returns-clause-files c = λ asked targets state_of from to old new s d is. there_stay s d is state_of refl

pub returns-clause-damaged : goal.returns-clause-damaged
returns-clause-damaged c = λ asked targets states from to old new s. told_stays s
