use Rattle.std.proofs.Common.{refl}
use Rattle.nl_tool_doubt.proofs.KeptLemmas.{entries_stay, intents_stay, times_taken, told_stays}
use Rattle.nl_tool_doubt.proofs.laws.a_retime_sets_times_alone.Goals as goal

pub returns-clause-entries : goal.returns-clause-entries
returns-clause-entries c = λ asked states from to early old new s d is. entries_stay s d is

pub returns-clause-intents : goal.returns-clause-intents
returns-clause-intents c = λ asked states from to early old new s d is. intents_stay s d is

pub returns-clause-files : goal.returns-clause-files
returns-clause-files c = λ asked state_of from to early old new s d is. times_taken s d is state_of refl

pub returns-clause-damaged : goal.returns-clause-damaged
returns-clause-damaged c = λ asked states from to early old new s. told_stays s
