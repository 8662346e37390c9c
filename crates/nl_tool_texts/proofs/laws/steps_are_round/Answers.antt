use Rattle.nl_tool_texts.proofs.StepLemmas.{step_round, steps_few}
use Rattle.nl_tool_texts.proofs.laws.steps_are_round.Goals as goal

pub returns-clause-round : goal.returns-clause-round
returns-clause-round c = step_round

pub returns-clause-few : goal.returns-clause-few
returns-clause-few c = steps_few
