use Rattle.nl_tool_texts.proofs.FallingLemmas.{falling_at, falling_moves, falling_ranked}
use Rattle.nl_reports.proofs.laws.the_largest_come_first.Goals as goal

pub returns-clause-each : goal.returns-clause-each
returns-clause-each c = falling_moves

pub returns-clause-order : goal.returns-clause-order
returns-clause-order c = falling_at

pub returns-clause-alike : goal.returns-clause-alike
returns-clause-alike c = falling_ranked
