use Rattle.nl_tool.proofs.EndingLemmas.{ended_so}
use Rattle.nl_tool.proofs.program.run_on.Goals as goal

pub returns-clause-status : goal.returns-clause-status
returns-clause-status g c = (
  c.finish-answer.result,
  c.end.ensures.status,
  ended_so c.run_at-answer.result c.finish-answer.result c.args.line.now.words c.finish-answer.ensures.value
      c.run_at-answer.ensures.accepts c.run_at-answer.ensures.outcome,
)
