use Rattle.nl_tool_doubt.proofs.LawLemmas.{behind_newer, timed}
use Rattle.nl_tool_doubt.proofs.laws.a_file_is_judged_by_its_time.Goals as goal

pub returns-clause-newer : goal.returns-clause-newer
returns-clause-newer c = λ ls e time last tell behind newer. behind_newer ls e time last tell behind newer (timed e.mtime tell)
