use Rattle.nl_tool_doubt.proofs.LawLemmas.{early, late, of_a_line}
use Rattle.nl_tool_doubt.proofs.laws.the_moment_of_a_build.Goals as goal

pub returns-clause-late : goal.returns-clause-late
returns-clause-late c = late

pub returns-clause-of_a_line : goal.returns-clause-of_a_line
returns-clause-of_a_line c = of_a_line

pub returns-clause-early : goal.returns-clause-early
returns-clause-early c = early
