use Rattle.nl_versions.proofs.VersionLemmas.{lines-as_version}
use Rattle.nl_versions.proofs.laws.later_lines_are_of_each_version.Goals as goal

pub returns-clause-lines : goal.returns-clause-lines
returns-clause-lines c = λ version text first later lines long. (lines-as_version version text first later lines long).0

pub returns-clause-rest : goal.returns-clause-rest
returns-clause-rest c = λ version text first later lines long. (lines-as_version version text first later lines long).1
