use Rattle.nl_versions.proofs.VersionLemmas.{as_version_from-five, as_version_from-twice, only_the_digit, as_version-append, plain-as_version_from, lengths-as_version_from, whole_len-as_version}
use Rattle.nl_versions.specs.Shape.{length-as_version_from, prefix-as_version}
use Rattle.nl_versions.proofs.laws.a_version_is_one_byte.Goals as goal

pub returns-clause-back : goal.returns-clause-back
returns-clause-back c = λ version text. as_version_from-twice version 0 text

pub returns-clause-five : goal.returns-clause-five
returns-clause-five c = λ text. as_version_from-five 0 text

pub returns-clause-behind : goal.returns-clause-behind
returns-clause-behind c = λ version text. (only_the_digit version text).1

pub returns-clause-length : goal.returns-clause-length
returns-clause-length c = λ version text. length-as_version_from version 0 text

pub returns-clause-prefix : goal.returns-clause-prefix
returns-clause-prefix c = prefix-as_version

pub returns-clause-joins : goal.returns-clause-joins
returns-clause-joins c = as_version-append

pub returns-clause-plain : goal.returns-clause-plain
returns-clause-plain c = λ version text plain. plain-as_version_from version 0 text plain

pub returns-clause-lengths : goal.returns-clause-lengths
returns-clause-lengths c = λ version text. lengths-as_version_from version 0 text

pub returns-clause-whole : goal.returns-clause-whole
returns-clause-whole c = whole_len-as_version
