use Rattle.nl_versions.proofs.VersionOfLemmas.{four_read, version_named}
use Rattle.std.proofs.Common.{ap, ◌∙◌}
use Rattle.nl_versions.specs.Version.{as_version}
use Rattle.nl_versions.specs.declared.version.LogVersion.{LogVersion}
use Rattle.nl_versions.proofs.VersionLemmas.{as_version_from-five}
use Rattle.nl_versions.proofs.laws.auto_is_the_version.Goals as goal

pub returns-clause-named : goal.returns-clause-named
returns-clause-named c = version_named

pub returns-clause-four : goal.returns-clause-four
returns-clause-four c = four_read

pub returns-clause-five : goal.returns-clause-five
returns-clause-five c = λ bytes five. ap (λ (version : LogVersion). as_version version bytes) five ∙ as_version_from-five 0 bytes

pub returns-clause-each : goal.returns-clause-each
returns-clause-each c = λ version bytes is. ap (λ (v : LogVersion). as_version v bytes) is
