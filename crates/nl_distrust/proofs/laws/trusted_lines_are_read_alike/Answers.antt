use Rattle.nl_distrust.proofs.TrustLemmas.{trusted_alike}
use Rattle.std.proofs.Common.{[], refl, inl}
use Rattle.nl_distrust.specs.Distrusted.{mentioned_in}
use Rattle.nl_distrust.proofs.FoundLemmas.{found_named}
use Rattle.nl_distrust.proofs.laws.trusted_lines_are_read_alike.Goals as goal

pub returns-clause-last : goal.returns-clause-last
returns-clause-last c = λ version bytes name is trusted. trusted_alike version name bytes is trusted

pub returns-clause-found : goal.returns-clause-found
returns-clause-found c = λ version bytes name es. found_named es name (mentioned_in version bytes) [] (inl refl)
