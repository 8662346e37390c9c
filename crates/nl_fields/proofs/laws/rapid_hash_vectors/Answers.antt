use Rattle.std.proofs.Common.{refl}
use Rattle.nl_fields.specs.CommandHash.{differing}
use Rattle.nl_fields.specs.RapidHash.{rapid_hash_of}
use Rattle.nl_fields.proofs.laws.rapid_hash_vectors.Goals as goal

pub returns-clause-nothing : goal.returns-clause-nothing
unfolding rapid_hash_of differing
returns-clause-nothing c = refl

pub returns-clause-three : goal.returns-clause-three
unfolding rapid_hash_of differing
returns-clause-three c = refl

pub returns-clause-seven : goal.returns-clause-seven
unfolding rapid_hash_of differing
returns-clause-seven c = refl

pub returns-clause-sixteen : goal.returns-clause-sixteen
unfolding rapid_hash_of differing
returns-clause-sixteen c = refl

pub returns-clause-seventeen : goal.returns-clause-seventeen
unfolding rapid_hash_of differing
returns-clause-seventeen c = refl
