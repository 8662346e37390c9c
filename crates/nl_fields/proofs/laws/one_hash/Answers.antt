use Rattle.nl_fields.proofs.HashLemmas.{one_hash, IsHash-hash_of}
use Rattle.nl_fields.proofs.laws.one_hash.Goals as goal

pub returns-clause-hash : goal.returns-clause-hash
returns-clause-hash c = one_hash

pub returns-clause-exists : goal.returns-clause-exists
returns-clause-exists c = IsHash-hash_of
