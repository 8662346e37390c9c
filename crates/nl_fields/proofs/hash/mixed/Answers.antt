use Rattle.std.proofs.Common.{arith}
use Rattle.nl_fields.proofs.HashLemmas.{xor_is}
use Rattle.nl_fields.proofs.hash.mixed.Goals as goal

pub returns : goal.returns
returns c = xor_is c.args.n _ c.ranges.n.fits (omega arith)
