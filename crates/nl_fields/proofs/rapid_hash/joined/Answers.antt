use Rattle.nl_fields.proofs.HashLemmas.{xor_is}
use Rattle.nl_fields.proofs.rapid_hash.joined.Goals as goal

pub returns : goal.returns
returns c = xor_is c.args.a c.args.b c.ranges.a.fits c.ranges.b.fits
