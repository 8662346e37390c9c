use Rattle.std.proofs.Common.{◌≡◌, ◌*◌, ◌/◌, ◌%◌, ◌^◌, arith, rules}
use Rattle.nl_fields.specs.RapidHash.{rapid_hash_of}
use Rattle.nl_fields.proofs.rapid_hash.command_hash_v7.Goals as goal

pub returns : goal.returns
unfolding rapid_hash_of
returns c =
    let low : c.carrying_mul-low.result.0 ≡ c.joined-3.result * c.joined-4.result % 2 ^ 64 = omega (arith, c.carrying_mul-low.ensures) in
    let high : c.carrying_mul-low.result.1 ≡ c.joined-3.result * c.joined-4.result / 2 ^ 64 = omega (arith, c.carrying_mul-low.ensures) in
    search (rules, low, high)
