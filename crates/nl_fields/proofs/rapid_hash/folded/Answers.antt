use Rattle.std.proofs.Common.{◌≡◌, ◌*◌, ◌/◌, ◌%◌, ◌^◌, arith}
use Rattle.nl_fields.proofs.rapid_hash.folded.Goals as goal

pub returns : goal.returns
returns c =
    let low : c.carrying_mul-low.result.0 ≡ c.args.x * c.args.y % 2 ^ 64 = omega (arith, c.carrying_mul-low.ensures) in
    let high : c.carrying_mul-low.result.1 ≡ c.args.x * c.args.y / 2 ^ 64 = omega (arith, c.carrying_mul-low.ensures) in
    rw (← low, ← high) c.joined.ensures
