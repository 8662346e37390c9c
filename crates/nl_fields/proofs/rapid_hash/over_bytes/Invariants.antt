use Rattle.std.proofs.Common.{◌≡◌, take}
use Rattle.std.specs.Prelude.{fold}
use Rattle.nl_fields.specs.RapidHash.{with_sixteen, secret_0, secret_1, secret_2}
use Rattle.nl_fields.proofs.rapid_hash.over_bytes.Given as goal

-- Each number is that of the groups so far.
abbrev pub invariant-loop-group : goal.invariant-loop-group
invariant-loop-group l =
    (l.first ≡ fold (with_sixteen secret_0 0) l.hash (take l.group-index l.groups))
    × (l.second ≡ fold (with_sixteen secret_1 16) l.hash (take l.group-index l.groups))
    × (l.third ≡ fold (with_sixteen secret_2 32) l.hash (take l.group-index l.groups))
