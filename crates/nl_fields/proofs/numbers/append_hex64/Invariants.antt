use Rattle.std.proofs.Common.{◌≡◌, ◌<◌, ◌^◌, drop, length}
use Rattle.nl_fields.proofs.numbers.append_hex64.Given as goal
use Rattle.nl_fields.proofs.HexLemmas.{Completes}

-- There is room for what is left, whose digits complete the number.
abbrev pub invariant-loop-left : goal.invariant-loop-left
invariant-loop-left l =
    (length l.digits ≡ 16) × (l.start < 16) × (l.left < 16 ^ l.start) × Completes l.number l.left (drop l.start l.digits)

abbrev pub decreases-loop-left : goal.decreases-loop-left
decreases-loop-left l = l.left
