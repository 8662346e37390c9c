use Rattle.std.proofs.Common.{◌+◌, ◌<◌, ◌≤◌, ◌^◌, take}
use Rattle.nl_fields.specs.Digits.{IsDigits}
use Rattle.nl_fields.proofs.numbers.leading_digits.Given as goal

-- The digits so far are the number so far, which has room for those that are left.
abbrev pub invariant-loop-i : goal.invariant-loop-i
invariant-loop-i l = IsDigits 10 l.number (take (l.i + 1) l.bytes) × (1 ≤ l.number) × (l.number < 10 ^ (l.i + 1))
