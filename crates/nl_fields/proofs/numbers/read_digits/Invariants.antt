use Rattle.std.proofs.Common.{◌+◌, ◌<◌, ◌≤◌, ◌^◌, take}
use Rattle.nl_fields.specs.Digits.{IsDigits}
use Rattle.nl_fields.proofs.numbers.read_digits.Given as goal

-- The digits so far are the number so far, which has room for those that are left.
abbrev pub invariant-loop-digit : goal.invariant-loop-digit
invariant-loop-digit l =
    IsDigits l.base l.number (take (l.digit-index + 1) l.digits) × (1 ≤ l.number) × (l.number < l.base ^ (l.digit-index + 1))
