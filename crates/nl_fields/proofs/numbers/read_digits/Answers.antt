use Rattle.std.proofs.Common.{◌+◌, ◌<◌, ◌≤◌, Some, ap, arith, refl, length, take}
use Rattle.std.proofs.lemmas.Bool.Decides.{nat_tests}
use Rattle.std.proofs.lemmas.Option.{none-some}
use Rattle.std.proofs.Math.Nat.{mul-le-mul_left}
use Rattle.nl_fields.specs.Digits.{IsDigits, one, more}
use Rattle.nl_fields.proofs.DigitLemmas.{first_of, taken_one, taken_more, all_taken, next_taken, same_value}
use Rattle.nl_fields.proofs.ReadLemmas.{bound_more, bound_left}
use Rattle.nl_fields.proofs.NumberLemmas.{length_within, pow-one}
use Rattle.nl_fields.proofs.numbers.read_digits.Goals as goal

pub returns-then-digits-longest-clause-accepts : goal.returns-then-digits-longest-clause-accepts
returns-then-digits-longest-clause-accepts c n fits spelled =
    absurd (omega (arith, length_within spelled c.args.longest c.requires.some fits, c.if-digits-longest.true))

-- the first byte is no digit
pub returns-in_err-number-clause-accepts : goal.returns-in_err-number-clause-accepts
returns-in_err-number-clause-accepts c n fits spelled =
    let whole = rw c.in_ok-first.ensures.cases.0 at spelled in
    let digit = first_of _ _ whole in
    absurd (none-some digit.0 (c.in_err-number.ensures.accepts digit.0 digit.1))

-- the one byte is the digit of the number
pub returns-then-is_empty-clause-value : goal.returns-then-is_empty-clause-value
returns-then-is_empty-clause-value c =
    let is = c.in_ok-first.ensures.cases.0 in
    let none : length c.in_ok-first.rest.now ≤ 0 = grind (arith, nat_tests, c.if-is_empty.ensures) in
    rw (← all_taken c.args.digits.now c.in_ok-first.first.now c.in_ok-first.rest.now 0 is none)
    (rw (taken_one c.args.digits.now c.in_ok-first.first.now c.in_ok-first.rest.now is) (one c.in_ok-number.ensures.value))

-- another digit would follow a zero
pub returns-then-number-eq0-clause-accepts : goal.returns-then-number-eq0-clause-accepts
returns-then-number-eq0-clause-accepts c n fits spelled =
    let is = c.in_ok-first.ensures.cases.0 in
    let some : 0 < length c.in_ok-first.rest.now = grind (arith, nat_tests, c.if-is_empty.ensures) in
    let first : IsDigits c.args.base c.in_ok-number.number (take (0 + 1) c.args.digits.now) =
    rw (taken_one c.args.digits.now c.in_ok-first.first.now c.in_ok-first.rest.now is) (one c.in_ok-number.ensures.value) in
    let next = next_taken c.args.digits.now c.in_ok-first.first.now c.in_ok-first.rest.now 0 is some spelled first in
    absurd (omega (arith, next.2.1, c.if-number-eq0.true))

pub loop-digit-init : goal.loop-digit-init
loop-digit-init c = (
  rw (taken_one c.args.digits.now c.in_ok-first.first.now c.in_ok-first.rest.now c.in_ok-first.ensures.cases.0)
      (one c.in_ok-number.ensures.value),
  omega (arith, c.if-number-eq0.false),
  omega (arith, c.in_ok-number.ensures.value.below, pow-one c.args.base),
)

pub overflow_mul-number : goal.overflow_mul-number
overflow_mul-number c =
    let next : c.loop-digit.digit-index + 2 ≤ c.args.longest =
    omega (arith, c.loop-digit-test.true, ap length c.in_ok-first.ensures.cases.0, c.if-digits-longest.false) in
    let some : 0 < c.args.base = omega (arith, c.in_ok-number.ensures.value.below) in
    record { fits = omega (arith, bound_left _ _ 0 _ _ c.loop-digit.invariant.2 some next c.requires.fits) }

-- the next byte is no digit
pub returns-in_err-number-2-clause-accepts : goal.returns-in_err-number-2-clause-accepts
returns-in_err-number-2-clause-accepts c n fits spelled =
    let next = next_taken _ _ _ _ c.in_ok-first.ensures.cases.0 c.loop-digit-test.true spelled c.loop-digit.invariant.0 in
    absurd (none-some next.2.0 (c.in_err-number-2.ensures.accepts next.2.0 next.2.2))

pub overflow_add-number : goal.overflow_add-number
overflow_add-number c =
    let next : c.loop-digit.digit-index + 2 ≤ c.args.longest =
    omega (arith, c.loop-digit-test.true, ap length c.in_ok-first.ensures.cases.0, c.if-digits-longest.false) in
    record { fits = omega (arith, bound_left _ _ _ _ _ c.loop-digit.invariant.2 c.in_ok-number-2.ensures.value.below next c.requires.fits) }

pub loop-digit-preserved : goal.loop-digit-preserved
loop-digit-preserved c =
    let digit = c.in_ok-number-2.ensures.value in
    let some : 0 < c.args.base = omega (arith, c.in_ok-number.ensures.value.below) in (
      rw (taken_more _ _ _ c.loop-digit.digit-index c.in_ok-first.ensures.cases.0 c.loop-digit-test.true)
          (more c.loop-digit.invariant.0 c.loop-digit.invariant.1 digit refl),
      omega (arith, some, mul-le-mul_left c.args.base c.loop-digit.invariant.1),
      bound_more _ _ _ c.loop-digit.digit-index c.loop-digit.invariant.2 digit.below,
    )

pub returns-clause-value : goal.returns-clause-value
returns-clause-value c =
    rw (← all_taken c.args.digits.now _ _ c.loop-digit.digit-index c.in_ok-first.ensures.cases.0 c.loop-digit-test.false)
    c.loop-digit.invariant.0

pub returns-clause-accepts : goal.returns-clause-accepts
returns-clause-accepts c n fits spelled = ap Some (same_value (returns-clause-value c) spelled)
