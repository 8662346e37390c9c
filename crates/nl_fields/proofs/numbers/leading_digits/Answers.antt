use Rattle.std.proofs.Common.{ℕ, ◌+◌, ◌≤◌, ap, arith, length, refl, subst, take}
use Rattle.std.proofs.lemmas.Option.{none-some}
use Rattle.nl_fields.specs.Digits.{IsDigits, one, more}
use Rattle.nl_fields.proofs.DigitLemmas.{taken_one, taken_more}
use Rattle.nl_fields.proofs.LeadingLemmas.{none_leads, stops_at}
use Rattle.nl_fields.proofs.ReadLemmas.{bound_more, bound_left}
use Rattle.nl_fields.proofs.numbers.leading_digits.Goals as goal

-- the first byte is no digit
pub returns-in_default-decimal_digit-clause-longest : goal.returns-in_default-decimal_digit-clause-longest
returns-in_default-decimal_digit-clause-longest c n k fits whole =
    none_leads _ _ _ c.in-Some.ensures.cases.0 (λ d digit. none-some d (c.in_default-decimal_digit.ensures.accepts d digit)) n k whole

pub returns-then-number-eq0-clause-spells : goal.returns-then-number-eq0-clause-spells
returns-then-number-eq0-clause-spells c some =
    subst (λ (m : ℕ). IsDigits 10 m (take 1 c.args.bytes.now)) c.if-number-eq0.true
    (rw (taken_one _ _ _ c.in-Some.ensures.cases.0) (one c.in-Some-decimal_digit.ensures.value))

-- another digit would follow a zero
pub returns-then-number-eq0-clause-longest : goal.returns-then-number-eq0-clause-longest
returns-then-number-eq0-clause-longest c n k fits whole =
    stops_at _ _ _ 0 c.in-Some.ensures.cases.0 (returns-then-number-eq0-clause-spells c (omega arith))
    (λ d within some digit. omega (arith, some)) n k fits whole

pub loop-i-init : goal.loop-i-init
loop-i-init c = (
  rw (taken_one _ _ _ c.in-Some.ensures.cases.0) (one c.in-Some-decimal_digit.ensures.value),
  omega (arith, c.if-number-eq0.false),
  c.in-Some-decimal_digit.ensures.value.below,
)

-- the next byte is no digit
pub returns-in_default-decimal_digit-2-clause-longest : goal.returns-in_default-decimal_digit-2-clause-longest
returns-in_default-decimal_digit-2-clause-longest c n k fits whole =
    stops_at _ _ _ c.loop-i.i c.in-Some.ensures.cases.0 c.loop-i.invariant.0
    (λ d within some digit. none-some d (c.in_default-decimal_digit-2.ensures.accepts d digit)) n k fits whole

pub overflow_mul-number : goal.overflow_mul-number
overflow_mul-number c =
    let next : c.loop-i.i + 2 ≤ 19 = omega (arith, c.loop-i-test.true, ap length c.in-Some.ensures.cases.0, c.requires.short) in
    record { fits = omega (arith, bound_left 10 _ 0 _ 19 c.loop-i.invariant.2 (omega arith) next (omega arith)) }

pub overflow_add-number : goal.overflow_add-number
overflow_add-number c =
    let next : c.loop-i.i + 2 ≤ 19 = omega (arith, c.loop-i-test.true, ap length c.in-Some.ensures.cases.0, c.requires.short) in
    record {
      fits = omega (arith, bound_left 10 _ _ _ 19 c.loop-i.invariant.2 c.in-Some-decimal_digit-2.ensures.value.below next (omega arith));
    }

pub loop-i-preserved : goal.loop-i-preserved
loop-i-preserved c =
    let digit = c.in-Some-decimal_digit-2.ensures.value in (
      rw (taken_more _ _ _ c.loop-i.i c.in-Some.ensures.cases.0 c.loop-i-test.true)
          (more c.loop-i.invariant.0 c.loop-i.invariant.1 digit refl),
      omega (arith, c.loop-i.invariant.1),
      bound_more 10 _ _ c.loop-i.i c.loop-i.invariant.2 digit.below,
    )
