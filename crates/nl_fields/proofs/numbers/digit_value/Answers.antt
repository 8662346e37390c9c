use Rattle.std.proofs.Common.{◌∙◌, ap, arith, Some}
use Rattle.nl_fields.proofs.ReadLemmas.{digit_fits, digit_found, digit_there}
use Rattle.nl_fields.proofs.numbers.digit_value.Goals as goal

-- no digit is above `f`
pub returns-then-digit-gt102-clause-accepts : goal.returns-then-digit-gt102-clause-accepts
returns-then-digit-gt102-clause-accepts c d digit =
    absurd (omega (arith, digit_fits c.args.base d c.args.digit c.requires digit, c.if-digit-gt102.true))

pub returns-then-value-base-clause-value : goal.returns-then-value-base-clause-value
returns-then-value-base-clause-value c =
    rw c.from-value.ensures
    (digit_there c.args.base c.args.digit c.requires (omega (arith, c.if-digit-gt102.false)) (omega (arith, c.from-value.ensures, c.if-value-base.true)))

pub returns-then-value-base-clause-accepts : goal.returns-then-value-base-clause-accepts
returns-then-value-base-clause-accepts c d digit =
    ap Some (c.from-value.ensures ∙ digit_found c.args.base d c.args.digit c.requires digit)

pub returns-else-value-base-clause-accepts : goal.returns-else-value-base-clause-accepts
returns-else-value-base-clause-accepts c d digit =
    absurd (omega (
      arith,
      digit.below,
      c.from-value.ensures,
      digit_found c.args.base d c.args.digit c.requires digit,
      c.if-value-base.false,
    ))
