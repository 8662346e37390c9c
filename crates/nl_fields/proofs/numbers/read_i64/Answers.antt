use Rattle.std.proofs.Common.{arith}
use Rattle.std.proofs.lemmas.Option.{none-some}
use Rattle.nl_fields.proofs.DigitLemmas.{behind_minus, same_value, magnitude_fits, negation_answered}
use Rattle.nl_fields.proofs.numbers.read_i64.Goals as goal

pub returns-in_err-magnitude-in-45-clause-accepts : goal.returns-in_err-magnitude-in-45-clause-accepts
returns-in_err-magnitude-in-45-clause-accepts c n fits whole =
    let negative = behind_minus n c.args.bytes.now (omega arith) whole in
    absurd (none-some _ (c.in_err-magnitude-in-45.ensures.accepts _ (magnitude_fits n _ fits negative.1) negative.2))

pub returns-then-magnitude-eq0-clause-accepts : goal.returns-then-magnitude-eq0-clause-accepts
returns-then-magnitude-eq0-clause-accepts c n fits whole =
    let negative = behind_minus n c.args.bytes.now (omega arith) whole in
    absurd (omega (arith, same_value c.in_ok-magnitude-in-45.ensures.value negative.2))

pub returns-else-magnitude-eq0-clause-accepts : goal.returns-else-magnitude-eq0-clause-accepts
returns-else-magnitude-eq0-clause-accepts c n fits whole =
    let negative = behind_minus n c.args.bytes.now (omega arith) whole in
    let same = same_value c.in_ok-magnitude-in-45.ensures.value negative.2 in
    negation_answered _ _ n _ c.checked_sub_unsigned.ensures fits negative.1 same
