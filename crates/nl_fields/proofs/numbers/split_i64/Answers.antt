use Rattle.std.proofs.Common.{◌∷◌, ap, arith, pos, suc, subst, sym, ◌∙◌, FitsSigned, w64, ℕ, ℤ}
use Rattle.std.proofs.lemmas.Int.{to_z-of_z}
use Rattle.std.proofs.lemmas.Option.{none-some}
use Rattle.nl_fields.proofs.DigitLemmas.{magnitude_fits, negation_answered}
use Rattle.nl_fields.proofs.LeadingLemmas.{behind_minus_begins, minus_begins, not_ok, not_some, plain_begins, plain_fits, same_begun}
use Rattle.nl_fields.proofs.numbers.split_i64.Goals as goal

pub returns-in_err-magnitude-clause-accepts : goal.returns-in_err-magnitude-clause-accepts
returns-in_err-magnitude-clause-accepts c n rest fits begins =
    let minus = c.in_ok-first.ensures.cases.0 ∙ ap (λ (x : ℕ). x ∷ c.in_ok-first.digits.now) c.if-first-eq45.true in
    let negative = behind_minus_begins n _ _ rest minus begins in
    absurd (not_some (c.in_err-magnitude.ensures.accepts (suc negative.0) rest (magnitude_fits n _ fits negative.1) negative.2))

pub returns-then-magnitude-eq0-clause-accepts : goal.returns-then-magnitude-eq0-clause-accepts
returns-then-magnitude-eq0-clause-accepts c n rest fits begins =
    let minus = c.in_ok-first.ensures.cases.0 ∙ ap (λ (x : ℕ). x ∷ c.in_ok-first.digits.now) c.if-first-eq45.true in
    let negative = behind_minus_begins n _ _ rest minus begins in
    absurd (omega (arith, same_begun c.in_ok-magnitude.ensures.found negative.2, c.if-magnitude-eq0.true))

pub returns-in_err-checked_sub_unsigned-clause-accepts : goal.returns-in_err-checked_sub_unsigned-clause-accepts
returns-in_err-checked_sub_unsigned-clause-accepts c n rest fits begins =
    let minus = c.in_ok-first.ensures.cases.0 ∙ ap (λ (x : ℕ). x ∷ c.in_ok-first.digits.now) c.if-first-eq45.true in
    let negative = behind_minus_begins n _ _ rest minus begins in
    let same = same_begun c.in_ok-magnitude.ensures.found negative.2 in
    absurd (none-some n (negation_answered _ _ n _ c.in_err-checked_sub_unsigned.ensures fits negative.1 same))

pub returns-in_ok-checked_sub_unsigned-clause-found : goal.returns-in_ok-checked_sub_unsigned-clause-found
returns-in_ok-checked_sub_unsigned-clause-found c =
    let answer = c.in_ok-checked_sub_unsigned.ensures in
    let minus = c.in_ok-first.ensures.cases.0 ∙ ap (λ (x : ℕ). x ∷ c.in_ok-first.digits.now) c.if-first-eq45.true in
    let fits = subst (λ (z : ℤ). FitsSigned w64 z) (sym answer.1) answer.0 in
    rw (to_z-of_z w64 _ fits)
    (minus_begins _ _ _ _ _ minus (omega (arith, c.if-magnitude-eq0.false)) answer.1 c.in_ok-magnitude.ensures.found)

pub returns-in_err-magnitude-2-clause-accepts : goal.returns-in_err-magnitude-2-clause-accepts
returns-in_err-magnitude-2-clause-accepts c n rest fits begins =
    let plain = plain_begins n _ _ _ rest c.in_ok-first.ensures.cases.0 c.if-first-eq45.false begins in
    absurd (not_some (c.in_err-magnitude-2.ensures.accepts plain.0 rest (plain_fits n _ fits plain.1) plain.2))

pub returns-in_err-ok-clause-accepts : goal.returns-in_err-ok-clause-accepts
returns-in_err-ok-clause-accepts c n rest fits begins =
    let plain = plain_begins n _ _ _ rest c.in_ok-first.ensures.cases.0 c.if-first-eq45.false begins in
    let same = same_begun plain.2 c.in_ok-magnitude-2.ensures.found in
    absurd (not_ok _ c.try_from.result c.try_from.ensures (sym c.in_err-ok.ensures.value) (subst (λ (m : ℕ). FitsSigned w64 (pos m)) same (subst (λ (z : ℤ). FitsSigned w64 z) plain.1 fits)))
