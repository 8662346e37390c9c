use Rattle.std.proofs.Common.{FitsSigned, rules, subst, sym, w32, w64, ℤ, ◌∙◌}
use Rattle.std.proofs.lemmas.Int.{to_z-of_z}
use Rattle.nl_fields.proofs.LeadingLemmas.{not_ok, same_decimal_begun}
use Rattle.nl_fields.proofs.numbers.split_i32.Goals as goal

pub returns-in_err-ok-clause-accepts : goal.returns-in_err-ok-clause-accepts
returns-in_err-ok-clause-accepts c n rest fits begins =
    let same = same_decimal_begun begins c.in_ok-number.ensures.found in
    absurd
    (not_ok _ c.try_from.result c.try_from.ensures (sym c.in_err-ok.ensures.value) (subst (λ (z : ℤ). FitsSigned w32 z) (same ∙ sym (to_z-of_z w64 c.in_ok-number.number (search rules))) fits))
