use Rattle.std.proofs.Common.{◌≡◌, ◌∙◌, ◌<◌, ◌^◌, ℤ, pos, ap, FitsSigned, w64, to_z, of_z, arith}
use Rattle.std.specs.Result.{OkIff, result_ok}
use Rattle.std.proofs.lemmas.Int.{to_z-of_z}
use Rattle.std.proofs.lemmas.Option.{none-some}
use Rattle.std.proofs.lemmas.Result.{Ok-from_Ok_iff}
use Rattle.nl_tool.proofs.numbers.count_in.Goals as goal

pub returns-in_err-read_i64-clause-accepts : goal.returns-in_err-read_i64-clause-accepts
returns-in_err-read_i64-clause-accepts c n small is =
    let fits : FitsSigned w64 (pos n) = record { sfits = small } in
    absurd (none-some _ (c.in_err-read_i64.ensures.accepts (pos n) fits is))

pub returns-clause-accepts : goal.returns-clause-accepts
returns-clause-accepts c n small is =
    let fits : FitsSigned w64 (pos n) = record { sfits = small } in
    let h = c.in_ok-read_i64.ensures.accepts (pos n) fits is in
    let read : c.in_ok-read_i64.field-0 ≡ pos n = cc in
    let number : to_z w64 (of_z w64 c.in_ok-read_i64.field-0) ≡ pos n = ap (λ (z : ℤ). to_z w64 (of_z w64 z)) read
    ∙ to_z-of_z w64 (pos n) fits in
    let converts : OkIff c.try_from.result (n < 2 ^ 64) n = rw number at c.try_from.ensures in
    c.ok.ensures.value ∙ ap result_ok (Ok-from_Ok_iff _ _ _ converts (omega arith))
