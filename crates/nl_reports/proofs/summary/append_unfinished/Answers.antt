use Rattle.std.proofs.Common.{◌≡◌, ◌∙◌, ◌++◌, List, Option, ℕ, ap, arith, codes, false, refl, suc, true, zero}
use Rattle.std.proofs.lemmas.Bool.Decides.{nat_tests}
use Rattle.std.proofs.lemmas.Result.{on_ok_weaker}
use Rattle.std.specs.Bool.{then_some}
use Rattle.std.specs.Prelude.{◌==◌, Bool, nat_lt}
use Rattle.nl_reports.specs.Summary.{count_line, unfinished_line}
use Rattle.nl_reports.proofs.summary.append_unfinished.Goals as goal

-- none waits where their count is 0
waiting : (screen : Bool) (count : ℕ) → count_line screen (codes "unfinished") (codes "outputs have yet to be made") (then_some (nat_lt 0 count) count) ≡ unfinished_line screen count
waiting screen zero = refl
waiting screen (suc n) =
    let some : nat_lt 0 (suc n) ≡ true = grind (arith, nat_tests) in
    let other : (suc n == 0) ≡ false = grind (arith, nat_tests) in
    rw (some, other) refl

pub returns : goal.returns
returns c =
    let screen = c.args.screen in
    let shown : Option ℕ → List ℕ = λ o. c.args.lines.now.items ++ count_line screen (codes "unfinished") (codes "outputs have yet to be made") o in
    record {
      items = on_ok_weaker c.append_count.result (λ h. h ∙ ap shown c.then_some-count.ensures
          ∙ ap (λ (l : List ℕ). c.args.lines.now.items ++ l) (waiting screen c.args.count)) c.append_count.ensures.items;
    }
