use Rattle.std.proofs.Common.{◌≡◌, ◌∙◌, ◌+◌, ◌-◌, None, Some, ap, sym, arith}
use Rattle.std.specs.Prelude.{◌||◌, nat_le, nat_lt}
use Rattle.std.proofs.lemmas.Bool.Decides.{nat_tests}
use Rattle.nl_tool_doubt.specs.Spans.{within}
use Rattle.nl_tool_doubt.proofs.LineLemmas.{of_lines, sure_none, sure_some}
use Rattle.nl_tool_doubt.proofs.moments.Moments.is_sure.Goals as goal

pub returns-then-near-le12 : goal.returns-then-near-le12
returns-then-near-le12 c =
    let known = of_lines c.self.view_is c.self.invariant in
    let m = c.args.moment in
    let near = c.in-Some.near in
    let is : within m (m + 6) c.self.inside.starts.items ≡ Some near = ap (within m (m + 6)) (sym c.as_slice.ensures.value) ∙ sym c.within.ensures.value ∙ c.in-Some.is in
    let short : nat_le near.least 12 ≡ (nat_le near.least 12 || nat_lt 12 (near.greatest - near.least)) = grind (arith, nat_tests) in
    record { value = short ∙ sure_some c.self.inside.starts.items c.args.self.now known.starts m near is }

pub returns-else-near-le12 : goal.returns-else-near-le12
returns-else-near-le12 c =
    let known = of_lines c.self.view_is c.self.invariant in
    let m = c.args.moment in
    let near = c.in-Some.near in
    let is : within m (m + 6) c.self.inside.starts.items ≡ Some near = ap (within m (m + 6)) (sym c.as_slice.ensures.value) ∙ sym c.within.ensures.value ∙ c.in-Some.is in
    let long : nat_lt 12 (near.greatest - near.least) ≡ (nat_le near.least 12 || nat_lt 12 (near.greatest - near.least)) = grind (arith, nat_tests) in
    record { value = ap (nat_lt 12) c.above.ensures.value ∙ long ∙ sure_some c.self.inside.starts.items c.args.self.now known.starts m near is }

pub returns-in-None : goal.returns-in-None
returns-in-None c =
    let known = of_lines c.self.view_is c.self.invariant in
    let m = c.args.moment in
    let is : within m (m + 6) c.self.inside.starts.items ≡ None = ap (within m (m + 6)) (sym c.as_slice.ensures.value) ∙ sym c.within.ensures.value ∙ c.in-None.is in
    record { value = sure_none c.self.inside.starts.items c.args.self.now known.starts m is }
