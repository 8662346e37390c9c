use Rattle.std.proofs.Common.{◌∙◌, arith}
use Rattle.nl_tool_doubt.proofs.LineLemmas.{nearest_far, nearest_none, nearest_some, of_lines, window}
use Rattle.nl_tool_doubt.proofs.moments.Moments.nearest.Goals as goal

pub returns-in-Some : goal.returns-in-Some
returns-in-Some c =
    let known = of_lines c.self.view_is c.self.invariant in
    let is = window c.args.own c.saturating_sub.ensures c.as_slice.ensures.value c.within.ensures.value c.in-Some.is in
    record { value = c.saturating_sub-in-Some.ensures ∙ nearest_some c.self.inside.starts.items c.args.self.now known.starts c.args.own c.in-Some.near is (omega (arith, c.above.ensures.value, c.max.ensures, c.if-above-max.true)) }

pub returns-in_default : goal.returns-in_default
returns-in_default c =
    let known = of_lines c.self.view_is c.self.invariant in
    let is = window c.args.own c.saturating_sub.ensures c.as_slice.ensures.value c.within.ensures.value c.in-Some.is in
    record { value = nearest_far c.self.inside.starts.items c.args.self.now known.starts c.args.own c.in-Some.near is (omega (arith, c.above.ensures.value, c.max.ensures, c.if-above-max.false)) }

pub returns-in_default-2 : goal.returns-in_default-2
returns-in_default-2 c =
    let known = of_lines c.self.view_is c.self.invariant in
    let is = window c.args.own c.saturating_sub.ensures c.as_slice.ensures.value c.within.ensures.value c.in_default.is in
    record { value = nearest_none c.self.inside.starts.items c.args.self.now known.starts c.args.own is }
