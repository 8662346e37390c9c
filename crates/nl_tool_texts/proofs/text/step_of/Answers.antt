use Rattle.std.proofs.Common.{◌≡◌, ◌∙◌, ◌+◌, ◌*◌, ◌<◌, false, arith, drop, get_or, length, subst, sym}
use Rattle.std.specs.List.{All}
use Rattle.std.specs.Prelude.{nat_le}
use Rattle.std.proofs.lemmas.Bool.{cond-false}
use Rattle.std.proofs.lemmas.Bool.Decides.{nat_tests}
use Rattle.std.proofs.lemmas.List.{at_drop_more, get_or_default}
use Rattle.std.proofs.lemmas.List.Elements.{All-contains}
use Rattle.nl_tool_texts.specs.Steps.{IsStep, step_in}
use Rattle.nl_tool_texts.proofs.StepLemmas.{all_steps}
use Rattle.nl_tool_texts.proofs.text.step_of.Goals as goal

pub overflow_mul-step : goal.overflow_mul-step
overflow_mul-step c =
    let steps = c.as_slice-step-items.result.now in
    let i = c.loop-step.step-index in
    let small : All IsStep steps = subst (All IsStep) (sym c.as_slice-step-items.ensures) all_steps in
    let within : i < length steps = omega (arith, c.loop-step-test.true) in
    let step : IsStep (get_or steps i 0) = All-contains IsStep steps (get_or steps i 0) small (i, within, get_or_default steps i (get_or steps i 0) 0 within) in
    omega (arith, step.early)

pub loop-step-preserved : goal.loop-step-preserved
loop-step-preserved c =
    let steps = c.as_slice-step-items.result.now in
    let wall = c.args.wall in
    let i = c.loop-step.step-index in
    let step = get_or steps i 0 in
    let within : i < length steps = omega (arith, c.loop-step-test.true) in
    let below : step * 12 < wall = c.if-wall-step.false in
    let not : nat_le wall (step * 12) ≡ false = grind (arith, nat_tests) in
    sym (cond-false (nat_le wall (step * 12)) step (step_in wall (drop (i + 1) steps)) not) ∙ sym (at_drop_more (step_in wall) steps i 0 within)
    ∙ c.loop-step.invariant
