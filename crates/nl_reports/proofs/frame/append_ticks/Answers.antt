use Rattle.std.proofs.Common.{◌≡◌, ◌∙◌, ◌+◌, ◌-◌, ◌++◌, ◌*◌, ◌∷◌, [], ap, arith, codes}
use Rattle.std.specs.Prelude.{decimal}
use Rattle.nl_reports.specs.Frame.{x_of}
use Rattle.nl_tool_texts.specs.Texts.{joined, time_text}
use Rattle.nl_reports.proofs.CurveLemmas.{no_ticks, one_more_tick}
use Rattle.nl_reports.proofs.frame.append_ticks.Goals as goal

pub loop-i-init : goal.loop-i-init
loop-i-init c = no_ticks c.args.frame.now c.step_of-step.result c.args.out.now.items

pub loop-i-preserved : goal.loop-i-preserved
loop-i-preserved c =
    let ms = c.loop-i.i * c.step_of-step.result in
    let since : (c.args.frame.now.began + ms) - c.args.frame.now.began ≡ ms = omega arith in
    one_more_tick c.args.frame.now c.step_of-step.result c.loop-i.i c.args.out.now.items c.loop-i.out.items c.put.new.out.items
    c.loop-i.invariant (c.in_ok-put.ensures.items
    ∙ (λ k. let x = (c.from-x.ensures ∙ c.x_at.ensures.value ∙ ap (x_of c.args.frame.now) since) k in
    c.loop-i.out.items ++ joined (codes "<path class=\"g\" d=\"M" ∷ decimal x ∷ codes " 1000V" ∷ decimal (c.foot.ensures.value k) ∷ codes "\"/><text class=\"m\" x=\""
    ∷ decimal x ∷ codes "\" y=\"950\" text-anchor=\"middle\">" ∷ time_text ms ∷ codes "</text>\n" ∷ [])))
