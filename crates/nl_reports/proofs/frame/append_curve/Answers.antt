use Rattle.std.proofs.Common.{◌≡◌, ◌∙◌, ◌+◌, ◌-◌, ◌++◌, ◌*◌, ◌/◌, ℕ, [], ◌∷◌, ap, arith, codes}
use Rattle.std.proofs.lemmas.Result.{on_ok_weaker}
use Rattle.std.specs.Prelude.{decimal}
use Rattle.nl_reports.specs.Curve.{curve_end, curve_end_text, curve_start, points}
use Rattle.nl_tool_texts.specs.Texts.{joined}
use Rattle.nl_tool_texts.proofs.TextLemmas.{three_parts}
use Rattle.nl_reports.proofs.CurveLemmas.{no_points, one_more_point}
use Rattle.nl_reports.proofs.frame.append_curve.Goals as goal

pub loop-i-init : goal.loop-i-init
loop-i-init c = λ cs are. no_points c.args.frame.now cs c.put.new.out.items

pub loop-i-preserved : goal.loop-i-preserved
loop-i-preserved c =
    let n = c.loop-i.i in
    λ cs are. one_more_point c.args.frame.now cs n c.put.new.out.items c.loop-i.out.items c.put-in-loop-i.new.out.items (c.loop-i.invariant cs are)
    (c.in_ok-put-2.ensures.items ∙ (λ k. c.loop-i.out.items ++ joined (codes "V"
    ∷ decimal ((c.saturating_sub.ensures ∙ (λ i. c.foot-foot.ensures.value i - (c.from.ensures ∙ c.running_near-count.ensures.value cs are) i * 800 / (c.from-most.ensures i + 1))) k)
    ∷ codes "H" ∷ decimal (1030 + n * 30) ∷ [])))

pub returns : goal.returns
returns c =
    let f = c.args.frame.now in
    let old = c.args.out.now.items in
    let before = c.loop-i.out.items in
    let foot = c.foot-foot.ensures.value in
    let above = c.saturating_sub-2.ensures ∙ ap (λ (y : ℕ). y - 720) foot in
    let first = c.in_ok-put.ensures.items ∙ (λ i. old ++ joined (codes "<path class=\"q\" d=\"M1000 " ∷ decimal (foot i) ∷ [])) in
    let all : c.loop-i.i ≡ 480 = omega (arith, c.loop-i-test.false, c.loop-i.auto.i-end) in
    record {
      items = λ cs are. on_ok_weaker c.put-2.result (λ h. three_parts old c.put.new.out.items before c.put-2.new.out.items (curve_start f) (points f cs 480) (curve_end f)
          first (c.loop-i.invariant cs are ∙ ap (λ (n : ℕ). c.put.new.out.items ++ points f cs n) all)
          (h ∙ (λ i. before ++ curve_end_text (foot i) (above i) (c.from-most.ensures i + 1)))) c.put-2.ensures.items;
    }
