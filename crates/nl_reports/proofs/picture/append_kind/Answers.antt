use Rattle.std.proofs.Common.{◌≡◌, ◌∙◌, ◌*◌, ◌/◌, ◌++◌, arith, max}
use Rattle.std.proofs.lemmas.Result.{on_ok_weaker}
use Rattle.nl_reports.specs.Picture.{legend_text}
use Rattle.nl_reports.proofs.picture.append_kind.Goals as goal

pub returns : goal.returns
returns c =
    let kind = c.from-kind.ensures ∙ c.place.ensures.value in
    let total : c.max.result ≡ max 1 c.args.total = omega (arith, c.max.ensures) in
    record {
      items = on_ok_weaker c.put.result (λ h. h ∙ (λ i. c.args.out.now.items ++ legend_text (kind i) (c.word.ensures i) (c.args.time * 100 / total i)))
          c.put.ensures.items;
    }
