use Rattle.std.proofs.Common.{◌∙◌, ◌++◌, ◌*◌, ℕ, List, ap, codes}
use Rattle.std.specs.Prelude.{decimal}
use Rattle.std.proofs.lemmas.Result.{on_ok_weaker}
use Rattle.nl_reports.proofs.EventLemmas.{running_is, running_text}
use Rattle.nl_tool_texts.proofs.TextLemmas.{three_pairs, two_parts}
use Rattle.nl_reports.proofs.trace.append_running.Goals as goal

pub returns : goal.returns
returns c =
    let b = c.args.build in
    let old = c.args.out.now.items in
    let count = codes ",{\"args\":{\"commands\":" ++ decimal c.args.count in
    let number = codes "},\"name\":\"running\",\"ph\":\"C\",\"pid\":" ++ decimal b.number in
    let ts = codes ",\"ts\":" ++ decimal (c.saturating_sub.result * 1000) in
    let named = two_parts old _ _ count number c.in_ok-append_with.ensures.items c.in_ok-append_with-2.ensures.items in
    let timed = two_parts old _ _ (count ++ number) ts named c.in_ok-append_with-3.ensures.items in
    record {
      items = λ cs is. on_ok_weaker c.append.result (λ h. two_parts old _ _ ((count ++ number) ++ ts) (codes "}") timed h
          ∙ ap (λ (l : List ℕ). old ++ l) (three_pairs (codes ",{\"args\":{\"commands\":") (decimal c.args.count) (codes "},\"name\":\"running\",\"ph\":\"C\",\"pid\":") (decimal b.number)
          (codes ",\"ts\":") (decimal (c.saturating_sub.result * 1000)) (codes "}")
          ∙ (λ i. running_text b.number (is i) (c.saturating_sub.ensures i * 1000))
          ∙ running_is b cs c.args.at)) c.append.ensures.items;
    }
