use Rattle.std.proofs.Common.{◌≡◌, ◌∙◌, ◌+◌, ◌++◌, ◌∷◌, [], ℕ, suc, ap, sym, arith, drop, get_or, add-one}
use Rattle.std.proofs.lemmas.List.{append-nil, get_or_default}
use Rattle.nl_tool_doubt.specs.Spans.{both, if_within, within}
use Rattle.nl_tool_doubt.specs.declared.spans.Span.{Span}
use Rattle.nl_tool_doubt.proofs.OrderLemmas.{Joins, joins_last, joins_more, within-drop}
use Rattle.nl_tool_doubt.proofs.SpanLemmas.{both_assoc}
use Rattle.nl_tool_doubt.proofs.spans.merged.Goals as goal
use Rattle.nl_tool_doubt.proofs.spans.merged.Goals.{in-None+in_ok-push-in-None, in-Some+in_ok-push-in-Some}
use Rattle.nl_tool_doubt.proofs.spans.merged.Goals.{in-Some-2+in_ok-push-in-Some-2+in_ok-push-in-Some-2-2}

pub loop-span-preserved : goal.loop-span-preserved
loop-span-preserved c =
    let at = c.loop-span.span-index in
    let ss = c.args.spans.now in
    let d : Span = record { first = 0; least = 0; greatest = 0 } in
    let old = c.loop-span.all.items in
    let span : Span = get_or ss at d in
    let popped = c.pop.new.self.items in
    let new = c.match-pop.all.items in
    let joins : Joins old span new = elim c.match-pop.branch [
      | in-None+in_ok-push-in-None w ↦ joins_more old span new (ap (λ v. v.items) w.all-is ∙ w.in_ok-push-in-None.ensures.items
          ∙ ap (λ l. l ++ span ∷ []) (sym (w.in-None.ensures.items ∙ append-nil popped)))
      | in-Some+in_ok-push-in-Some w ↦ joins_last old popped w.in-Some.last w.both.result span new w.in-Some.ensures.items
          (omega (arith, w.if-last-span.true)) w.both.ensures.value (ap (λ v. v.items) w.all-is ∙ w.in_ok-push-in-Some.ensures.items)
      | in-Some-2+in_ok-push-in-Some-2+in_ok-push-in-Some-2-2 w ↦ joins_more old span new (ap (λ v. v.items) w.all-is
          ∙ w.in_ok-push-in-Some-2-2.ensures.items
          ∙ ap (λ l. l ++ span ∷ []) (w.in_ok-push-in-Some-2.ensures.items ∙ sym w.in-Some.ensures.items))
    ] in
    let below = c.loop-span.invariant.below d (omega arith) in
    record {
      alike = λ from to.
          let rest : within from to (drop (suc at) ss) ≡ within from to (drop (at + 1) ss) = ap (λ (n : ℕ). within from to (drop n ss)) (sym (add-one at)) in
          ap (λ o. both o (within from to (drop (at + 1) ss))) (joins.alike from to)
          ∙ both_assoc (within from to old) (if_within from to (get_or ss at d)) (within from to (drop (at + 1) ss))
          ∙ ap (λ o. both (within from to old) (both (if_within from to (get_or ss at d)) o)) (sym rest)
          ∙ ap (both (within from to old)) (sym (within-drop from to ss at d (omega arith)))
          ∙ c.loop-span.invariant.alike from to;
      rises = joins.rises c.loop-span.invariant.rises below;
      below = λ e more k f there.
          omega (arith, joins.last below k f there, c.requires.rises at (at + 1) e (omega arith) more, ap (λ (s : Span). s.first) (get_or_default ss at d e (omega arith)));
    }
