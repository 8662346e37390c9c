use Rattle.std.proofs.Common.{◌∙◌, ◌+◌, ◌++◌, ◌∷◌, [], List, ap, append_assoc, drop, map, subst, sym}
use Rattle.std.specs.List.{All, Contains}
use Rattle.std.proofs.lemmas.List.{at_drop_more}
use Rattle.std.proofs.lemmas.List.Elements.{All-contains, All-push}
use Rattle.nl_reports.specs.Jobs.{seen}
use Rattle.nl_reports.specs.Numbers.{spans_of}
use Rattle.nl_reports.specs.Spans.{IsEarly}
use Rattle.nl_reports.specs.declared.job.Job.{Job}
use Rattle.nl_reports.specs.declared.moments.Span.{Span}
use Rattle.nl_reports.proofs.job.spans_of.Goals as goal

pub loop-job-preserved : goal.loop-job-preserved
loop-job-preserved c =
    let k = c.job-item.result in
    let among : Contains c.args.jobs.now k = (c.loop-job.job-index, c.loop-job-test.true, sym c.job-item.is) in
    let old = c.loop-job.spans.items in
    let rest = spans_of (map seen (drop (c.loop-job.job-index + 1) c.args.jobs.now)) in
    record {
      told = ap (λ (l : List Span). l ++ rest) c.in_ok-push.ensures.items ∙ append_assoc old (k.span ∷ []) rest
          ∙ ap (λ (j : Job). old ++ (j.span ∷ rest)) c.job-item.is
          ∙ ap (λ (l : List Span). old ++ l) (sym (at_drop_more (λ (l : List Job). spans_of (map seen l)) c.args.jobs.now c.loop-job.job-index k c.loop-job-test.true))
          ∙ c.loop-job.invariant.told;
      early = λ all. subst (All IsEarly) (sym c.in_ok-push.ensures.items) (All-push IsEarly c.loop-job.spans.items k.span (c.loop-job.invariant.early all)
          (All-contains (λ (j : Job). IsEarly j.span) c.args.jobs.now k all among));
    }
