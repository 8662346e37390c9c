use Rattle.std.proofs.Common.{◌≡◌, ◌∙◌, ◌+◌, List, ap, arith, drop, get_or, inl, inr, length-set, map, sym}
use Rattle.std.specs.List.{fold}
use Rattle.std.specs.Prelude.{set}
use Rattle.std.proofs.lemmas.Bool.{cases_eq}
use Rattle.std.proofs.lemmas.Grind.{get_or-set_at}
use Rattle.std.proofs.lemmas.List.{at_drop_more, get_or-set_other}
use Rattle.std.proofs.lemmas.List.Elements.{All-contains}
use Rattle.nl_reports.specs.Jobs.{seen}
use Rattle.nl_reports.specs.Spans.{IsEarly, time_of}
use Rattle.nl_reports.specs.Times.{job_work, with_job}
use Rattle.nl_tool_texts.specs.Work.{place, work_of}
use Rattle.nl_reports.specs.declared.job.Job.{Job}
use Rattle.nl_reports.specs.declared.kinds.Times.{Times}
use Rattle.nl_reports.proofs.PictureLemmas.{has_place}
use Rattle.nl_reports.proofs.kinds.Times.of.Goals as goal

pub loop-job-preserved : goal.loop-job-preserved
loop-job-preserved c =
    let jobs = c.args.jobs.now in
    let i = c.loop-job.job-index in
    let j = c.job-item.result in
    let by = c.loop-job.by_place in
    let inv = c.loop-job.invariant in
    let t : Times = record { by_place = by } in
    let rest = map seen (drop (i + 1) jobs) in
    let n = c.place-at.result in
    let more = get_or by n 0 + c.from.result in
    let at : n ≡ place (job_work (seen j)) = c.place-at.ensures.value ∙ ap place (c.work_of.ensures.value ∙ ap work_of c.name.ensures) in
    let took : c.from.result ≡ time_of j.span = c.from.ensures ∙ c.time.ensures.value in
    let now : record { by_place = set by n more } ≡ with_job t (seen j) = λ k. record { by_place = set by (at k) (get_or by (at k) 0 + took k) } in
    let early : IsEarly j.span = All-contains (λ (k : Job). IsEarly k.span) jobs j c.requires.early (i, c.loop-job-test.true, sym c.job-item.is) in
    record {
      value = ap (λ (s : Times). fold with_job s rest) now ∙ ap (λ (k : Job). fold with_job (with_job t (seen k)) rest) c.job-item.is
          ∙ sym (at_drop_more (λ (l : List Job). fold with_job t (map seen l)) jobs i j c.loop-job-test.true) ∙ inv.value;
      few = record {
        all = length-set by n more ∙ inv.few.all;
        few = λ k. elim (cases_eq k n) [
          | inl same ↦ omega (arith, get_or-set_at by n k more 0 same (omega (arith, at, has_place (job_work (seen j)), inv.few.all)), inv.few.few n, took, early.ended)
          | inr other ↦ omega (arith, get_or-set_other by n k more 0 other, inv.few.few k)
        ];
      };
    }
