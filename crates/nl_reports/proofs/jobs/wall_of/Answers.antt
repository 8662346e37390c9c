use Rattle.std.proofs.Common.{◌≡◌, ◌∙◌, ◌+◌, ◌<◌, ◌≤◌, ◌^◌, ℕ, List, Some, ap, arith, length, map, refl, rules, subst, sym}
use Rattle.std.specs.List.Sorted.{IsPermutation}
use Rattle.std.proofs.lemmas.List.{length-map, take_all}
use Rattle.std.proofs.lemmas.List.Sorted.{length_permutation}
use Rattle.nl_reports.specs.Jobs.{Job, seen}
use Rattle.nl_reports.specs.Plans.{kept}
use Rattle.nl_reports.specs.Reaches.{IsOver}
use Rattle.nl_reports.specs.Rows.{spans}
use Rattle.nl_reports.specs.Spans.{began_of, closed_of, time_of}
use Rattle.nl_reports.specs.Sweep.{last_moment, running}
use Rattle.nl_reports.specs.declared.critical.Reaches.{Reaches}
use Rattle.nl_reports.specs.declared.job.Job.{Job as HeldJob}
use Rattle.nl_reports.specs.declared.moments.Span.{Span}
use Rattle.nl_reports.proofs.CheckedLemmas.{sum_is}
use Rattle.nl_reports.proofs.FoundLemmas.{are_planned}
use Rattle.nl_reports.proofs.PlanLemmas.{few_by, in_plan, made_kept, plan_more, planned_kept, planned_spans, times_as}
use Rattle.nl_reports.proofs.ReachesLemmas.{have_plan}
use Rattle.nl_reports.proofs.jobs.wall_of.Goals as goal

pub loop-place-preserved : goal.loop-place-preserved
loop-place-preserved c =
    let jobs = c.args.jobs.now in
    let i = c.loop-place.place in
    let j = c.index-jobs-place.result in
    let began = c.saturating_sub-began.result in
    let s : Span = record { began = began; ended = c.in_ok-ended.ended } in
    let some : c.checked_add.result ≡ Some c.in_ok-ended.ended = search rules in
    let ended = sum_is c.checked_add.result _ _ c.in_ok-ended.ended c.checked_add.ensures some in
    let time : c.time-in-loop-place.result ≡ time_of j.span = c.time-in-loop-place.ensures.value in
    let took : time_of s ≡ time_of j.span = omega (arith, ended, time) in
    ap (map time_of) c.in_ok-push.ensures.items
    ∙ plan_more jobs c.loop-place.spans.items i j s c.loop-place-test.true c.loop-place.invariant
    (took ∙ ap (λ (k : HeldJob). time_of k.span) c.index-jobs-place.is)

pub returns-then-are_begun : goal.returns-then-are_begun
returns-then-are_begun c = record {
  value = λ g is.
      let jobs = c.args.jobs.now in
      let ks = map seen jobs in
      let ss = c.loop-place.spans.items in
      let past : length jobs ≤ c.loop-place.place = omega (arith, c.loop-place-test.false) in
      let times : map time_of ss ≡ map (λ (j : Job). time_of j.span) ks = c.loop-place.invariant
      ∙ ap (map (λ (j : HeldJob). time_of j.span)) (take_all c.loop-place.place jobs past) ∙ times_as jobs in
      let js = in_plan ks ss in
      let same : map kept js ≡ map kept ks = planned_kept ks ss times in
      let ran : ss ≡ spans js = sym (planned_spans ks ss times) in
      let there : c.as_slice-spans.result.now ≡ spans js = c.as_slice-spans.ensures.value ∙ ran in
      let r : Reaches = record { graph = c.args.found.now.graph; places = c.as_slice.result; spans = c.as_slice-spans.result; behind = c.in_ok-collect-3.field-0 } in
      let over : IsOver g c.args.found.now.places.items (spans js) r = record { graph = is.graph; places = c.as_slice.ensures.value; spans = there } in
      let are = are_planned js ks (made_kept js ks same) g c.args.found.now.places.items r is.are over in
      let last : c.fold-wall.result ≡ last_moment c.as_slice-spans.result.now = search rules in
      let starts = c.rising-starts.result.items in
      let ends = c.rising-ends.result.items in
      let cs = c.as_slice-spans.result.now in
      let p : IsPermutation (map began_of cs) starts = search rules in
      let q : IsPermutation (map closed_of cs) ends = search rules in
      let fits : length starts ≤ c.args.count + length ends = omega (
        arith,
        length_permutation (map began_of cs) starts p,
        length_permutation (map closed_of cs) ends q,
        length-map cs began_of,
        length-map cs closed_of,
      ) in
      let few : (t : ℕ) → running cs t ≤ c.args.count = few_by cs c.args.count starts ends p q fits
      (λ k inside more. c.loop-end.invariant k (omega (arith, inside, c.loop-end-test.false, c.len-end-end.ensures)) more) in
      have_plan g js ks c.args.count c.fold-wall.result r are same
      (subst (λ (cs : List Span). (t : ℕ) → running cs t ≤ c.args.count) there few)
      (last ∙ ap last_moment there) (c.if-are_tight.ensures.value refl) (c.if-are_begun.ensures.value refl);
}
