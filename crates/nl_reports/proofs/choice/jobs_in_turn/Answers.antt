use Rattle.std.proofs.Common.{◌≡◌, ◌∙◌, ◌+◌, ◌++◌, ◌∷◌, ℕ, List, [], None, Option, Some, false, ap, append-nil, append_assoc, arith, drop, map, max, refl, rules, subst, sym}
use Rattle.std.specs.Prelude.{slice_get}
use Rattle.std.proofs.lemmas.List.{at_drop_more, drop_all}
use Rattle.nl_builds.specs.declared.build.Build.{Build}
use Rattle.nl_builds.specs.declared.build.How.TheVariants.{AsWritten}
use Rattle.nl_reports.specs.Jobs.{Job, build_jobs, jobs_from, seen, told}
use Rattle.nl_reports.specs.Frame.{first_began}
use Rattle.nl_reports.specs.Rows.{by_start, spans}
use Rattle.nl_reports.specs.Turns.{clock_behind, jobs_turned, turned_job, turned_jobs, turned_span}
use Rattle.nl_reports.specs.Spans.{IsEarly, closed_of}
use Rattle.nl_reports.specs.declared.moments.Span.{Span}
use Rattle.nl_reports.proofs.TurnLemmas.{clock_more, job_more}
use Rattle.std.specs.List.{All}
use Rattle.std.proofs.lemmas.List.Elements.{All-push}
use Rattle.nl_reports.specs.declared.job.Job.{Job as Held}
use Rattle.nl_reports.proofs.choice.jobs_in_turn.Goals as goal

abbrev start_of : Option Held → ℕ
start_of None = 0
start_of (Some j) = j.span.began

start_is : (js : List Held) → start_of (slice_get js 0) ≡ first_began (spans (map seen js))
start_is [] = refl
start_is (j ∷ js) = refl

pub loop-job-preserved : goal.loop-job-preserved
loop-job-preserved c =
    let xs = c.as_slice-jobs.result.now in
    let i = c.loop-job.job-index in
    let j = c.job-item.result in
    let began = c.map_or-began.result in
    let clock = c.loop-build.clock in
    let inv = c.loop-job.invariant in
    let span : Span = record { began = c.turned.result; ended = c.turned-in-loop-job.result } in
    let moved : Held = record { span = span; hash = j.hash; outputs = j.outputs } in
    let span_is : span ≡ turned_span began clock j.span = λ n. record { began = c.turned.ensures.value n; ended = c.turned-in-loop-job.ensures.value n } in
    record {
      jobs = job_more began clock xs c.loop-job.all.items c.push.new.self.items i j moved _ c.loop-job-test.true c.job-item.is c.in_ok-push.ensures.items
          (λ n. record { span = span_is n; hash = j.hash; outputs = j.outputs.now }) inv.jobs;
      clock = clock_more began clock c.loop-job.clock c.max-clock.result xs i j _ c.loop-job-test.true c.job-item.is
          (c.max-clock.ensures ∙ ap (λ (n : ℕ). max c.loop-job.clock n) (c.closed.ensures.value ∙ ap closed_of span_is)) inv.clock;
      bound = omega (arith, c.max-clock.ensures, c.closed.ensures.value, c.turned.ensures.bound, c.turned-in-loop-job.ensures.bound, inv.bound);
      early = subst (All (λ (k : Held). IsEarly k.span)) (sym c.in_ok-push.ensures.items) (All-push (λ (k : Held). IsEarly k.span) c.loop-job.all.items moved inv.early
          (record { began = c.turned.ensures.bound; ended = c.turned-in-loop-job.ensures.bound }));
    }

pub loop-build-preserved : goal.loop-build-preserved
loop-build-preserved c =
    let t = told c.args.from.now in
    let bs = c.between-builds.result.now in
    let i = c.loop-build._build-index in
    let n = c.loop-build.number in
    let clock = c.loop-build.clock in
    let no : Build = record { to = 0; began = None; how = AsWritten; is_sure = false } in
    let old = map seen c.loop-build.all.items in
    let xs = c.as_slice-jobs.result.now in
    let new = map seen c.loop-job.all.items in
    let began = c.map_or-began.result in
    let first : began ≡ start_of (slice_get xs 0) = search rules in
    let began_is : began ≡ first_began (spans (map seen xs)) = first ∙ start_is xs in
    let done : drop c.loop-job.job-index xs ≡ [] = drop_all c.loop-job.job-index xs (omega (arith, c.loop-job-test.false)) in
    let ran : map seen xs ≡ by_start (build_jobs t n) =
    ap (map seen) c.as_slice-jobs.ensures.value ∙ c.in_ok-sorted.ensures.value ∙ ap by_start (c.in_ok-jobs_from.ensures.value
    ∙ (λ k. jobs_from (c.as_slice-in-loop-build.ensures.value k) (c.made_by-place.ensures.place k) (c.made_by-place.ensures.commands k))) in
    let js = turned_jobs clock (by_start (build_jobs t n)) in
    let rest : ℕ → List Job = λ k. jobs_turned k t (n + 1) (drop (i + 1) bs) in
    let now : new ≡ old ++ js = sym (append-nil new) ∙ ap (λ (l : List Held). new ++ map (turned_job began clock) (map seen l)) (sym done)
    ∙ c.loop-job.invariant.jobs ∙ ap (λ (b : ℕ). old ++ map (turned_job b clock) (map seen xs)) began_is
    ∙ ap (λ (l : List Job). old ++ turned_jobs clock l) ran in
    let then : c.loop-job.clock ≡ clock_behind clock js =
    ap (λ (l : List Held). clock_behind c.loop-job.clock (map (turned_job began clock) (map seen l))) (sym done)
    ∙ c.loop-job.invariant.clock ∙ ap (λ (b : ℕ). clock_behind clock (map (turned_job b clock) (map seen xs))) began_is
    ∙ ap (λ (l : List Job). clock_behind clock (turned_jobs clock l)) ran in
    record {
      jobs = (λ k. now k ++ rest (then k)) ∙ append_assoc old js (rest (clock_behind clock js))
          ∙ ap (λ (l : List Job). old ++ l) (sym (at_drop_more (λ (l : List Build). jobs_turned clock t n l) bs i no c.loop-build-test.true))
          ∙ c.loop-build.invariant.jobs;
      number = omega (arith, c.loop-build.invariant.number);
      clock = c.loop-job.invariant.bound;
      early = c.loop-job.invariant.early;
    }
