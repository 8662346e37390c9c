use Rattle.std.proofs.Common.{◌≡◌, ◌∙◌, ◌+◌, ◌<◌, ◌≤◌, ◌++◌, ◌∷◌, [], ℕ, Bool, List, Option, ap, append-nil, append_assoc, arith, drop, get_or, length, map, option_map, replicate, rules, subst, sym, take, true}
use Rattle.std.proofs.lemmas.List.{at_drop_more, drop_all, length-map, map-append}
use Rattle.std.proofs.Math.Seq.{take-append_seam}
use Rattle.nl_reports.specs.Compare.{Compared, compared_of, fresh, held_side, job_at, pair_of, pairs_from, partner, told_pair, with_taken}
use Rattle.nl_reports.specs.Jobs.{Job, seen}
use Rattle.nl_reports.specs.Lasting.{marked}
use Rattle.nl_reports.specs.Outputs.{HoldPlaces, places_of}
use Rattle.nl_reports.specs.declared.job.Job.{Job as HeldJob}
use Rattle.nl_reports.specs.declared.sides.ComparedRow.{ComparedRow}
use Rattle.nl_reports.proofs.CompareLemmas.{fresh_told, none_marked}
use Rattle.nl_reports.proofs.sides.rows_of.Goals as goal

pub loop-job-init : goal.loop-job-init
loop-job-init c =
    let old = held_side c.args.old.now in
    let new = held_side c.args.new.now in
    let all : c.in_ok-left.left.items ≡ replicate (length new.jobs) true =
    (search rules) ∙ ap (λ (n : ℕ). replicate n true) (sym (length-map c.args.new.now.jobs.items seen)) in
    λ i. map compared_of (c.new-rows.ensures.items i) ++ map (told_pair c.args.rules old new) (pairs_from new.jobs (all i) old.jobs)

pub loop-job-preserved : goal.loop-job-preserved
loop-job-preserved c =
    let old = held_side c.args.old.now in
    let new = held_side c.args.new.now in
    let js = c.args.old.now.jobs.items in
    let left = c.loop-job.left.items in
    let rows = c.loop-job.rows.items in
    let i = c.loop-job.job-index in
    let j = c.job-item.result in
    let told = told_pair c.args.rules old new in
    let places = places_of new.jobs in
    let held : HoldPlaces places c.in_ok-outputs.outputs.entries =
    subst (λ (l : List HeldJob). HoldPlaces (places_of (map seen l)) c.in_ok-outputs.outputs.entries) c.as_slice.ensures.value c.in_ok-outputs.ensures.value in
    let place = partner places left j.outputs.now in
    let lefts = c.as_mut_slice.ensures.value in
    let slice = c.as_slice-in-loop-job.ensures.value in
    let other : option_map (λ k. seen k.now) c.take_partner-other.result ≡ job_at new.jobs place =
    c.take_partner-other.ensures.value places held ∙ (λ k. job_at (map seen (slice k)) (partner places (lefts k) j.outputs.now)) in
    let gone : c.take_partner-other.new.left ≡ with_taken left place =
    c.take_partner-other.ensures.left places held ∙ (λ k. with_taken (lefts k) (partner places (lefts k) j.outputs.now)) in
    let row : compared_of c.met.result ≡ told (pair_of (seen j) (job_at new.jobs place)) =
    c.met.ensures.value ∙ ap (λ (o : Option Job). told (pair_of (seen j) o)) other in
    let rest = map seen (drop (i + 1) js) in
    let more = map told (pairs_from new.jobs c.take_partner-other.new.left rest) in
    let is : j ≡ get_or js i j = c.job-item.is ∙ ap (λ (l : List HeldJob). get_or l i j) c.deref-job-items.ensures.value in
    let within : i < length js = omega (arith, c.loop-job-test.true, ap (λ (l : List HeldJob). length l) c.deref-job-items.ensures.value) in
    let long : c.loop-job.left.len ≡ length c.take_partner-other.new.left =
    omega (arith, c.take_partner-other.auto.left, ap (λ (l : List Bool). length l) lefts, c.loop-job.left.ok.0) in
    let written : take c.loop-job.left.len (c.take_partner-other.new.left ++ drop (length c.take_partner-other.new.left) left) ≡ c.take_partner-other.new.left =
    (λ k. take (long k) (c.take_partner-other.new.left ++ drop (length c.take_partner-other.new.left) left))
    ∙ take-append_seam c.take_partner-other.new.left (drop (length c.take_partner-other.new.left) left) in
    (λ k. map compared_of c.push.new.self.items ++ map told (pairs_from new.jobs (written k) rest))
    ∙ ap (λ (l : List ComparedRow). map compared_of l ++ more) c.in_ok-push.ensures.items
    ∙ ap (λ (l : List Compared). l ++ more) (map-append compared_of rows (c.met.result ∷ []))
    ∙ append_assoc (map compared_of rows) (compared_of c.met.result ∷ []) more
    ∙ (λ k. map compared_of rows ++ (row k ∷ map told (pairs_from new.jobs (gone k) rest)))
    ∙ ap (λ (k : HeldJob). map compared_of rows ++ map told (pairs_from new.jobs left (seen k ∷ rest))) is
    ∙ sym (at_drop_more (λ (l : List HeldJob). map compared_of rows ++ map told (pairs_from new.jobs left (map seen l))) js i j within)
    ∙ c.loop-job.invariant

pub loop-place-init : goal.loop-place-init
loop-place-init c =
    let old = held_side c.args.old.now in
    let new = held_side c.args.new.now in
    let jobs = c.args.old.now.jobs.items in
    let left = c.loop-job.left.items in
    let rows = map compared_of c.loop-job.rows.items in
    let told = told_pair c.args.rules old new in
    let all : length jobs ≤ c.loop-job.job-index =
    omega (arith, c.loop-job-test.false, ap (λ (l : List HeldJob). length l) c.deref-job-items.ensures.value) in
    ap (λ (cs : List Compared). rows ++ cs) (fresh_told c.args.rules old new (marked left new.jobs))
    ∙ ap (λ (js : List HeldJob). rows ++ map told (pairs_from new.jobs left (map seen js))) (sym (drop_all c.loop-job.job-index jobs all))
    ∙ c.loop-job.invariant

pub returns : goal.returns
returns c =
    let rows = map compared_of c.loop-place.rows.items in
    let left = drop c.loop-place.place c.loop-job.left.items in
    let told = fresh (held_side c.args.old.now) (held_side c.args.new.now) in
    let jobs = c.args.new.now.jobs.items in
    let all : length jobs ≤ c.loop-place.place =
    omega (arith, c.loop-place-test.false, c.loop-place.auto.place-end, ap (λ (l : List HeldJob). length l) c.deref-other-items.ensures.value) in
    record {
      value = sym (append-nil rows)
          ∙ ap (λ cs. rows ++ map told cs)
          (sym (ap (λ (l : List HeldJob). marked left (map seen l)) (drop_all c.loop-place.place jobs all) ∙ none_marked left))
          ∙ c.loop-place.invariant;
    }
