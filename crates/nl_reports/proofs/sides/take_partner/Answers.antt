use Rattle.std.proofs.Common.{◌≡◌, ◌∙◌, ◌+◌, ◌≤◌, ℕ, Bool, List, None, Option, Some, ◌∷◌, ap, arith, drop, false, get_or, length, map, option_map, refl, rules, sym, true}
use Rattle.std.specs.Borrow.{Bor}
use Rattle.std.specs.Prelude.{if◌then◌else◌, set, slice_get}
use Rattle.std.specs.Slice.{IsItemAt}
use Rattle.std.proofs.lemmas.Bool.{cond-true}
use Rattle.std.proofs.lemmas.List.{at_drop_more, drop_all, length-map}
use Rattle.std.proofs.lemmas.Option.{slice_get-map, slice_get_past, slice_get_read}
use Rattle.nl_fields.specs.declared.entry.Entry.{Entry}
use Rattle.nl_reports.specs.Compare.{is_left, job_at, partner, with_taken}
use Rattle.nl_reports.specs.Jobs.{seen}
use Rattle.nl_tool_texts.specs.Lists.{last_at}
use Rattle.nl_reports.specs.declared.job.Job.{Job as HeldJob}
use Rattle.nl_reports.proofs.sides.take_partner.Goals as goal

read_job : (jobs : List HeldJob) (i : ℕ) (r : Option (Bor HeldJob)) → IsItemAt jobs i r
    → option_map (λ (k : Bor HeldJob). seen k.now) r ≡ slice_get (map seen jobs) i
read_job jobs i None is = sym (slice_get_past (map seen jobs) i (omega (arith, is.3, length-map jobs seen)))
read_job jobs i (Some k) is = sym (slice_get-map seen jobs i ∙ ap (option_map seen) (slice_get_read jobs (length jobs) i k.now refl is.3.0 is.1))

met_there : (ps : List (List ℕ × ℕ)) (left : List Bool) (e : Entry) (es : List Entry) (p : ℕ) → last_at ps e.name ≡ Some p → get_or left p false ≡ true
    → partner ps left (e ∷ es) ≡ Some p
met_there ps left e es p at is =
    (λ i. if is_left left (at i) then at i else partner ps left es) ∙ cond-true (get_or left p false) (Some p) (partner ps left es) is

pub returns-then-item_at-clause-value : goal.returns-then-item_at-clause-value
returns-then-item_at-clause-value c = λ ps held.
    let left = c.args.left.now in
    let outs = c.args.job.now.outputs.now in
    let e = c.entry-item.result in
    let i = c.loop-entry.entry-index in
    let at : last_at ps e.name ≡ Some c.in-Some.place.now = search (rules, held e.name) in
    let is : get_or left c.in-Some.place.now false ≡ true =
    ap (λ (bs : List Bool). get_or bs c.in-Some.place.now false) (sym c.loop-entry.invariant.same) ∙ sym c.item_at.ensures ∙ c.if-item_at.true in
    let met : partner ps left outs ≡ Some c.in-Some.place.now =
    c.loop-entry.invariant.none ps held ∙ at_drop_more (λ (es : List Entry). partner ps left es) outs i e c.loop-entry-test.true
    ∙ ap (λ (x : Entry). partner ps left (x ∷ drop (i + 1) outs)) (sym c.entry-item.is)
    ∙ met_there ps left e (drop (i + 1) outs) c.in-Some.place.now at is in
    read_job c.args.jobs.now c.in-Some.place.now c.get-then-item_at.result c.get-then-item_at.ensures.lookup ∙ ap (job_at (map seen c.args.jobs.now)) (sym met)

pub returns-then-item_at-clause-left : goal.returns-then-item_at-clause-left
returns-then-item_at-clause-left c = λ ps held.
    let left = c.args.left.now in
    let outs = c.args.job.now.outputs.now in
    let e = c.entry-item.result in
    let i = c.loop-entry.entry-index in
    let at : last_at ps e.name ≡ Some c.in-Some.place.now = search (rules, held e.name) in
    let is : get_or left c.in-Some.place.now false ≡ true =
    ap (λ (bs : List Bool). get_or bs c.in-Some.place.now false) (sym c.loop-entry.invariant.same) ∙ sym c.item_at.ensures ∙ c.if-item_at.true in
    let met : partner ps left outs ≡ Some c.in-Some.place.now =
    c.loop-entry.invariant.none ps held ∙ at_drop_more (λ (es : List Entry). partner ps left es) outs i e c.loop-entry-test.true
    ∙ ap (λ (x : Entry). partner ps left (x ∷ drop (i + 1) outs)) (sym c.entry-item.is)
    ∙ met_there ps left e (drop (i + 1) outs) c.in-Some.place.now at is in
    c.set_at.ensures ∙ (λ k. set (c.loop-entry.invariant.same k) c.in-Some.place.now false) ∙ ap (with_taken left) (sym met)

pub returns-clause-value : goal.returns-clause-value
returns-clause-value c = λ ps held.
    let outs = c.args.job.now.outputs.now in
    let left = c.args.left.now in
    let all : length outs ≤ c.loop-entry.entry-index = omega (arith, c.loop-entry-test.false) in
    let none : partner ps left outs ≡ None =
    c.loop-entry.invariant.none ps held ∙ ap (λ (es : List Entry). partner ps left es) (drop_all c.loop-entry.entry-index outs all) in
    ap (job_at (map seen c.args.jobs.now)) (sym none)

pub returns-clause-left : goal.returns-clause-left
returns-clause-left c = λ ps held.
    let outs = c.args.job.now.outputs.now in
    let left = c.args.left.now in
    let all : length outs ≤ c.loop-entry.entry-index = omega (arith, c.loop-entry-test.false) in
    let none : partner ps left outs ≡ None =
    c.loop-entry.invariant.none ps held ∙ ap (λ (es : List Entry). partner ps left es) (drop_all c.loop-entry.entry-index outs all) in
    c.loop-entry.invariant.same ∙ ap (with_taken left) (sym none)
