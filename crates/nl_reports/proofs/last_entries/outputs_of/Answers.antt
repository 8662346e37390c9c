use Rattle.std.proofs.Common.{◌≡◌, ◌∙◌, ◌++◌, ◌∷◌, [], ℕ, List, ap, append-nil, get_or, map, subst, sym, take}
use Rattle.std.proofs.lemmas.List.{take_all}
use Rattle.nl_fields.specs.declared.entry.Entry.{Entry}
use Rattle.nl_reports.specs.Jobs.{seen}
use Rattle.nl_reports.specs.Outputs.{HoldPlaces, outputs_at, places_from}
use Rattle.nl_reports.specs.declared.job.Job.{Job}
use Rattle.nl_reports.proofs.OutputsLemmas.{held_push, outputs_more, places_more}
use Rattle.nl_reports.proofs.last_entries.outputs_of.Goals as goal

pub loop-entry-init : goal.loop-entry-init
loop-entry-init c =
    let P : List (List ℕ × ℕ) → Type 0 = λ ps. HoldPlaces ps c.loop-place.places.entries in
    subst P (sym (append-nil (places_from 0 (map seen (take c.loop-place.place c.args.jobs.now))))) c.loop-place.invariant

pub loop-entry-preserved : goal.loop-entry-preserved
loop-entry-preserved c =
    let place = c.loop-place.place in
    let before = places_from 0 (map seen (take place c.args.jobs.now)) in
    let es = c.index-jobs-place.result.outputs.now in
    let i = c.loop-entry.entry-index in
    let e = c.entry-item.result in
    let so_far = before ++ outputs_at place (take i es) in
    let named : c.name.result.now ≡ (get_or es i e).name = c.name.ensures.value ∙ ap (λ (x : Entry). x.name) c.entry-item.is in
    let P : List (List ℕ × ℕ) → Type 0 = λ l. HoldPlaces l c.insert.new.self.entries in
    subst P (sym (outputs_more before place es i e c.loop-entry-test.true ∙ ap (λ (n : List ℕ). so_far ++ (n, place) ∷ []) (sym named)))
    (held_push so_far c.loop-entry.places.entries c.insert.new.self.entries c.name.result place c.loop-entry.invariant
    c.in_ok-insert.ensures.updates.0)

pub loop-place-preserved : goal.loop-place-preserved
loop-place-preserved c =
    let jobs = c.args.jobs.now in
    let i = c.loop-place.place in
    let j = c.index-jobs-place.result in
    let es = j.outputs.now in
    let so_far = places_from 0 (map seen (take i jobs)) in
    let P : List (List ℕ × ℕ) → Type 0 = λ l. HoldPlaces l c.loop-entry.places.entries in
    let Q : List Entry → Type 0 = λ l. HoldPlaces (so_far ++ outputs_at i l) c.loop-entry.places.entries in
    subst P (ap (λ (l : List (List ℕ × ℕ)). so_far ++ l) (sym (append-nil (outputs_at i es)))
    ∙ ap (λ (k : Job). so_far ++ places_from i (seen k ∷ [])) c.index-jobs-place.is
    ∙ sym (places_more jobs i j c.loop-place-test.true))
    (subst Q (take_all c.loop-entry.entry-index es c.loop-entry-test.false) c.loop-entry.invariant)
