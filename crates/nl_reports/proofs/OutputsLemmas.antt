-- What a map by names holds, as it grows.
use Rattle.std.proofs.Common.{◌≡◌, ◌<◌, ◌∙◌, ◌+◌, ℕ, List, [], ◌∷◌, ◌++◌, Option, Some, append_assoc, ap, arith, bytes_eq, cond, get_or, length, map, sym, take}
use Rattle.std.proofs.lemmas.List.{length-map, length-take, map-append, take_more}
use Rattle.std.specs.Borrow.{Bor}
use Rattle.std.specs.Map.{lookup}
use Rattle.nl_fields.specs.declared.entry.Entry.{Entry}
use Rattle.nl_reports.specs.Jobs.{Job, seen}
use Rattle.nl_tool_texts.proofs.GraphLemmas.{last_at-push}
use Rattle.nl_reports.specs.Outputs.{HoldPlaces, outputs_at, places_from}
use Rattle.nl_reports.specs.declared.job.Job.{Job as HeldJob}

pub held_push : (ps : List (List ℕ × ℕ)) (es fs : List (Bor (List ℕ) × ℕ)) (n : Bor (List ℕ)) (place : ℕ) → HoldPlaces ps es
    → ((q : Bor (List ℕ)) → lookup (λ k. bytes_eq q.now k.now) fs ≡ cond (bytes_eq n.now q.now) (Some place) (lookup (λ k. bytes_eq q.now k.now) es))
    → HoldPlaces (ps ++ (n.now, place) ∷ []) fs
held_push ps es fs n place held updates name =
    updates (record n { now = name }) ∙ ap (λ (o : Option ℕ). cond (bytes_eq n.now name) (Some place) o) (held name)
    ∙ sym (last_at-push ps (n.now, place) name)

-- an output more of a command
pub outputs_more : (ps : List (List ℕ × ℕ)) (place : ℕ) (es : List Entry) (i : ℕ) (e : Entry) → i < length es
    → ps ++ outputs_at place (take (i + 1) es) ≡ (ps ++ outputs_at place (take i es)) ++ ((get_or es i e).name, place) ∷ []
outputs_more ps place es i e within =
    ap (λ (l : List Entry). ps ++ outputs_at place l) (take_more es i e within)
    ∙ ap (λ (l : List (List ℕ × ℕ)). ps ++ l) (map-append (λ (e : Entry). (e.name, place)) (take i es) (get_or es i e ∷ []))
    ∙ sym (append_assoc ps (outputs_at place (take i es)) (((get_or es i e).name, place) ∷ []))

-- a command more
places_from-append : (place : ℕ) (xs ys : List Job) → places_from place (xs ++ ys) ≡ places_from place xs ++ places_from (place + length xs) ys
places_from-append place [] ys = let at : place ≡ place + 0 = omega arith in ap (λ n. places_from n ys) at
places_from-append place (x ∷ xs) ys =
    let at : (place + 1) + length xs ≡ place + length (x ∷ xs) = omega arith in
    ap (λ (l : List (List ℕ × ℕ)). outputs_at place x.outputs ++ l) (places_from-append (place + 1) xs ys)
    ∙ sym (append_assoc (outputs_at place x.outputs) (places_from (place + 1) xs) (places_from ((place + 1) + length xs) ys))
    ∙ ap (λ n. places_from place (x ∷ xs) ++ places_from n ys) at

pub places_more : (jobs : List HeldJob) (i : ℕ) (j : HeldJob) → i < length jobs
    → places_from 0 (map seen (take (i + 1) jobs)) ≡ places_from 0 (map seen (take i jobs)) ++ places_from i (seen (get_or jobs i j) ∷ [])
places_more jobs i j within =
    let count : 0 + length (map seen (take i jobs)) ≡ i = omega (arith, length-map (take i jobs) seen, length-take i jobs) in
    ap (λ (l : List HeldJob). places_from 0 (map seen l)) (take_more jobs i j within)
    ∙ ap (places_from 0) (map-append seen (take i jobs) (get_or jobs i j ∷ []))
    ∙ places_from-append 0 (map seen (take i jobs)) (seen (get_or jobs i j) ∷ [])
    ∙ ap (λ n. places_from 0 (map seen (take i jobs)) ++ places_from n (seen (get_or jobs i j) ∷ [])) count
