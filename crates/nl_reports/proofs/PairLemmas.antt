-- What is made of commands, each in its lane, one by one.
use Rattle.std.proofs.Common.{◌≡◌, ◌∙◌, ℕ, ◌+◌, ◌<◌, ◌≤◌, List, [], ◌∷◌, length, get_or, map, drop, sym, ap, arith}
use Rattle.std.specs.List.{zip}
use Rattle.std.proofs.lemmas.List.{at_drop_all, at_drop_more, get_or-map, length-map}
use Rattle.std.proofs.lemmas.Slice.Zip.{get_or-zip, length-zip}
use Rattle.nl_reports.specs.Jobs.{Job, seen}
use Rattle.nl_reports.specs.declared.job.Job.{Job as HeldJob}

-- of the commands from one on: of this one and those behind it
pub pair_at : {A : Type 0} (f : List (Job × ℕ) → A) (ks : List HeldJob) (found : List ℕ) (i lane : ℕ) (k : HeldJob) → i < length ks
    → i < length found → k ≡ get_or ks i k → lane ≡ get_or found i lane
    → f (drop i (zip (map seen ks) found)) ≡ f ((seen k, lane) ∷ drop (i + 1) (zip (map seen ks) found))
pair_at {A} f ks found i lane k there lane_there is lane_is =
    let js = map seen ks in
    let both = zip js found in
    let job_there : i < length js = omega (arith, there, length-map ks seen) in
    let job_is : get_or js i (seen k) ≡ seen k = get_or-map seen ks i k (seen k) there ∙ ap seen (sym is) in
    let place : get_or both i (seen k, lane) ≡ (seen k, lane) = get_or-zip js found i (seen k, lane) job_there lane_there
    ∙ (λ n. (job_is n, sym lane_is n)) in
    let within : i < length both = omega (arith, job_there, lane_there, length-zip js found) in
    at_drop_more f both i (seen k, lane) within ∙ ap (λ (p : Job × ℕ). f (p ∷ drop (i + 1) both)) place

-- none is left
pub pairs_done : {A : Type 0} (f : List (Job × ℕ) → A) (ks : List HeldJob) (found : List ℕ) (i : ℕ) → length ks ≤ i
    → f (drop i (zip (map seen ks) found)) ≡ f []
pairs_done {A} f ks found i all =
    at_drop_all f (zip (map seen ks) found) i (omega (arith, all, length-map ks seen, length-zip (map seen ks) found))
