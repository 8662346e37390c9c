-- The commands of two logs in pairs.
use Rattle.std.proofs.Common.{◌≡◌, ◌⊎◌, ℕ, zero, suc, Bool, true, false, cond, Option, None, Some, List, [], ◌∷◌, ◌++◌, get_or, inl, inr, length, map, refl, take, ap, subst, sym}
use Rattle.std.specs.Prelude.{option_to_list, replicate, set, slice_get}
use Rattle.std.specs.List.{flat_map}
use Rattle.std.specs.List.Sorted.{IsPermutation}
use Rattle.std.proofs.lemmas.List.Sorted.{IsPermutation-append_right, IsPermutation-cons, IsPermutation-middle, IsPermutation-refl, IsPermutation-sym, IsPermutation-trans}
use Rattle.nl_fields.specs.declared.entry.Entry.{Entry}
use Rattle.nl_reports.specs.Compare.{Compared, Log, NewAlone, fresh, is_left, job_at, new_of, old_of, pair_of, pairs, pairs_from, partner, told_pair, with_taken}
use Rattle.nl_reports.specs.Jobs.{Job, first_name}
use Rattle.nl_reports.specs.Lasting.{marked}
use Rattle.nl_tool_texts.specs.Lists.{last_at}
use Rattle.nl_reports.specs.Outputs.{places_of}
use Rattle.nl_reports.specs.declared.sides.Rules.{Rules}

-- ---- rows

pub none_marked : {A : Type 0} (bs : List Bool) → marked {A = A} bs [] ≡ []
none_marked [] = refl
none_marked (b ∷ bs) = refl

pub fresh_told : (rules : Rules) (old new : Log) (ks : List Job) → map (fresh old new) ks ≡ map (told_pair rules old new) (map NewAlone ks)
fresh_told rules old new [] = refl
fresh_told rules old new (k ∷ ks) = ap (λ (l : List Compared). fresh old new k ∷ l) (fresh_told rules old new ks)

-- ---- the old commands

told_by_name : (rules : Rules) (old new : Log) (j : Job) (k : Option Job) → (told_pair rules old new (pair_of j k)).output ≡ first_name j.outputs
told_by_name rules old new j None = refl
told_by_name rules old new j (Some k) = refl

pub old_told : (rules : Rules) (old new : Log) (ks : List Job) (left : List Bool) (js : List Job)
    → map (λ (c : Compared). c.output) (take (length js) (map (told_pair rules old new) (pairs_from ks left js)))
    ≡ map (λ (j : Job). first_name j.outputs) js
old_told rules old new ks left [] = nothing (map (told_pair rules old new) (pairs_from ks left []))
  where
    nothing : (cs : List Compared) → map (λ (c : Compared). c.output) (take 0 cs) ≡ []
    nothing [] = refl
    nothing (c ∷ cs) = refl
old_told rules old new ks left (j ∷ js) =
    let place = partner (places_of ks) left j.outputs in
    λ i. told_by_name rules old new j (job_at ks place) i ∷ old_told rules old new ks (with_taken left place) js i

old_in_pair : (j : Job) (k : Option Job) → old_of (pair_of j k) ≡ j ∷ []
old_in_pair j None = refl
old_in_pair j (Some k) = refl

new_alone : (ks : List Job) → flat_map old_of (map NewAlone ks) ≡ []
new_alone [] = refl
new_alone (k ∷ ks) = new_alone ks

pub old_paired : (ks : List Job) (left : List Bool) (js : List Job) → flat_map old_of (pairs_from ks left js) ≡ js
old_paired ks left [] = new_alone (marked left ks)
old_paired ks left (j ∷ js) =
    let place = partner (places_of ks) left j.outputs in
    λ i. old_in_pair j (job_at ks place) i ++ old_paired ks (with_taken left place) js i

-- ---- the new commands

-- what meets is left
met_is_left : (places : List (List ℕ × ℕ)) (left : List Bool) (es : List Entry)
    → (partner places left es ≡ None) ⊎ (is_left left (partner places left es) ≡ true)
met_is_left places left [] = inl refl
met_is_left places left (e ∷ es) = here (is_left left (last_at places e.name)) refl (met_is_left places left es)
  where
    here : (b : Bool) → is_left left (last_at places e.name) ≡ b
        → (partner places left es ≡ None) ⊎ (is_left left (partner places left es) ≡ true)
        → (cond b (last_at places e.name) (partner places left es) ≡ None)
        ⊎ (is_left left (cond b (last_at places e.name) (partner places left es)) ≡ true)
    here true is rest = inr is
    here false is rest = rest

-- one that is left is taken out
taken_out : (ls : List Bool) (ks : List Job) (p : ℕ) → get_or ls p false ≡ true
    → IsPermutation (marked ls ks) (option_to_list (slice_get ks p) ++ marked (set ls p false) ks)
taken_out [] ks p is = absurd (cc is)
taken_out (l ∷ ls) [] zero is = IsPermutation-refl []
taken_out (l ∷ ls) [] (suc p) is = IsPermutation-refl []
taken_out (true ∷ ls) (k ∷ ks) zero is = IsPermutation-refl (k ∷ marked ls ks)
taken_out (false ∷ ls) (k ∷ ks) zero is = absurd (cc is)
taken_out (true ∷ ls) (k ∷ ks) (suc p) is =
    let out = option_to_list (slice_get ks p) in
    let rest = marked (set ls p false) ks in
    IsPermutation-trans (k ∷ marked ls ks) (k ∷ (out ++ rest)) (out ++ k ∷ rest) (IsPermutation-cons k _ _ (taken_out ls ks p is))
    (IsPermutation-sym _ _ (IsPermutation-middle out k rest))
taken_out (false ∷ ls) (k ∷ ks) (suc p) is = taken_out ls ks p is

taken_once : (left : List Bool) (ks : List Job) (place : Option ℕ) → (place ≡ None) ⊎ (is_left left place ≡ true)
    → IsPermutation (marked left ks) (option_to_list (job_at ks place) ++ marked (with_taken left place) ks)
taken_once left ks None is = IsPermutation-refl (marked left ks)
taken_once left ks (Some p) (inl is) = absurd (cc is)
taken_once left ks (Some p) (inr is) = taken_out left ks p is

new_in_pair : (j : Job) (k : Option Job) → option_to_list k ≡ new_of (pair_of j k)
new_in_pair j None = refl
new_in_pair j (Some k) = refl

all_alone : (ks : List Job) → flat_map new_of (map NewAlone ks) ≡ ks
all_alone [] = refl
all_alone (k ∷ ks) = ap (λ (l : List Job). k ∷ l) (all_alone ks)

new_from : (ks : List Job) (left : List Bool) (js : List Job) → IsPermutation (marked left ks) (flat_map new_of (pairs_from ks left js))
new_from ks left [] = subst (IsPermutation (marked left ks)) (sym (all_alone (marked left ks))) (IsPermutation-refl (marked left ks))
new_from ks left (j ∷ js) =
    let place = partner (places_of ks) left j.outputs in
    let rest = pairs_from ks (with_taken left place) js in
    subst (λ (l : List Job). IsPermutation (marked left ks) (l ++ flat_map new_of rest)) (new_in_pair j (job_at ks place))
    (IsPermutation-trans _ _ _ (taken_once left ks place (met_is_left (places_of ks) left j.outputs))
    (IsPermutation-append_right (option_to_list (job_at ks place)) _ _ (new_from ks (with_taken left place) js)))

all_marked : (ks : List Job) → marked (replicate (length ks) true) ks ≡ ks
all_marked [] = refl
all_marked (k ∷ ks) = ap (λ (l : List Job). k ∷ l) (all_marked ks)

pub new_paired : (js ks : List Job) → IsPermutation ks (flat_map new_of (pairs js ks))
new_paired js ks =
    subst (λ (l : List Job). IsPermutation l (flat_map new_of (pairs js ks))) (all_marked ks) (new_from ks (replicate (length ks) true) js)
