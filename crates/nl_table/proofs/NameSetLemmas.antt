-- What a set of names holds.
use Rattle.std.proofs.Common.{◌≡◌, ℕ, ◌||◌, ◌⊎◌, Bool, true, false, List, [], ◌∷◌, ◌++◌, refl, sym, ◌∙◌, ap, subst, inl, inr, bytes_eq, append-nil, append_assoc}
use Rattle.std.specs.Prelude.{fold}
use Rattle.std.specs.Prelude.{nat_eq}
use Rattle.std.specs.Cmp.Lexicographic.{pointwise}
use Rattle.std.specs.List.{list_any}
use Rattle.std.proofs.lemmas.Bool.{cases_Bool, cond-true, cond-false}
use Rattle.std.proofs.lemmas.List.{map-append}
use Rattle.std.proofs.lemmas.List.Folds.{list_any-append}
use Rattle.std.proofs.lemmas.List.Sums.{fold-append}
use Rattle.indexmap.specs.IndexSet.{insert_key}
use Rattle.nl_table.specs.declared.output_key.OutputKey.{OutputKey}
use Rattle.nl_table.specs.History.{holds}
use Rattle.nl_table.specs.Keys.{key_bytes, names_of_keys}
use Rattle.nl_table.specs.Table.{AreDistinct, each_once, with_name}
use Rattle.nl_table.proofs.HistoryLemmas.{push_distinct, same_bytes}
use Rattle.nl_table.proofs.NameLemmas.{bytes_eq_comm}
use Rattle.nl_table.proofs.TableLemmas.{same_key}

-- a name that is looked up among keys
pub found_in : (keys : List OutputKey) (name : List ℕ)
    → list_any (λ key. pointwise nat_eq name (key_bytes key)) keys ≡ holds (names_of_keys keys) name
found_in [] name = refl
found_in (key ∷ keys) name = λ i. bytes_eq_comm name (key_bytes key) i || found_in keys name i

-- a name that is there already adds nothing
held_twice : (names : List (List ℕ)) (new name : List ℕ) → holds names new ≡ true → holds (names ++ new ∷ []) name ≡ holds names name
held_twice names new name there = list_any-append (λ other. bytes_eq other name) names (new ∷ []) ∙ here (cases_Bool (bytes_eq new name))
  where
    itself : (b : Bool) → (b || false) ≡ b
    itself true = refl
    itself false = refl

    here : (bytes_eq new name ≡ true) ⊎ (bytes_eq new name ≡ false) → (holds names name || holds (new ∷ []) name) ≡ holds names name
    here (inl same) = let held : holds names name ≡ true = ap (holds names) (sym (same_bytes new name same)) ∙ there in cc
    here (inr apart) = rw apart (itself (holds names name))

-- what holds of a name that stands behind these
pub held_with : (names : List (List ℕ)) (new name : List ℕ) → holds (with_name names new) name ≡ holds (names ++ new ∷ []) name
held_with names new name = elim (cases_Bool (holds names new)) [
  | inl there ↦ ap (λ l. holds l name) (cond-true (holds names new) _ _ there) ∙ sym (held_twice names new name there)
  | inr apart ↦ ap (λ l. holds l name) (cond-false (holds names new) _ _ apart)
]

-- one key more
pub inserted : (keys : List OutputKey) (key : OutputKey)
    → names_of_keys (insert_key same_key keys key) ≡ with_name (names_of_keys keys) (key_bytes key)
inserted keys key = elim (cases_Bool (list_any (same_key key) keys)) [
  | inl there ↦
      ap names_of_keys (cond-true (list_any (same_key key) keys) _ _ there)
      ∙ sym (cond-true (holds (names_of_keys keys) (key_bytes key)) _ _ (sym (found_in keys (key_bytes key)) ∙ there))
  | inr new ↦
      ap names_of_keys (cond-false (list_any (same_key key) keys) _ _ new)
      ∙ map-append key_bytes keys (key ∷ [])
      ∙ sym (cond-false (holds (names_of_keys keys) (key_bytes key)) _ _ (sym (found_in keys (key_bytes key)) ∙ new))
]

-- one name more of those that a set is made of
pub held_more : (new keys : List OutputKey) (key : OutputKey) (names : List (List ℕ)) → new ≡ insert_key same_key keys key
    → ((name : List ℕ) → holds (names_of_keys keys) name ≡ holds names name)
    → (name : List ℕ) → holds (names_of_keys new) name ≡ holds (names ++ key_bytes key ∷ []) name
held_more new keys key names is held name =
    let test : List ℕ → Bool = λ other. bytes_eq other name in
    ap (λ l. holds (names_of_keys l) name) is ∙ ap (λ l. holds l name) (inserted keys key)
    ∙ held_with (names_of_keys keys) (key_bytes key) name ∙ list_any-append test (names_of_keys keys) (key_bytes key ∷ [])
    ∙ ap (λ b. b || holds (key_bytes key ∷ []) name) (held name) ∙ sym (list_any-append test names (key_bytes key ∷ []))

-- ---- names, each once

-- the same names are among them
held_each : (done names : List (List ℕ)) (name : List ℕ) → holds (fold with_name done names) name ≡ holds (done ++ names) name
held_each done [] name = ap (λ l. holds l name) (sym (append-nil done))
held_each done (n ∷ names) name =
    let test : List ℕ → Bool = λ other. bytes_eq other name in
    held_each (with_name done n) names name ∙ list_any-append test (with_name done n) names
    ∙ ap (λ b. b || holds names name) (held_with done n name) ∙ sym (list_any-append test (done ++ n ∷ []) names)
    ∙ ap (λ l. holds l name) (append_assoc done (n ∷ []) names)

pub held_once : (names : List (List ℕ)) (name : List ℕ) → holds (each_once names) name ≡ holds names name
held_once names name = held_each [] names name

-- no two of them are the same
distinct_with : (names : List (List ℕ)) (name : List ℕ) → AreDistinct names → AreDistinct (with_name names name)
distinct_with names name apart = elim (cases_Bool (holds names name)) [
  | inl there ↦ subst AreDistinct (sym (cond-true (holds names name) _ _ there)) apart
  | inr new ↦ subst AreDistinct (sym (cond-false (holds names name) _ _ new)) (push_distinct names name apart new)
]

distinct_each : (done names : List (List ℕ)) → AreDistinct done → AreDistinct (fold with_name done names)
distinct_each done [] apart = apart
distinct_each done (n ∷ names) apart = distinct_each (with_name done n) names (distinct_with done n apart)

pub distinct_once : (names : List (List ℕ)) → AreDistinct (each_once names)
distinct_once names = distinct_each [] names tt

-- one more of them
pub once_more : (names : List (List ℕ)) (name : List ℕ) → each_once (names ++ name ∷ []) ≡ with_name (each_once names) name
once_more names name = fold-append with_name [] names (name ∷ [])
