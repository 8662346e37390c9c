-- Of each output the last entry alone is left.
use Rattle.std.proofs.Common.{◌≡◌, ◌∙◌, ℕ, Bool, true, false, cond, ◌||◌, List, [], ◌∷◌, ◌++◌, inl, inr, refl, ap, sym}
use Rattle.std.specs.Prelude.{bytes_eq, not}
use Rattle.std.proofs.lemmas.Bool.{cases_Bool, cond-true, cond-false}
use Rattle.std.proofs.lemmas.List.Folds.{list_any-append}
use Rattle.nl_fields.specs.declared.entry.Entry.{Entry}
use Rattle.nl_table.specs.Table.{entry_names}
use Rattle.nl_table.proofs.HistoryLemmas.{same_bytes}
use Rattle.nl_reports.specs.Lasting.{is_among, last_entries, last_of, marked, marks, of_name}

among-append : (name : List ℕ) (xs ys : List (List ℕ)) → is_among name (xs ++ ys) ≡ (is_among name xs || is_among name ys)
among-append name xs ys = list_any-append (λ other. bytes_eq other name) xs ys

-- ---- the entries of a name

none_named : (name : List ℕ) (es : List Entry) → is_among name (entry_names es) ≡ false → of_name name es ≡ []
none_named name [] none = refl
none_named name (e ∷ es) none = here (bytes_eq e.name name) none (none_named name es)
  where
    here : (b : Bool) → (b || is_among name (entry_names es)) ≡ false → (is_among name (entry_names es) ≡ false → of_name name es ≡ [])
        → cond b (e ∷ of_name name es) (of_name name es) ≡ []
    here true none rest = absurd (cc none)
    here false none rest = rest none

-- behind one more there is the same last one, where there is one
last_behind : (name : List ℕ) (e : Entry) (es : List Entry) → is_among name (entry_names es) ≡ true
    → last_of (e ∷ of_name name es) ≡ last_of (of_name name es)
last_behind name e [] there = absurd (cc there)
last_behind name e (f ∷ es) there = here (bytes_eq f.name name) there (last_behind name e es)
  where
    here : (b : Bool) → (b || is_among name (entry_names es)) ≡ true
        → (is_among name (entry_names es) ≡ true → last_of (e ∷ of_name name es) ≡ last_of (of_name name es))
        → last_of (e ∷ cond b (f ∷ of_name name es) (of_name name es)) ≡ last_of (cond b (f ∷ of_name name es) (of_name name es))
    here true there rest = refl
    here false there rest = rest there

-- ---- what is left of them

-- another name's entry changes nothing, whether it is left or not
other_entry : (name : List ℕ) (e : Entry) (is : Bool) (es : List Entry) → bytes_eq e.name name ≡ false
    → of_name name (cond is es (e ∷ es)) ≡ of_name name es
other_entry name e true es apart = refl
other_entry name e false es apart = cond-false (bytes_eq e.name name) _ _ apart

pub waiting_gone : (others : List (List ℕ)) (name : List ℕ) → is_among name others ≡ true → (es : List Entry)
    → of_name name (last_entries others es) ≡ []
waiting_gone others name waits [] = refl
waiting_gone others name waits (e ∷ es) = elim (cases_Bool (bytes_eq e.name name)) [
  | inl same ↦
      let again : is_among e.name (entry_names es ++ others) ≡ true =
      ap (λ n. is_among n (entry_names es ++ others)) (same_bytes e.name name same) ∙ among-append name (entry_names es) others
      ∙ ap (λ b. is_among name (entry_names es) || b) waits ∙ either (is_among name (entry_names es)) in
      ap (of_name name) (cond-true (is_among e.name (entry_names es ++ others)) _ _ again) ∙ waiting_gone others name waits es
  | inr apart ↦ other_entry name e (is_among e.name (entry_names es ++ others)) (last_entries others es) apart ∙ waiting_gone others name waits es
]
  where
    either : (b : Bool) → (b || true) ≡ true
    either true = refl
    either false = refl

pub last_left : (others : List (List ℕ)) (name : List ℕ) → is_among name others ≡ false → (es : List Entry)
    → of_name name (last_entries others es) ≡ last_of (of_name name es)
last_left others name rests [] = refl
last_left others name rests (e ∷ es) =
    let before = last_left others name rests es in
    let is = is_among e.name (entry_names es ++ others) in
    elim (cases_Bool (bytes_eq e.name name)) [
      | inl same ↦
          let later : is ≡ is_among name (entry_names es) =
          ap (λ n. is_among n (entry_names es ++ others)) (same_bytes e.name name same) ∙ among-append name (entry_names es) others
          ∙ ap (λ b. is_among name (entry_names es) || b) rests ∙ alone (is_among name (entry_names es)) in
          let named : of_name name (e ∷ es) ≡ e ∷ of_name name es = cond-true (bytes_eq e.name name) _ _ same in
          elim (cases_Bool (is_among name (entry_names es))) [
            | inl there ↦ ap (of_name name) (cond-true is _ _ (later ∙ there)) ∙ before ∙ sym (last_behind name e es there) ∙ ap last_of (sym named)
            | inr none ↦
                ap (of_name name) (cond-false is _ _ (later ∙ none)) ∙ cond-true (bytes_eq e.name name) _ _ same
                ∙ ap (λ (l : List Entry). e ∷ l) (before ∙ ap last_of (none_named name es none))
                ∙ ap (λ (l : List Entry). last_of (e ∷ l)) (sym (none_named name es none)) ∙ ap last_of (sym named)
          ]
      | inr apart ↦ other_entry name e is (last_entries others es) apart ∙ before ∙ ap last_of (sym (cond-false (bytes_eq e.name name) _ _ apart))
    ]
  where
    alone : (b : Bool) → (b || false) ≡ b
    alone true = refl
    alone false = refl

-- ---- their order

pub left_marked : (others : List (List ℕ)) (es : List Entry) → last_entries others es ≡ marked (marks others es) es
left_marked others [] = refl
left_marked others (e ∷ es) = here (is_among e.name (entry_names es ++ others)) (left_marked others es)
  where
    here : (b : Bool) → last_entries others es ≡ marked (marks others es) es
        → cond b (last_entries others es) (e ∷ last_entries others es) ≡ cond (not b) (e ∷ marked (marks others es) es) (marked (marks others es) es)
    here true rest = rest
    here false rest = ap (λ (l : List Entry). e ∷ l) rest
