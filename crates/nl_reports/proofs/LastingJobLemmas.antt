-- Each command keeps those of its outputs that are left.
use Rattle.std.proofs.Common.{◌≡◌, ◌∙◌, ℕ, zero, suc, ◌+◌, ◌<◌, ◌≤◌, Bool, true, false, cond, List, [], ◌∷◌, ◌++◌, append_assoc, drop, inl, inr, length, take, arith, ap, refl, sym}
use Rattle.std.specs.Prelude.{nat_lt}
use Rattle.std.specs.List.{filter}
use Rattle.std.proofs.lemmas.Bool.{cases_Bool, cond-true, cond-false, lt-ltb, ltb-false, ltb-true}
use Rattle.std.proofs.lemmas.List.{drop_at, length-append, map-append, take-append-drop, take-take, take_at}
use Rattle.nl_fields.specs.declared.entry.Entry.{Entry}
use Rattle.nl_table.specs.Table.{entry_names}
use Rattle.nl_builds.specs.declared.command.Command.{Command}
use Rattle.nl_tool_texts.specs.Lists.{between}
use Rattle.nl_reports.specs.Jobs.{Job, jobs_from}
use Rattle.nl_reports.specs.Lasting.{Rise, commands_left, entries_left, has_outputs, is_among, jobs_left, last_entries}
use Rattle.nl_reports.specs.Spans.{span_of}

parts : {A : Type 0} (a b : ℕ) (xs : List A) → a ≤ b → drop a xs ≡ between a b xs ++ drop b xs
parts zero b xs within = sym (take-append-drop b xs)
parts (suc a) zero xs within = absurd (omega (arith, within))
parts (suc a) (suc b) [] within = refl
parts (suc a) (suc b) (x ∷ xs) within = parts a b xs (omega (arith, within))

last-append : (others : List (List ℕ)) (xs ys : List Entry)
    → last_entries others (xs ++ ys) ≡ last_entries (entry_names ys ++ others) xs ++ last_entries others ys
last-append others [] ys = refl
last-append others (x ∷ xs) ys = here _ _ same (last-append others xs ys)
  where
    same : is_among x.name (entry_names (xs ++ ys) ++ others) ≡ is_among x.name (entry_names xs ++ (entry_names ys ++ others))
    same =
        ap (is_among x.name) (ap (λ (l : List (List ℕ)). l ++ others) (map-append (λ (e : Entry). e.name) xs ys)
        ∙ append_assoc (entry_names xs) (entry_names ys) others)

    here : (b d : Bool) → b ≡ d
        → last_entries others (xs ++ ys) ≡ last_entries (entry_names ys ++ others) xs ++ last_entries others ys
        → cond b (last_entries others (xs ++ ys)) (x ∷ last_entries others (xs ++ ys))
        ≡ cond d (last_entries (entry_names ys ++ others) xs) (x ∷ last_entries (entry_names ys ++ others) xs) ++ last_entries others ys
    here true true is rest = rest
    here false false is rest = ap (λ (l : List Entry). x ∷ l) rest
    here true false is rest = absurd (cc is)
    here false true is rest = absurd (cc is)

module _ (others : List (List ℕ)) (es : List Entry) where
  abbrev behind : ℕ → List (List ℕ)
  behind k = entry_names (drop k es) ++ others

  -- what is left of those before a place, and between two
  abbrev front : ℕ → List Entry
  front k = last_entries (behind k) (take k es)

  abbrev middle : ℕ → ℕ → List Entry
  middle a b = last_entries (behind b) (between a b es)

  abbrev left : ℕ → ℕ
  left = entries_left others es

  halves : (k : ℕ) → last_entries others es ≡ front k ++ last_entries others (drop k es)
  halves k = ap (last_entries others) (sym (take-append-drop k es)) ∙ last-append others (take k es) (drop k es)

  counted : (k : ℕ) → length (front k) ≡ left k
  counted k =
      let both : length (last_entries others es) ≡ length (front k) + length (last_entries others (drop k es)) =
      ap (λ (l : List Entry). length l) (halves k) ∙ length-append (front k) (last_entries others (drop k es)) in
      omega (arith, both)

  parted : (a b : ℕ) → a ≤ b → front b ≡ front a ++ middle a b
  parted a b within =
      ap (last_entries (behind b)) (sym (take-append-drop a (take b es)) ∙ ap (λ (l : List Entry). l ++ between a b es) (take-take a b es within))
      ∙ last-append (behind b) (take a es) (between a b es)
      ∙ ap (λ (l : List (List ℕ)). last_entries l (take a es) ++ middle a b)
      (sym (append_assoc (entry_names (between a b es)) (entry_names (drop b es)) others)
      ∙ ap (λ (l : List (List ℕ)). l ++ others)
      (sym (map-append (λ (e : Entry). e.name) (between a b es) (drop b es)) ∙ ap entry_names (sym (parts a b es within))))

  all_counted : (a b : ℕ) → a ≤ b → left b ≡ left a + length (middle a b)
  all_counted a b within =
      sym (counted b) ∙ ap (λ (l : List Entry). length l) (parted a b within) ∙ length-append (front a) (middle a b)
      ∙ ap (λ (n : ℕ). n + length (middle a b)) (counted a)

  kept : (a b : ℕ) → a ≤ b → between (left a) (left b) (last_entries others es) ≡ middle a b
  kept a b within =
      ap (λ (l : List Entry). drop (left a) (take (left b) l)) (halves b)
      ∙ ap (drop (left a)) (take_at (front b) (last_entries others (drop b es)) (left b) (counted b) ∙ parted a b within)
      ∙ drop_at (front a) (middle a b) (left a) (counted a)

  pub jobs_kept : (from : ℕ) (cs : List Command) → Rise from cs
      → jobs_from (last_entries others es) (left from) (commands_left left (left from) cs) ≡ filter has_outputs (jobs_left others es from cs)
  jobs_kept from [] rise = refl
  jobs_kept from (c ∷ cs) rise =
      let all = last_entries others es in
      let rest = jobs_kept c.to cs rise.1 in
      let outputs = middle from c.to in
      let later = commands_left left (left c.to) cs in
      let count = all_counted from c.to rise.0 in
      let job : List Entry → Job = λ es. record { span = span_of c; hash = c.hash; outputs = es } in
      elim (cases_Bool (nat_lt (left from) (left c.to))) [
        | inl more ↦
            let one : 0 < length outputs = omega (arith, ltb-true (left from) (left c.to) more, count) in
            ap (jobs_from all (left from)) (cond-true (nat_lt (left from) (left c.to)) _ _ more)
            ∙ (λ i. job (kept from c.to rise.0 i) ∷ rest i)
            ∙ sym (cond-true (has_outputs (job outputs)) _ _ (lt-ltb 0 (length outputs) one))
        | inr as_many ↦
            let none : length outputs ≡ 0 = omega (arith, ltb-false (left from) (left c.to) as_many, count) in
            let same : left from ≡ left c.to = omega (arith, none, count) in
            ap (jobs_from all (left from)) (cond-false (nat_lt (left from) (left c.to)) _ _ as_many)
            ∙ ap (λ (k : ℕ). jobs_from all k later) same ∙ rest
            ∙ sym (cond-false (has_outputs (job outputs)) _ _ (ap (λ (k : ℕ). nat_lt 0 k) none))
      ]

  pub none_before : left 0 ≡ 0
  none_before = omega arith
