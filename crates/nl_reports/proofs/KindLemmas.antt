-- The kinds of commands.
use Rattle.std.proofs.Common.{◌≡◌, ◌∙◌, ℕ, ◌+◌, ◌<◌, true, false, cond, Option, None, Some, List, [], ◌∷◌, ◌++◌, get_or, length, map, zero, suc, refl, sym, ap, arith, Bool, subst}
use Rattle.std.specs.Prelude.{bytes_eq, take}
use Rattle.std.specs.Map.{lookup, values_of}
use Rattle.std.proofs.lemmas.List.{map-append, take_more}
use Rattle.std.proofs.lemmas.List.Sums.{fold_push}
use Rattle.indexmap.specs.IndexMap.{insert_entry}
use Rattle.nl_table.specs.declared.output_key.NameKey.{NameKey}
use Rattle.nl_reports.specs.Kinds.{AreSumsOf, IsSumOf, added, counted, kind_pair, kinds, no_sums, same_bytes, with_sums, AreNamed, sums_of}
use Rattle.nl_reports.specs.Rows.{Told, told_row, Sums}
use Rattle.nl_tool_texts.specs.Kind.{kind_of}
use Rattle.nl_tool_texts.specs.declared.kind.KindRule.{KindRule}
use Rattle.nl_reports.specs.declared.rows.Row.{Row}
use Rattle.std.specs.Borrow.{Bor}
use Rattle.std.proofs.lemmas.Slice.Eq.{bytes_eq-Decides}

-- ---- a command more

abbrev pub row_of : Bor (List ℕ) → Sums → Row
row_of n s = record { name = n; commands = s.commands; time = s.time; weight = s.weight }

abbrev sums_found : Option Row → Sums
sums_found None = no_sums
sums_found (Some r) = sums_of r

-- a kind that isn't there yet has no sums
abbrev pub row_in : List (NameKey × Row) → List ℕ → Option Row
row_in ps kind = lookup (λ (k : NameKey). bytes_eq kind k.bytes.now) ps

counted-insert : (ps : List (NameKey × Row)) (kind : NameKey) (n : Bor (List ℕ)) (t : Told)
    → map kind_pair (insert_entry same_bytes ps kind (row_of n (added (sums_found (row_in ps kind.bytes.now)) t.sums))) ≡ counted kind.bytes.now (map kind_pair ps) t
counted-insert [] kind n t = refl
counted-insert (p ∷ ps) kind n t =
    let rest = counted-insert ps kind n t in
    elim (bytes_eq kind.bytes.now p.0.bytes.now) as (λ b. map kind_pair (cond b ((p.0, row_of n (added (sums_found (cond b (Some p.1) (row_in ps kind.bytes.now))) t.sums)) ∷ ps)
    (p ∷ insert_entry same_bytes ps kind (row_of n (added (sums_found (cond b (Some p.1) (row_in ps kind.bytes.now))) t.sums))))
    ≡ cond b (with_sums (kind_pair p) t.sums ∷ map kind_pair ps) (kind_pair p ∷ counted kind.bytes.now (map kind_pair ps) t)) [
      | true ↦ refl
      | false ↦ ap (λ (l : List Told). kind_pair p ∷ l) rest
    ]

-- with the sums as they are added
added_none : (n : Bor (List ℕ)) (s : Sums) → row_of n s ≡ row_of n (added no_sums s)
added_none n s =
    let commands : s.commands ≡ 0 + s.commands = omega arith in
    let time : s.time ≡ 0 + s.time = omega arith in
    let weight : s.weight ≡ 0 + s.weight = omega arith in
    λ j. record { name = n; commands = commands j; time = time j; weight = weight j }

added_some : (n : Bor (List ℕ)) (s b : Sums) → row_of n (added s b) ≡ row_of n (added b s)
added_some n s b =
    let commands : s.commands + b.commands ≡ b.commands + s.commands = omega arith in
    let time : s.time + b.time ≡ b.time + s.time = omega arith in
    let weight : s.weight + b.weight ≡ b.weight + s.weight = omega arith in
    λ j. record { name = n; commands = commands j; time = time j; weight = weight j }

pub counted_none : (ps new : List (NameKey × Row)) (kind : NameKey) (n : Bor (List ℕ)) (t : Told)
    → row_in ps kind.bytes.now ≡ None → new ≡ insert_entry same_bytes ps kind (row_of n t.sums)
    → map kind_pair new ≡ counted kind.bytes.now (map kind_pair ps) t
counted_none ps new kind n t none is =
    ap (map kind_pair) (is ∙ ap (insert_entry same_bytes ps kind) (added_none n t.sums ∙ ap (λ (o : Option Row). row_of n (added (sums_found o) t.sums)) (sym none)))
    ∙ counted-insert ps kind n t

pub counted_some : (ps new : List (NameKey × Row)) (kind : NameKey) (n : Bor (List ℕ)) (t : Told) (r : Row)
    → row_in ps kind.bytes.now ≡ Some r → new ≡ insert_entry same_bytes ps kind (row_of n (added t.sums (sums_of r)))
    → map kind_pair new ≡ counted kind.bytes.now (map kind_pair ps) t
counted_some ps new kind n t r some is =
    ap (map kind_pair) (is ∙ ap (insert_entry same_bytes ps kind) (added_some n t.sums (sums_of r) ∙ ap (λ (o : Option Row). row_of n (added (sums_found o) t.sums)) (sym some)))
    ∙ counted-insert ps kind n t

-- no sums are too large
no_larger : (n : ℕ) (s : Sums) → IsSumOf n s → IsSumOf (n + 1) s
no_larger n s is = record {
  commands = omega (arith, is.commands);
  time = omega (arith, is.time);
  weight = omega (arith, is.weight);
}

none_larger : (n : ℕ) (ks : List Told) → AreSumsOf n ks → AreSumsOf (n + 1) ks
none_larger n [] are = tt
none_larger n (k ∷ ks) are = (no_larger n k.sums are.0, none_larger n ks are.1)

pub found_within : (n : ℕ) (ps : List (NameKey × Row)) (kind : List ℕ) (r : Row) → row_in ps kind ≡ Some r → AreSumsOf n (map kind_pair ps) → IsSumOf n (sums_of r)
found_within n [] kind r found are = cc found
found_within n (p ∷ ps) kind r found are = here (bytes_eq kind p.0.bytes.now) found (λ is. found_within n ps kind r is are.1)
  where
    here : (b : Bool) → cond b (Some p.1) (row_in ps kind) ≡ Some r → (row_in ps kind ≡ Some r → IsSumOf n (sums_of r)) → IsSumOf n (sums_of r)
    here true is rest = subst (λ (o : Option Row). IsSumOf n (sums_found o)) is are.0
    here false is rest = rest is

one_larger : (n : ℕ) (s t : Sums) → IsSumOf 1 t → IsSumOf n s → IsSumOf (n + 1) (added s t)
one_larger n s t one is = record {
  commands = omega (arith, is.commands, one.commands);
  time = omega (arith, is.time, one.time);
  weight = omega (arith, is.weight, one.weight);
}

pub counted_within : (n : ℕ) (ks : List Told) (kind : List ℕ) (t : Told) → IsSumOf 1 t.sums → AreSumsOf n ks → AreSumsOf (n + 1) (counted kind ks t)
counted_within n [] kind t one are =
    (one_larger n no_sums t.sums one (record { commands = omega arith; time = omega arith; weight = omega arith }), tt)
counted_within n (k ∷ ks) kind t one are =
    let rest = counted_within n ks kind t one are.1 in
    elim (bytes_eq kind k.name) as (λ b. AreSumsOf (n + 1) (cond b (with_sums k t.sums ∷ ks) (k ∷ counted kind ks t))) [
      | true ↦ (one_larger n k.sums t.sums one are.0, none_larger n ks are.1)
      | false ↦ (no_larger n k.sums are.0, rest)
    ]

-- the kinds of one command more
pub kinds_more : (rule : KindRule) (rows : List Row) (i : ℕ) (d : Row) (old new : List Told) (kind : List ℕ) → i < length rows
    → kind ≡ kind_of rule (get_or rows i d).name.now → new ≡ counted kind old (told_row (get_or rows i d))
    → old ≡ kinds rule (map told_row (take i rows)) → new ≡ kinds rule (map told_row (take (i + 1) rows))
kinds_more rule rows i d old new kind within is after before =
    let x = get_or rows i d in
    after ∙ (λ j. counted (is j) (before j) (told_row x))
    ∙ sym (fold_push (λ (ks : List Told) (t : Told). counted (kind_of rule t.name) ks t) [] (map told_row (take i rows)) (told_row x))
    ∙ ap (kinds rule) (sym (ap (map told_row) (take_more rows i d within) ∙ map-append told_row (take i rows) (x ∷ [])))

-- what stands where there is no row
abbrev pub no_row : Row
no_row = record { name = record { ref_ptr = (0, 0); now = [] }; commands = 0; time = 0; weight = 0 }

-- each command is no more than one
pub one_within : (n : ℕ) (rows : List Row) (i : ℕ) (d : Row) → AreSumsOf n (map told_row rows) → i < length rows → IsSumOf n (sums_of (get_or rows i d))
one_within n [] i d are within = absurd (omega (arith, within))
one_within n (r ∷ rs) zero d are within = are.0
one_within n (r ∷ rs) (suc i) d are within = one_within n rs i d are.1 (omega (arith, within))

pub all_within : (n : ℕ) (xs ys : List Told) → AreSumsOf n xs → AreSumsOf n ys → AreSumsOf n (xs ++ ys)
all_within n [] ys are more = more
all_within n (x ∷ xs) ys are more = (are.0, all_within n xs ys are.1 more)

-- ---- the rows of the kinds

pub named_more : (ps : List (NameKey × Row)) (kind : NameKey) (r : Row) → kind.bytes.now ≡ r.name.now → AreNamed ps → AreNamed (insert_entry same_bytes ps kind r)
named_more [] kind r is all = (is, tt)
named_more (p ∷ ps) kind r is all = here (bytes_eq kind.bytes.now p.0.bytes.now) refl (named_more ps kind r is all.1)
  where
    here : (b : Bool) → bytes_eq kind.bytes.now p.0.bytes.now ≡ b → AreNamed (insert_entry same_bytes ps kind r)
        → AreNamed (cond b ((p.0, r) ∷ ps) (p ∷ insert_entry same_bytes ps kind r))
    here true same rest = (sym ((bytes_eq-Decides kind.bytes.now p.0.bytes.now).0 same) ∙ is, all.1)
    here false other rest = (all.0, rest)

-- as they stand
pub rows_are : (ps : List (NameKey × Row)) → AreNamed ps → map told_row (values_of ps) ≡ map kind_pair ps
rows_are [] all = refl
rows_are (p ∷ ps) all = λ j. record { name = sym all.0 j; sums = sums_of p.1 } ∷ rows_are ps all.1 j
