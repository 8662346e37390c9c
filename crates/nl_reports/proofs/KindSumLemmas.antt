-- What the kinds of commands add up to, all together and each for itself.
use Rattle.std.proofs.Common.{◌≡◌, ◌∙◌, ℕ, ◌+◌, ◌*◌, ◌≤◌, Bool, true, false, cond, List, [], ◌∷◌, length, map, inl, inr, refl, sym, ap, subst, arith}
use Rattle.std.specs.Prelude.{bytes_eq}
use Rattle.std.specs.List.{fold, sum_by}
use Rattle.std.proofs.lemmas.Bool.{cases_Bool}
use Rattle.std.proofs.lemmas.List.Sums.{sum_by-cons}
use Rattle.std.proofs.lemmas.Slice.Eq.{bytes_eq-Decides}
use Rattle.nl_table.proofs.NameLemmas.{bytes_eq_comm}
use Rattle.nl_reports.specs.Jobs.{Job}
use Rattle.nl_reports.specs.Kinds.{counted, kinds, named, no_sums, of_kind, with_sums}
use Rattle.nl_reports.specs.Numbers.{total_time}
use Rattle.nl_reports.specs.Rows.{Told, spans, told_job, told_jobs}
use Rattle.nl_reports.specs.Sweep.{busy_time, left_over, parts, weight}
use Rattle.nl_tool_texts.specs.Kind.{kind_of}
use Rattle.nl_tool_texts.specs.declared.kind.KindRule.{KindRule}
use Rattle.nl_reports.specs.declared.moments.Span.{Span}
use Rattle.nl_reports.proofs.SweepLemmas.{weights_add_up}

-- a kind without a command
abbrev no_kind : List ℕ → Told
no_kind kind = record { name = kind; sums = no_sums }

-- a number of a kind that begins with nothing, and to which each command adds its own
module _ (f : Told → ℕ) (g : Told → ℕ) (adds : (k : Told) (t : Told) → f (with_sums k t.sums) ≡ f k + g t)
    (begins : (kind : List ℕ) → f (no_kind kind) ≡ 0) where
  counted_sum : (own : List ℕ) (ks : List Told) (t : Told) → sum_by f (counted own ks t) ≡ sum_by f ks + g t
  counted_sum own [] t = omega (arith, adds (no_kind own) t, begins own, sum_by-cons f (with_sums (no_kind own) t.sums) [])
  counted_sum own (k ∷ ks) t =
      let rest = counted_sum own ks t in
      elim (bytes_eq own k.name) as (λ b. sum_by f (cond b (with_sums k t.sums ∷ ks) (k ∷ counted own ks t)) ≡ sum_by f (k ∷ ks) + g t) [
        | true ↦ omega (arith, adds k t, sum_by-cons f (with_sums k t.sums) ks, sum_by-cons f k ks)
        | false ↦ omega (arith, rest, sum_by-cons f k (counted own ks t), sum_by-cons f k ks)
      ]

  sums_from : (rule : KindRule) (ks : List Told) (ts : List Told)
      → sum_by f (fold (λ ks t. counted (kind_of rule t.name) ks t) ks ts) ≡ sum_by f ks + sum_by g ts
  sums_from rule ks [] = omega arith
  sums_from rule ks (t ∷ ts) =
      omega (
        arith,
        sums_from rule (counted (kind_of rule t.name) ks t) ts,
        counted_sum (kind_of rule t.name) ks t,
        sum_by-cons g t ts,
      )

  sums_add_up : (rule : KindRule) (ts : List Told) → sum_by f (kinds rule ts) ≡ sum_by g ts
  sums_add_up rule ts = omega (arith, sums_from rule [] ts)

  -- ---- of one kind

  module _ (kind : List ℕ) where
    own_sum : (own : List ℕ) (ks : List Told) (t : Told)
        → sum_by f (named kind (counted own ks t)) ≡ sum_by f (named kind ks) + cond (bytes_eq own kind) (g t) 0
    own_sum own [] t =
        elim (bytes_eq own kind) as (λ b. sum_by f (cond b (with_sums (no_kind own) t.sums ∷ []) []) ≡ 0 + cond b (g t) 0) [
          | true ↦ omega (arith, adds (no_kind own) t, begins own, sum_by-cons f (with_sums (no_kind own) t.sums) [])
          | false ↦ refl
        ]
    own_sum own (k ∷ ks) t = here (bytes_eq own k.name) refl (own_sum own ks t)
      where
        added : (b : Bool) → sum_by f (cond b (with_sums k t.sums ∷ named kind ks) (named kind ks))
            ≡ sum_by f (cond b (k ∷ named kind ks) (named kind ks)) + cond b (g t) 0
        added true = omega (arith, adds k t, sum_by-cons f (with_sums k t.sums) (named kind ks), sum_by-cons f k (named kind ks))
        added false = omega arith

        passed : (b : Bool) (l m : List Told) (n : ℕ) → sum_by f l ≡ sum_by f m + n
            → sum_by f (cond b (k ∷ l) l) ≡ sum_by f (cond b (k ∷ m) m) + n
        passed true l m n rest = omega (arith, rest, sum_by-cons f k l, sum_by-cons f k m)
        passed false l m n rest = rest

        here : (b : Bool) → bytes_eq own k.name ≡ b
            → sum_by f (named kind (counted own ks t)) ≡ sum_by f (named kind ks) + cond (bytes_eq own kind) (g t) 0
            → sum_by f (named kind (cond b (with_sums k t.sums ∷ ks) (k ∷ counted own ks t)))
            ≡ sum_by f (named kind (k ∷ ks)) + cond (bytes_eq own kind) (g t) 0
        here true is rest =
            subst (λ (o : List ℕ). sum_by f (named kind (with_sums k t.sums ∷ ks)) ≡ sum_by f (named kind (k ∷ ks)) + cond (bytes_eq o kind) (g t) 0)
            (sym ((bytes_eq-Decides own k.name).0 is)) (added (bytes_eq k.name kind))
        here false is rest = passed (bytes_eq k.name kind) (named kind (counted own ks t)) (named kind ks) (cond (bytes_eq own kind) (g t) 0) rest

    own_from : (rule : KindRule) (ks : List Told) (ts : List Told)
        → sum_by f (named kind (fold (λ ks t. counted (kind_of rule t.name) ks t) ks ts))
        ≡ sum_by f (named kind ks) + sum_by g (of_kind rule kind ts)
    own_from rule ks [] = omega arith
    own_from rule ks (t ∷ ts) =
        omega (arith, own_from rule (counted (kind_of rule t.name) ks t) ts, own_sum (kind_of rule t.name) ks t, first (bytes_eq (kind_of rule t.name) kind))
      where
        first : (b : Bool) → sum_by g (cond b (t ∷ of_kind rule kind ts) (of_kind rule kind ts)) ≡ cond b (g t) 0 + sum_by g (of_kind rule kind ts)
        first true = sum_by-cons g t (of_kind rule kind ts)
        first false = omega arith

    own_sums : (rule : KindRule) (ts : List Told) → sum_by f (named kind (kinds rule ts)) ≡ sum_by g (of_kind rule kind ts)
    own_sums rule ts = omega (arith, own_from rule [] ts)

-- ---- each kind once

module _ (kind : List ℕ) where
  others_stay : (own : List ℕ) (ks : List Told) (t : Told) → bytes_eq own kind ≡ false → named kind (counted own ks t) ≡ named kind ks
  others_stay own [] t other = ap (λ b. cond b (with_sums (no_kind own) t.sums ∷ []) []) other
  others_stay own (k ∷ ks) t other = here (bytes_eq own k.name) refl (others_stay own ks t other)
    where
      here : (b : Bool) → bytes_eq own k.name ≡ b → named kind (counted own ks t) ≡ named kind ks
          → named kind (cond b (with_sums k t.sums ∷ ks) (k ∷ counted own ks t)) ≡ named kind (k ∷ ks)
      here true is rest =
          let off : bytes_eq k.name kind ≡ false = ap (λ (o : List ℕ). bytes_eq o kind) (sym ((bytes_eq-Decides own k.name).0 is)) ∙ other in
          ap (λ b. cond b (with_sums k t.sums ∷ named kind ks) (named kind ks)) off
          ∙ sym (ap (λ b. cond b (k ∷ named kind ks) (named kind ks)) off)
      here false is rest = ap (λ (l : List Told). cond (bytes_eq k.name kind) (k ∷ l) l) rest

  stays_once : (ks : List Told) (t : Told) → length (named kind ks) ≤ 1 → length (named kind (counted kind ks t)) ≤ 1
  stays_once [] t few =
      elim (bytes_eq kind kind) as (λ b. length (cond b (with_sums (no_kind kind) t.sums ∷ []) []) ≤ 1) [ true ↦ omega arith | false ↦ omega arith ]
  stays_once (k ∷ ks) t few = here (bytes_eq kind k.name) refl (stays_once ks t)
    where
      as_long : (b : Bool) → length (cond b (with_sums k t.sums ∷ named kind ks) (named kind ks))
          ≡ length (cond b (k ∷ named kind ks) (named kind ks))
      as_long true = refl
      as_long false = refl

      here : (b : Bool) → bytes_eq kind k.name ≡ b
          → (length (named kind ks) ≤ 1 → length (named kind (counted kind ks t)) ≤ 1)
          → length (named kind (cond b (with_sums k t.sums ∷ ks) (k ∷ counted kind ks t))) ≤ 1
      here true is rest = omega (arith, few, as_long (bytes_eq k.name kind))
      here false is rest =
          let off : bytes_eq k.name kind ≡ false = bytes_eq_comm k.name kind ∙ is in
          let before = ap (λ b. length (cond b (k ∷ named kind ks) (named kind ks))) off in
          let after = ap (λ b. length (cond b (k ∷ named kind (counted kind ks t)) (named kind (counted kind ks t)))) off in
          let shorter = rest (omega (arith, few, before)) in
          omega (arith, shorter, after)

  once_more : (own : List ℕ) (ks : List Told) (t : Told) → length (named kind ks) ≤ 1 → length (named kind (counted own ks t)) ≤ 1
  once_more own ks t few =
      elim (cases_Bool (bytes_eq own kind)) [
        | inl same ↦
            subst (λ (o : List ℕ). length (named kind (counted o ks t)) ≤ 1) (sym ((bytes_eq-Decides own kind).0 same)) (stays_once ks t few)
        | inr other ↦ subst (λ (l : List Told). length l ≤ 1) (sym (others_stay own ks t other)) few
      ]

  once_from : (rule : KindRule) (ks : List Told) (ts : List Told) → length (named kind ks) ≤ 1
      → length (named kind (fold (λ ks t. counted (kind_of rule t.name) ks t) ks ts)) ≤ 1
  once_from rule ks [] few = few
  once_from rule ks (t ∷ ts) few = once_from rule (counted (kind_of rule t.name) ks t) ts (once_more (kind_of rule t.name) ks t few)

-- ---- laws

sum_mapped : {A B : Type 0} (f : B → ℕ) (g : A → B) (xs : List A) → sum_by f (map g xs) ≡ sum_by (λ x. f (g x)) xs
sum_mapped f g [] = refl
sum_mapped f g (x ∷ xs) = omega (arith, sum_mapped f g xs, sum_by-cons f (g x) (map g xs), sum_by-cons (λ y. f (g y)) x xs)

pub kind_once : (rule : KindRule) (kind : List ℕ) (ts : List Told) → length (named kind (kinds rule ts)) ≤ 1
kind_once rule kind ts = once_from kind rule [] ts (omega arith)

pub kind_commands : (rule : KindRule) (kind : List ℕ) (ts : List Told)
    → sum_by (λ (k : Told). k.sums.commands) (named kind (kinds rule ts)) ≡ sum_by (λ (t : Told). t.sums.commands) (of_kind rule kind ts)
kind_commands rule kind ts = own_sums (λ (k : Told). k.sums.commands) (λ (t : Told). t.sums.commands) (λ k t. refl) (λ kind. refl) kind rule ts

pub kind_times : (rule : KindRule) (kind : List ℕ) (ts : List Told)
    → sum_by (λ (k : Told). k.sums.time) (named kind (kinds rule ts)) ≡ sum_by (λ (t : Told). t.sums.time) (of_kind rule kind ts)
kind_times rule kind ts = own_sums (λ (k : Told). k.sums.time) (λ (t : Told). t.sums.time) (λ k t. refl) (λ kind. refl) kind rule ts

pub kind_weights : (rule : KindRule) (kind : List ℕ) (ts : List Told)
    → sum_by (λ (k : Told). k.sums.weight) (named kind (kinds rule ts)) ≡ sum_by (λ (t : Told). t.sums.weight) (of_kind rule kind ts)
kind_weights rule kind ts = own_sums (λ (k : Told). k.sums.weight) (λ (t : Told). t.sums.weight) (λ k t. refl) (λ kind. refl) kind rule ts

ones : (cs : List Span) (js : List Job) → sum_by (λ (t : Told). t.sums.commands) (map (told_job cs) js) ≡ length js
ones cs [] = refl
ones cs (j ∷ js) = omega (arith, ones cs js, sum_by-cons (λ (t : Told). t.sums.commands) (told_job cs j) (map (told_job cs) js))

pub commands_add_up : (rule : KindRule) (js : List Job) → sum_by (λ (k : Told). k.sums.commands) (kinds rule (told_jobs js)) ≡ length js
commands_add_up rule js =
    sums_add_up (λ (k : Told). k.sums.commands) (λ (t : Told). t.sums.commands) (λ k t. refl) (λ kind. refl) rule (told_jobs js) ∙ ones (spans js) js

pub times_add_up : (rule : KindRule) (js : List Job) → sum_by (λ (k : Told). k.sums.time) (kinds rule (told_jobs js)) ≡ total_time js
times_add_up rule js =
    sums_add_up (λ (k : Told). k.sums.time) (λ (t : Told). t.sums.time) (λ k t. refl) (λ kind. refl) rule (told_jobs js)
    ∙ sum_mapped (λ (t : Told). t.sums.time) (told_job (spans js)) js

pub kind_weights_add_up : (rule : KindRule) (js : List Job)
    → sum_by (λ (k : Told). k.sums.weight) (kinds rule (told_jobs js)) + left_over (spans js) ≡ parts * busy_time (spans js)
kind_weights_add_up rule js =
    let all = sums_add_up (λ (k : Told). k.sums.weight) (λ (t : Told). t.sums.weight) (λ k t. refl) (λ kind. refl) rule (told_jobs js) in
    let told = sum_mapped (λ (t : Told). t.sums.weight) (told_job (spans js)) js in
    let each = sum_mapped (weight (spans js)) (λ (j : Job). j.span) js in
    omega (arith, all, told, each, weights_add_up (spans js))
