-- Intents among entries.
use Rattle.std.proofs.Common.{◌≡◌, ◌∙◌, ℕ, ◌||◌, ◌&&◌, Bool, true, false, cond, List, [], ◌∷◌, ◌++◌, map, Some}
use Rattle.std.proofs.Common.{refl, sym, ap, append-nil, append_assoc, subst}
use Rattle.std.specs.Borrow.{Bor}
use Rattle.std.specs.Prelude.{bytes_eq, filter}
use Rattle.std.proofs.lemmas.Bool.{cond-false, cond-true}
use Rattle.std.proofs.lemmas.Slice.Eq.{bytes_eq-Decides}
use Rattle.std.proofs.lemmas.List.Sums.{fold_push}
use Rattle.nl_fields.specs.declared.entry.Entry.{Entry}
use Rattle.nl_table.proofs.NameLemmas.{bytes_eq_comm}
use Rattle.nl_table.proofs.TableLemmas.{IsTable-entered}
use Rattle.nl_table.specs.History.{holds}
use Rattle.nl_table.specs.Table.{IsTable, all_entered_table, entered_table, entry_named, entry_names}
use Rattle.nl_fields.specs.Intent.{is_intent}
use Rattle.nl_builds.specs.Recorded.{any_intent, is_some_equal, is_some_intent, is_withdrawn, kept_of, name_of_new, recorded, recorded_from, stood_with, unfinished}

-- none of them is an intent
abbrev pub NoneOf : List Entry → Type 0
NoneOf [] = Unit {0}
NoneOf (e ∷ es) = (is_intent e ≡ false) × NoneOf es

left_false : (a b : Bool) → (a || b) ≡ false → a ≡ false
left_false true b is = absurd (cc is)
left_false false b is = refl

right_false : (a b : Bool) → (a || b) ≡ false → b ≡ false
right_false true b is = absurd (cc is)
right_false false b is = is

none_of : (es : List Entry) → any_intent es ≡ false → NoneOf es
none_of [] is = tt
none_of (e ∷ es) is = (left_false (is_intent e) (any_intent es) is, none_of es (right_false (is_intent e) (any_intent es) is))

none_entered : (e : Entry) (table : List Entry) → is_intent e ≡ false → NoneOf table → NoneOf (entered_table e table)
none_entered e [] other none = (other, tt)
none_entered e (old ∷ es) other none =
    let rest = none_entered e es other none.1 in
    elim (bytes_eq old.name e.name) as (λ b. NoneOf (cond b (e ∷ es) (old ∷ entered_table e es))) [
      | true ↦ (other, none.1)
      | false ↦ (none.0, rest)
    ]

none_named : (table : List Entry) (name : List ℕ) → NoneOf table → is_some_intent (entry_named table name) ≡ false
none_named [] name none = refl
none_named (e ∷ es) name none =
    let rest = none_named es name none.1 in
    elim (bytes_eq name e.name) as (λ b. is_some_intent (cond b (Some e) (entry_named es name)) ≡ false) [ true ↦ none.0 | false ↦ rest ]

kept_plain : (last stood : List Entry) (e : Entry) → is_intent e ≡ false → NoneOf last → kept_of last stood e ≡ e ∷ []
kept_plain last stood e other none =
    let away : is_withdrawn last stood e ≡ false = ap (λ b. b && is_some_equal (entry_named stood e.name) e) (none_named last e.name none) in
    cond-false (is_intent e || is_withdrawn last stood e) [] (e ∷ []) (ap (λ b. b || is_withdrawn last stood e) other ∙ away)

-- where none is an intent, all tell of commands
plain_from : (last stood es : List Entry) → NoneOf last → NoneOf es → recorded_from last stood es ≡ es
plain_from last stood [] held none = refl
plain_from last stood (e ∷ es) held none =
    ap (λ (l : List Entry). l ++ recorded_from (entered_table e last) (stood_with e stood) es) (kept_plain last stood e none.0 held)
    ∙ ap (λ (l : List Entry). e ∷ l) (plain_from (entered_table e last) (stood_with e stood) es (none_entered e last none.0 held) none.1)

pub recorded_plain : (es : List Entry) → any_intent es ≡ false → recorded es ≡ es
recorded_plain es is = plain_from [] [] es tt (none_of es is)

all_none : (es done : List Entry) → NoneOf es → NoneOf done → NoneOf (all_entered_table es done)
all_none [] done none held = held
all_none (e ∷ es) done none held = all_none es (entered_table e done) none.1 (none_entered e done none.0 held)

none_waiting : (es : List Entry) → NoneOf es → filter is_intent es ≡ []
none_waiting [] none = refl
none_waiting (e ∷ es) none = cond-false (is_intent e) (e ∷ filter is_intent es) (filter is_intent es) none.0 ∙ none_waiting es none.1

pub none_unfinished : (es : List Entry) → any_intent es ≡ false → unfinished es ≡ []
none_unfinished es is = ap entry_names (none_waiting (all_entered_table es []) (all_none es [] (none_of es is) tt))

-- ---- which are unfinished

names_entered : (e : Entry) (last : List Entry) → entry_names (entered_table e last) ≡ entry_names last ++ name_of_new (entry_named last e.name) e
names_entered e [] = refl
names_entered e (old ∷ es) = here (names_entered e es) (bytes_eq old.name e.name) refl (bytes_eq e.name old.name) (bytes_eq_comm e.name old.name)
  where
    here : entry_names (entered_table e es) ≡ entry_names es ++ name_of_new (entry_named es e.name) e → (b : Bool) → bytes_eq old.name e.name ≡ b
        → (c : Bool) → c ≡ b
        → entry_names (cond b (e ∷ es) (old ∷ entered_table e es)) ≡ old.name ∷ entry_names es ++ name_of_new (cond c (Some old) (entry_named es e.name)) e
    here rest true h true is = λ i. sym ((bytes_eq-Decides old.name e.name).0 h) i ∷ sym (append-nil (entry_names es)) i
    here rest true h false is = absurd (cc is)
    here rest false h true is = absurd (cc is)
    here rest false h false is = ap (λ (l : List (List ℕ)). old.name ∷ l) rest

-- the last entry of a name is an intent
abbrev waits : List Entry → List ℕ → Bool
waits last name = is_some_intent (entry_named last name)

other_names : (e : Entry) (es : List Entry) (names : List (List ℕ)) → holds names e.name ≡ false → filter (waits (e ∷ es)) names ≡ filter (waits es) names
other_names e es [] away = refl
other_names e es (n ∷ names) away =
    let first : bytes_eq n e.name ≡ false = left_false (bytes_eq n e.name) (holds names e.name) away in
    let same : waits (e ∷ es) n ≡ waits es n = ap is_some_intent (cond-false (bytes_eq n e.name) (Some e) (entry_named es n) first) in
    let rest = other_names e es names (right_false (bytes_eq n e.name) (holds names e.name) away) in
    λ i. cond (same i) (n ∷ rest i) (rest i)

waiting_names : (last : List Entry) → IsTable last → filter (waits last) (entry_names last) ≡ entry_names (filter is_intent last)
waiting_names [] is = refl
waiting_names (e ∷ es) is =
    let itself = cond-true (bytes_eq e.name e.name) (Some e) (entry_named es e.name) ((bytes_eq-Decides e.name e.name).1 refl) in
    let own : waits (e ∷ es) e.name ≡ is_intent e = ap is_some_intent itself in
    let rest = other_names e es (entry_names es) is.0 ∙ waiting_names es is.1 in
    (λ i. cond (own i) (e.name ∷ rest i) (rest i))
    ∙ elim (is_intent e) as (λ b. cond b (e.name ∷ entry_names (filter is_intent es)) (entry_names (filter is_intent es))
    ≡ entry_names (cond b (e ∷ filter is_intent es) (filter is_intent es))) [ true ↦ refl | false ↦ refl ]

map_filter : {X Y : Type 0} (f : X → Y) (p : Y → Bool) (xs : List X) → map f (filter (λ x. p (f x)) xs) ≡ filter p (map f xs)
map_filter f p [] = refl
map_filter {X} {Y} f p (x ∷ xs) =
    let rest = map_filter f p xs in
    elim (p (f x)) as (λ b. map f (cond b (x ∷ filter (λ x. p (f x)) xs) (filter (λ x. p (f x)) xs)) ≡ cond b (f x ∷ filter p (map f xs)) (filter p (map f xs))) [
      | true ↦ ap (λ (l : List Y). f x ∷ l) rest
      | false ↦ rest
    ]

all_table : (es done : List Entry) → IsTable done → IsTable (all_entered_table es done)
all_table [] done is = is
all_table (e ∷ es) done is = all_table es (entered_table e done) (IsTable-entered e done is)

abbrev pub bytes_of : List (Bor (List ℕ)) → List (List ℕ)
bytes_of names = map (λ (n : Bor (List ℕ)). n.now) names

pub names_more : (names new : List (Bor (List ℕ))) (last next : List Entry) (e : Entry) → bytes_of names ≡ entry_names last
    → bytes_of new ≡ bytes_of names ++ name_of_new (entry_named last e.name) e → next ≡ entered_table e last → bytes_of new ≡ entry_names next
names_more names new last next e before more is =
    more ∙ ap (λ (l : List (List ℕ)). l ++ name_of_new (entry_named last e.name) e) before ∙ sym (names_entered e last) ∙ ap entry_names (sym is)

pub unfinished_of : (names kept : List (Bor (List ℕ))) (last es : List Entry) → bytes_of names ≡ entry_names last → last ≡ all_entered_table es []
    → kept ≡ filter (λ n. is_some_intent (entry_named last n.now)) names → bytes_of kept ≡ unfinished es
unfinished_of names kept last es named is held =
    ap bytes_of held ∙ map_filter (λ (n : Bor (List ℕ)). n.now) (waits last) names ∙ ap (filter (waits last)) named
    ∙ waiting_names last (subst IsTable (sym is) (all_table es [] tt)) ∙ ap (λ (l : List Entry). entry_names (filter is_intent l)) is

-- ---- one more

pub kept_more : (kept new done last next stood later : List Entry) (e : Entry)
    → ((rest : List Entry) → kept ++ recorded_from last stood rest ≡ recorded (done ++ rest)) → new ≡ kept ++ kept_of last stood e
    → next ≡ entered_table e last → later ≡ stood_with e stood
    → (rest : List Entry) → new ++ recorded_from next later rest ≡ recorded ((done ++ e ∷ []) ++ rest)
kept_more kept new done last next stood later e held is last_is stood_is rest =
    (λ i. is i ++ recorded_from (last_is i) (stood_is i) rest)
    ∙ append_assoc kept (kept_of last stood e) (recorded_from (entered_table e last) (stood_with e stood) rest) ∙ held (e ∷ rest)
    ∙ ap recorded (sym (append_assoc done (e ∷ []) rest))

pub entered_more : (done : List Entry) (e : Entry) (last next : List Entry) → last ≡ all_entered_table done [] → next ≡ entered_table e last
    → next ≡ all_entered_table (done ++ e ∷ []) []
entered_more done e last next before after =
    after ∙ ap (entered_table e) before ∙ sym (fold_push (λ (done : List Entry) (e : Entry). entered_table e done) [] done e)

pub kept_all : (kept last stood done es : List Entry) → ((rest : List Entry) → kept ++ recorded_from last stood rest ≡ recorded (done ++ rest)) → done ≡ es
    → kept ≡ recorded es
kept_all kept last stood done es held is = sym (append-nil kept) ∙ held [] ∙ ap recorded (append-nil done ∙ is)
