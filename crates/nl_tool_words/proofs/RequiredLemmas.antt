-- Where clap finds no fault, each value that a command requires is there.
use Rattle.std.proofs.Common.{◌≡◌, ◌<◌, ◌&&◌, ◌||◌, not, Bool, true, false, List, [], ◌∷◌, length, is_some, inl, inr, refl, sym, ap, ◌∙◌}
use Rattle.std.proofs.Common.{arith, true≢false}
use Rattle.std.specs.Prelude.{slice_get}
use Rattle.std.specs.List.{list_all, list_any}
use Rattle.std.specs.Str.{bytes_eq}
use Rattle.clap.specs.Faults.{defaults_fault, level_fault, settle_fault, walk_fault}
use Rattle.clap.specs.Kinds.{Kinds, check_kinds, or_else}
use Rattle.clap.specs.Simple.{Shape}
use Rattle.clap.specs.Takes.{is_given}
use Rattle.clap.specs.Walk.{Row, Rule, Text, finished, first_of, nothing_held, rows_after, settled, walk, walk_from}
use Rattle.std.proofs.lemmas.Slice.Eq.{bytes_eq-Decides}
use Rattle.clap.proofs.WalkLemmas.{both}
use Rattle.nl_tool_words.proofs.FullLemmas.{AllFull, IsFilled, is_option, is_plain_rule, rows_after-full}

-- neither of two steps fails
pub none_fails : (a b : Kinds) → or_else a b ≡ [] → (a ≡ []) × (b ≡ [])
none_fails [] b e = (refl, e)
none_fails (k ∷ ks) b e = cc

nothing_wanted : (a b c : Bool) → check_kinds a b c ≡ [] → c ≡ false
nothing_wanted true b c e = cc
nothing_wanted false true c e = cc
nothing_wanted false false true e = cc
nothing_wanted false false false e = refl

-- a row that was given has a value
given_text : (id : Text) (rows : List Row) → is_option id ≡ false → AllFull rows → is_given id rows ≡ true
    → is_some (first_of id rows) ≡ true
given_text id [] other full e = e
given_text id (r ∷ rs) other full e = go (bytes_eq r.id id) refl e (given_text id rs other full.1)
  where
    first : (values : List Text) → 0 < length values → is_some (slice_get values 0) ≡ true
    first [] lt = absurd (omega arith)
    first (v ∷ vs) lt = refl

    filled : IsFilled r.id r.values → r.id ≡ id → 0 < length r.values
    filled (inl option) same = absurd (true≢false (sym option ∙ ap is_option same ∙ other))
    filled (inr lt) same = lt

    go : (b : Bool) → bytes_eq r.id id ≡ b → is_given id (r ∷ rs) ≡ true → (is_given id rs ≡ true → is_some (first_of id rs) ≡ true)
        → is_some (first_of id (r ∷ rs)) ≡ true
    go true here e later = rw here (first r.values (filled full.0 ((bytes_eq-Decides r.id id).0 here)))
    go false here e later = rw here (later (rw here at e))

-- each argument that is required has a value
abbrev pub has_required : List Rule → List Row → Bool
has_required rules rows = list_all (λ a. not a.required || is_some (first_of a.id rows)) rules

-- one that is required isn't the option
not_option : (a : Rule) → is_plain_rule a ≡ true → a.required ≡ true → is_option a.id ≡ false
not_option a plain required = go (is_option a.id) refl
  where
    go : (b : Bool) → is_option a.id ≡ b → is_option a.id ≡ false
    go true option = absurd (true≢false (sym (both (not (a.required && is_option a.id)) _ plain).0 ∙ rw required rw option refl))
    go false option = option

required_there : (rules : List Rule) (rows : List Row) → list_all is_plain_rule rules ≡ true → AllFull rows
    → list_any (λ a. a.required && not (is_given a.id rows)) rules ≡ false → has_required rules rows ≡ true
required_there [] rows plain full e = refl
required_there (a ∷ rest) rows plain full e =
    go a.required (is_given a.id rows) refl refl e (required_there rest rows (both (is_plain_rule a) _ plain).1 full)
  where
    go : (b g : Bool) → a.required ≡ b
        → is_given a.id rows ≡ g → ((b && not g) || list_any (λ a. a.required && not (is_given a.id rows)) rest) ≡ false
        → (list_any (λ a. a.required && not (is_given a.id rows)) rest ≡ false → has_required rest rows ≡ true)
        → ((not b || is_some (first_of a.id rows)) && has_required rest rows) ≡ true
    go false g required given e later = later e
    go true true required given e later =
        rw (given_text a.id rows (not_option a (both (is_plain_rule a) _ plain).0 required) full given) (later e)
    go true false required given e later = absurd (true≢false e)

-- one level of a parse that meets no fault
pub level_required : (s : Shape) (words : List Text) → list_all is_plain_rule s.rules ≡ true → s.subcommand_negates_reqs ≡ false
    → level_fault s [] nothing_held words false [] ≡ [] → has_required s.rules (rows_after s.rules [] words) ≡ true
level_required s words plain negates e =
    let end = (walk s.rules [] nothing_held words).held in
    let walked = none_fails (walk_fault s [] (walk_from nothing_held) words) _ e in
    let settles = none_fails (settle_fault s.rules s.args_override_self end) _ walked.1 in
    let defaults = none_fails (defaults_fault (settled s.rules end).rows s.rules) _ settles.1 in
    let wanted = nothing_wanted _ _ _ defaults.1 in
    required_there s.rules (finished s.rules end) plain (rows_after-full s.rules [] words plain) (rw negates at wanted)
