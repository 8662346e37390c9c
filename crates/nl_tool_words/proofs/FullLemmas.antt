-- A walk over words leaves no row without a value, but for that of an option.
use Rattle.std.proofs.Common.{◌≡◌, ◌∙◌, ◌<◌, ◌&&◌, ◌||◌, ◌⊎◌, not, inl, inr, ℕ, Bool, true, false, zero, suc, List, [], ◌∷◌, ◌++◌, length}
use Rattle.std.proofs.Common.{Option, Some, None, is_some, cond, refl, sym, subst, arith, true≢false, length-append}
use Rattle.std.specs.Prelude.{nat_lt, slice_get}
use Rattle.std.specs.List.{find, fold, list_all}
use Rattle.std.specs.Str.{bytes_eq, chars}
use Rattle.clap.specs.Lexer.{long_of, short_of}
use Rattle.clap.specs.Walk.{Held, Names, Outcome, Row, Rule, Step, Text, Waiting, Walk, action_of, after_flag, after_step, arg_by_id}
use Rattle.clap.specs.Walk.{arg_by_index, arg_by_long, arg_by_short, at_row, attached_value, bundle_met, bundle_step, default_rows, done}
use Rattle.clap.specs.Walk.{flag_met, has_row, has_long, has_short, idle, is_empty, is_pending, long_met, long_or_other, more_values, next}
use Rattle.clap.specs.Walk.{nothing_held, option, option_met, option_word, plain, plain_word, positional, positional_held, pushed, reacted}
use Rattle.clap.specs.Walk.{reading_by, refused, rows_after, settled, settled_rows, short_met, short_or_plain, started, subcommand}
use Rattle.clap.specs.Walk.{subcommand_met, subcommand_or_other, takes_several, takes_values, to_positional, trailing, used, used_as}
use Rattle.clap.specs.Walk.{used_by_id, value, values_or_missing, waits, walk, walk_from, walked, walked_from, with_default, with_values}
use Rattle.clap.specs.Walk.{without, word_met}
use Rattle.clap.specs.declared.builder.action.ArgAction.{ArgAction}
use Rattle.clap.specs.declared.builder.action.ArgAction.TheVariants.{Set, SetTrue, Help}
use Rattle.clap.specs.declared.parser.matches.ValueSource.{ValueSource}
use Rattle.clap.specs.declared.parser.matches.ValueSource.TheVariants.{CommandLine, DefaultValue}
use Rattle.clap.specs.declared.builder.value_parser.Reading.{Reading}
use Rattle.clap.proofs.WalkLemmas.{both}
use Rattle.clap.proofs.SimpleLemmas.{is_false}
use Rattle.std.proofs.lemmas.Slice.Eq.{bytes_eq-Decides}

-- the id is that of an option: it begins with a small letter, and that of a value by its place with a capital
abbrev pub is_option : Text → Bool
is_option [] = false
is_option (c ∷ cs) = nat_lt 96 c

-- there is a value, where the id isn't the option's
abbrev pub IsFilled : Text → List Text → Type 0
IsFilled id values = (is_option id ≡ true) ⊎ (0 < length values)

abbrev pub Full : Row → Type 0
Full r = IsFilled r.id r.values

abbrev pub AllFull : List Row → Type 0
AllFull [] = Unit {0}
AllFull (r ∷ rs) = Full r × AllFull rs

abbrev PendingFull : Option (Text × List Text) → Type 0
PendingFull None = Unit {0}
PendingFull (Some p) = IsFilled p.0 p.1

-- neither a row nor what is pending is without a value
abbrev Good : Held → Type 0
Good h = AllFull h.rows × PendingFull h.pending

-- ---- the rules

abbrev is_set : ArgAction → Bool
is_set Set = true
is_set _ = false

abbrev is_help : ArgAction → Bool
is_help Help = true
is_help _ = false

abbrev is_set_true : ArgAction → Bool
is_set_true SetTrue = true
is_set_true _ = false

-- a flag, for help or with a value of its own
abbrev is_flag_rule : Rule → Bool
is_flag_rule a = not (takes_values a) && (is_help (action_of a) || (is_set_true (action_of a) && not (is_empty a.missing)))

-- the argument stands by its place and takes a value, or is the option, which isn't required, or a flag
abbrev pub is_plain_rule : Rule → Bool
is_plain_rule a = not (a.required && is_option a.id)
    && ((is_set (action_of a) && is_some a.index) || ((is_set (action_of a) && is_option a.id) || is_flag_rule a))

set_is : (x : ArgAction) → is_set x ≡ true → x ≡ Set
set_is Set e = refl
set_is _ e = absurd (true≢false (sym e))

help_is : (x : ArgAction) → is_help x ≡ true → x ≡ Help
help_is Help e = refl
help_is _ e = absurd (true≢false (sym e))

set_true_is : (x : ArgAction) → is_set_true x ≡ true → x ≡ SetTrue
set_true_is SetTrue e = refl
set_true_is _ e = absurd (true≢false (sym e))

pub either : (a b : Bool) → (a || b) ≡ true → (a ≡ true) ⊎ (b ≡ true)
either true b e = inl refl
either false b e = inr e

-- a flag that is no option
abbrev IsFlag : Rule → Type 0
IsFlag a = (takes_values a ≡ false) × ((action_of a ≡ Help) ⊎ ((action_of a ≡ SetTrue) × (0 < length a.missing)))

abbrev IsOption : Rule → Type 0
IsOption a = (action_of a ≡ Set) × (is_option a.id ≡ true)

-- an argument that is met by its name
abbrev IsNamed : Rule → Type 0
IsNamed a = IsOption a ⊎ IsFlag a

abbrev IsPlain : Rule → Type 0
IsPlain a = ((action_of a ≡ Set) × (is_some a.index ≡ true)) ⊎ IsNamed a

some_missing : (xs : List Text) → not (is_empty xs) ≡ true → 0 < length xs
some_missing [] e = absurd (true≢false (sym e))
some_missing (x ∷ xs) e = omega arith

flag_rule : (a : Rule) → is_flag_rule a ≡ true → IsFlag a
flag_rule a e =
    let parts = both (not (takes_values a)) _ e in (
      is_false _ parts.0,
      elim (either (is_help (action_of a)) _ parts.1) [
        | inl h ↦ inl (help_is _ h)
        | inr h ↦ inr (set_true_is _ (both (is_set_true (action_of a)) _ h).0, some_missing _ (both (is_set_true (action_of a)) _ h).1)
      ],
    )

plain_rule : (a : Rule) → is_plain_rule a ≡ true → IsPlain a
plain_rule a e =
    elim (either (is_set (action_of a) && is_some a.index) _ (both (not (a.required && is_option a.id)) _ e).1) [
      | inl h ↦ inl (set_is _ (both _ _ h).0, (both (is_set (action_of a)) _ h).1)
      | inr h ↦ elim (either (is_set (action_of a) && is_option a.id) _ h) [
        | inl k ↦ inr (inl (set_is _ (both _ _ k).0, (both (is_set (action_of a)) _ k).1))
        | inr k ↦ inr (inr (flag_rule a k))
      ]
    ]

-- what is found passes the test, and every other that all pass
pub found_passes : {X : Type 0} (p q : X → Bool) (xs : List X) (x : X) → list_all q xs ≡ true → find p xs ≡ Some x → (p x ≡ true) × (q x ≡ true)
found_passes p q [] x all is = cc
found_passes p q (y ∷ ys) x all is = go (p y) refl is (found_passes p q ys x (both (q y) _ all).1)
  where
    go : (b : Bool) → p y ≡ b → cond b (Some y) (find p ys) ≡ Some x → (find p ys ≡ Some x → (p x ≡ true) × (q x ≡ true))
        → (p x ≡ true) × (q x ≡ true)
    go true here e later =
        let same : y ≡ x = cc in
        subst (λ z. (p z ≡ true) × (q z ≡ true)) same (here, (both (q y) _ all).0)
    go false here e later = later e

-- ---- rows

AllFull-append : (xs ys : List Row) → AllFull xs → AllFull ys → AllFull (xs ++ ys)
AllFull-append [] ys h k = k
AllFull-append (x ∷ xs) ys h k = (h.0, AllFull-append xs ys h.1 k)

at_row-full : (id : Text) (change : Row → List Row) (missing rows : List Row) → ((r : Row) → Full r → AllFull (change r)) → AllFull missing
    → AllFull rows → AllFull (at_row id change missing rows)
at_row-full id change missing [] f m h = m
at_row-full id change missing (r ∷ rs) f m h =
    elim (bytes_eq r.id id) as (λ b. AllFull (cond b (change r ++ rs) (r ∷ at_row id change missing rs))) [
      | true ↦ AllFull-append (change r) rs (f r h.0) h.1
      | false ↦ (h.0, at_row-full id change missing rs f m h.1)
    ]

without-full : (id : Text) (rows : List Row) → AllFull rows → AllFull (without id rows)
without-full id rows h = at_row-full id (λ _. []) [] rows (λ r full. tt) tt h

grown : (id : Text) (xs ys : List Text) → IsFilled id xs → IsFilled id (xs ++ ys)
grown id xs ys (inl h) = inl h
grown id xs ys (inr h) = inr (omega (arith, length-append xs ys))

with_values-full : (id : Text) (how : Reading) (s : ValueSource) (values : List Text) (rows : List Row) → IsFilled id values → AllFull rows
    → AllFull (with_values id how s values rows)
with_values-full id how s values rows filled h =
    at_row-full id (more_values s values) _ rows (λ r full. (grown r.id r.values values full, tt)) (filled, tt) h

given-full : (a : Rule) (values : List Text) → IsFilled a.id values → IsFilled a.id (values_or_missing a values)
given-full a values (inl k) = inl k
given-full a [] (inr lt) = absurd (omega arith)
given-full a (v ∷ vs) (inr lt) = inr lt

missing-full : (a : Rule) (values : List Text) → 0 < length a.missing → IsFilled a.id (values_or_missing a values)
missing-full a [] lt = inr lt
missing-full a (v ∷ vs) lt = inr (omega arith)

-- a use of one that is set
set-full : (a : Rule) (values : List Text) (rows : List Row) → action_of a ≡ Set → IsFilled a.id values → AllFull rows
    → AllFull (used a values rows)
set-full a values rows set filled h =
    subst (λ x. AllFull (used_as x a.id (reading_by a) (values_or_missing a values) rows)) (sym set)
    (with_values-full a.id (reading_by a) CommandLine (values_or_missing a values) (without a.id rows) (given-full a values filled)
    (without-full a.id rows h))

-- a use of one that is met by its name
named-full : (a : Rule) (values : List Text) (rows : List Row) → IsNamed a → AllFull rows → AllFull (used a values rows)
named-full a values rows (inl k) h = set-full a values rows k.0 (inl k.1) h
named-full a values rows (inr flag) h =
    elim flag.1 [
      | inl help ↦ subst (λ x. AllFull (used_as x a.id (reading_by a) (values_or_missing a values) rows)) (sym help) h
      | inr k ↦ subst (λ x. AllFull (used_as x a.id (reading_by a) (values_or_missing a values) rows)) (sym k.0)
          (with_values-full a.id (reading_by a) CommandLine (values_or_missing a values) (without a.id rows) (missing-full a values k.1)
          (without-full a.id rows h))
    ]

used-full : (a : Rule) (values : List Text) (rows : List Row) → IsPlain a → IsFilled a.id values → AllFull rows
    → AllFull (used a values rows)
used-full a values rows (inl k) filled h = set-full a values rows k.0 filled h
used-full a values rows (inr named) filled h = named-full a values rows named h

-- ---- a command whose rules are all plain

module _ (c : List Rule) (all : list_all is_plain_rule c ≡ true) where
  -- an argument by its id, with what is pending for it
  found_filled : (id : Text) (values : List Text) (a : Rule) → IsFilled id values → arg_by_id c id ≡ Some a
      → IsPlain a × IsFilled a.id values
  found_filled id values a filled is =
      let met = found_passes (λ a. bytes_eq a.id id) is_plain_rule c a all is in
      let same : a.id ≡ id = (bytes_eq-Decides a.id id).0 met.0 in
      (plain_rule a met.1, subst (λ x. IsFilled x values) (sym same) filled)

  no_index : (a : Rule) (b : Bool) → (not (is_some a.index) && b) ≡ true → IsPlain a → IsNamed a
  no_index a b e (inl k) = absurd (true≢false (sym k.1 ∙ is_false _ (both (not (is_some a.index)) b e).0))
  no_index a b e (inr named) = named

  named_found : (test : Rule → Bool) (a : Rule) → find (λ a. not (is_some a.index) && test a) c ≡ Some a → IsNamed a
  named_found test a is =
      let met = found_passes (λ a. not (is_some a.index) && test a) is_plain_rule c a all is in
      no_index a (test a) met.0 (plain_rule a met.1)

  settled-full : (h : Held) → Good h → Good (settled c h)
  settled-full h good = (go h.pending good.1, tt)
    where
      by_id : (o : Option Rule) (values : List Text) → ((a : Rule) → o ≡ Some a → IsPlain a × IsFilled a.id values)
          → AllFull (used_by_id o values h.rows)
      by_id None values f = good.0
      by_id (Some a) values f = used-full a values h.rows (f a refl).0 (f a refl).1 good.0

      go : (p : Option (Text × List Text)) → PendingFull p → AllFull (settled_rows c p h.rows)
      go None full = good.0
      go (Some p) full = by_id (arg_by_id c p.0) p.1 (λ a is. found_filled p.0 p.1 a full is)

  reacted-full : (a : Rule) (values : List Text) (h : Held) → IsNamed a → Good h → Good (reacted c a values h)
  reacted-full a values h named good = (named-full a values (settled c h).rows named (settled-full h good).0, tt)

  -- ---- flags and the option

  flag_met-full : (a : Rule) (v : Option Text) (h : Held) → IsNamed a → Good h → Good (flag_met c a v h).0
  flag_met-full a None h named good = reacted-full a [] h named good
  flag_met-full a (Some v) h named good = good

  option_met-full : (a : Rule) (v : Option Text) (h : Held) → takes_values a ≡ true → IsNamed a → Good h → Good (option_met c a v h).0
  option_met-full a (Some v) h takes named good = reacted-full a (v ∷ []) h named good
  option_met-full a None h takes (inl k) good = ((settled-full h good).0, inl k.1)
  option_met-full a None h takes (inr flag) good = absurd (true≢false (sym takes ∙ flag.0))

  long_met-full : (o : Option Rule) (v : Option Text) (h : Held) → ((a : Rule) → o ≡ Some a → IsNamed a) → Good h
      → Good (long_met c o v h).0
  long_met-full None v h f good = good
  long_met-full (Some a) v h f good = go (takes_values a) refl
    where
      go : (b : Bool) → takes_values a ≡ b → Good (cond b (option_met c a v h) (flag_met c a v h)).0
      go true takes = option_met-full a v h takes (f a refl) good
      go false takes = flag_met-full a v h (f a refl) good

  short_met-full : (o : Option Rule) (rest : Text) (h : Held) (then_on : Held → Held × Outcome) → ((a : Rule) → o ≡ Some a → IsNamed a)
      → ((k : Held) → Good k → Good (then_on k).0) → Good h → Good (short_met c o rest h then_on).0
  short_met-full None rest h then_on f g good = good
  short_met-full (Some a) rest h then_on f g good = go (takes_values a) refl
    where
      go : (b : Bool) → takes_values a ≡ b → Good (cond b (option_met c a (attached_value rest) h) (then_on (reacted c a [] h))).0
      go true takes = option_met-full a (attached_value rest) h takes (f a refl) good
      go false takes = g (reacted c a [] h) (reacted-full a [] h (f a refl) good)

  bundle_step-full : (o : Option ℕ) (flags : Text) (skip : ℕ) (so_far : Outcome) (h : Held)
      (then_on : Text → ℕ → Outcome → Held → Held × Outcome)
      → ((t : Text) (n : ℕ) (x : Outcome) (k : Held) → Good k → Good (then_on t n x k).0) → Good h
      → Good (bundle_step c o flags skip so_far h then_on).0
  bundle_step-full None flags skip so_far h then_on g good = good
  bundle_step-full (Some x) flags zero so_far h then_on g good =
      short_met-full (arg_by_short c x) _ h _ (named_found (λ a. has_short a x)) (λ k. g _ 0 done k) good
  bundle_step-full (Some x) flags (suc skip) so_far h then_on g good = g _ skip so_far h good

  bundle_met-full : (k : ℕ) (flags : Text) (skip : ℕ) (so_far : Outcome) (h : Held) → Good h → Good (bundle_met c k flags skip so_far h).0
  unfolding bundle_met
  bundle_met-full zero flags skip so_far h good = good
  bundle_met-full (suc k) flags skip so_far h good =
      bundle_step-full (slice_get (chars flags) 0) flags skip so_far h (bundle_met c k) (bundle_met-full k) good

  -- ---- a word

  pushed-full : (id word : Text) (h : Held) → AllFull h.rows → Good (pushed id word h)
  pushed-full id word h rows = (rows, inr (omega (arith, length-append (started id h.pending).1 (word ∷ []))))

  option_word-full : (o : Option Rule) (id word : Text) (h : Held) → Good h → Good (option_word o id word h).0
  option_word-full None id word h good = good
  option_word-full (Some a) id word h good = pushed-full id word h good.0

  plain_word-full : (waiting : Waiting) (word : Text) (h : Held) → Good h → Good (plain_word c waiting word h).0
  plain_word-full idle word h good = good
  plain_word-full (option id) word h good = option_word-full (arg_by_id c id) id word h good
  plain_word-full positional word h good = good

  after_flag-full : (waiting : Waiting) (word : Text) (h : Held) (x : Outcome) → Good h → Good (after_flag c waiting word h x).0
  after_flag-full waiting word h done good = good
  after_flag-full waiting word h (waits id) good = good
  after_flag-full waiting word h plain good = plain_word-full waiting word h good
  after_flag-full waiting word h refused good = plain_word-full waiting word h good

  short_or_plain-full : (waiting : Waiting) (word : Text) (o : Option Text) (h : Held) → Good h → Good (short_or_plain c waiting word o h).0
  short_or_plain-full waiting word None h good = plain_word-full waiting word h good
  short_or_plain-full waiting word (Some flags) h good =
      after_flag-full waiting word _ _ (bundle_met-full (length flags) flags h.skip plain (record h { skip = 0 }) good)

  long_or_other-full : (waiting : Waiting) (word : Text) (o : Option (Text × Option Text)) (h : Held) → Good h
      → Good (long_or_other c waiting word o h).0
  long_or_other-full waiting word None h good = short_or_plain-full waiting word (short_of word) h good
  long_or_other-full waiting word (Some p) h good =
      after_flag-full waiting word _ _ (long_met-full (arg_by_long c p.0) p.1 h (named_found (λ a. has_long a p.0)) good)

  subcommand_or_other-full : (o : Option Text) (waiting : Waiting) (position : ℕ) (word : Text) (h : Held) → Good h
      → Good (subcommand_or_other c o waiting position word h).0
  subcommand_or_other-full (Some name) waiting position word h good = good
  subcommand_or_other-full None waiting position word h good =
      elim (bytes_eq word (45 ∷ 45 ∷ [])) as (λ b. Good (cond b (h, trailing position) (long_or_other c waiting word (long_of word) h)).0) [
        | true ↦ good
        | false ↦ long_or_other-full waiting word (long_of word) h good
      ]

  word_met-full : (names : Names) (is_trailing : Bool) (waiting : Waiting) (position : ℕ) (word : Text) (h : Held) → Good h
      → Good (word_met c names is_trailing waiting position word h).0
  word_met-full names true waiting position word h good = good
  word_met-full names false waiting position word h good =
      subcommand_or_other-full (subcommand_met names waiting word) waiting position word h good

  -- ---- the walk

  positional_held-full : (a : Rule) (word : Text) (h : Held) → Good h → AllFull (positional_held c a word h).rows
  positional_held-full a word h good =
      elim (is_pending a h.pending && takes_several a) as (λ b. AllFull (pushed a.id word (cond b h (settled c h))).rows) [
        | true ↦ good.0
        | false ↦ (settled-full h good).0
      ]

  to_positional-full : (o : Option Rule) (word : Text) (w : Walk) (h : Held) → Good h → Good (to_positional c o word w h).held
  to_positional-full None word w h good = good
  to_positional-full (Some a) word w h good =
      pushed-full a.id word (cond (is_pending a h.pending && takes_several a) h (settled c h)) (positional_held-full a word h good)

  after_step-full : (word : Text) (w : Walk) (h : Held) (step : Step) → Good h → Good (after_step c word w h step).held
  after_step-full word w h (next waiting) good = good
  after_step-full word w h (trailing position) good = good
  after_step-full word w h (subcommand name) good = good
  after_step-full word w h value good = to_positional-full (arg_by_index c w.position) word w h good

  walked_from-full : (names : Names) (o : Option (Text × List Text)) (w : Walk) (word : Text) → Good w.held
      → Good (walked_from c names o w word).held
  walked_from-full names (Some p) w word good = good
  walked_from-full names None w word good =
      after_step-full word w _ _ (word_met-full names w.is_trailing w.waiting w.position word w.held good)

  walk-full : (names : Names) (w : Walk) (words : List Text) → Good w.held → Good (fold (walked c names) w words).held
  unfolding walked
  walk-full names w [] good = good
  walk-full names w (word ∷ words) good = walk-full names (walked c names w word) words (walked_from-full names w.stopped w word good)

-- ---- the end

default_rows-full : (id : Text) (how : Reading) (values : List Text) (rows : List Row) → AllFull rows
    → AllFull (default_rows id how values rows)
default_rows-full id how [] rows h = h
default_rows-full id how (v ∷ vs) rows h = with_values-full id how DefaultValue (v ∷ vs) rows (inr (omega arith)) h

default-full : (rows : List Row) (a : Rule) → AllFull rows → AllFull (with_default rows a)
default-full rows a h =
    elim (has_row a.id rows) as (λ b. AllFull (cond b rows (default_rows a.id (reading_by a) a.defaults rows))) [
      | true ↦ h
      | false ↦ default_rows-full a.id (reading_by a) a.defaults rows h
    ]

defaults-full : (rows : List Row) (xs : List Rule) → AllFull rows → AllFull (fold with_default rows xs)
defaults-full rows [] h = h
defaults-full rows (a ∷ as_rest) h = defaults-full (with_default rows a) as_rest (default-full rows a h)

-- at the end of a walk each row has a value, but for the option's
pub rows_after-full : (c : List Rule) (names : Names) (words : List Text) → list_all is_plain_rule c ≡ true
    → AllFull (rows_after c names words)
rows_after-full c names words all =
    let end = (walk c names nothing_held words).held in
    let good = walk-full c all names (walk_from nothing_held) words (tt, tt) in
    defaults-full (settled c end).rows c (settled-full c all end good).0
