-- Words without a fault don't enter clap's own subcommand `help`.
use Rattle.std.proofs.Common.{◌≡◌, ◌&&◌, not, Bool, true, false, List, [], ◌∷◌, Option, None, Some, codes, is_some, refl, sym, subst, true≢false}
use Rattle.std.specs.Prelude.{IfSome, if◌then◌else◌}
use Rattle.std.specs.List.{fold}
use Rattle.std.specs.Str.{bytes_eq}
use Rattle.clap.specs.Faults.{other_fault, step_fault, turn_fault, walk_fault, word_fault}
use Rattle.clap.specs.Kinds.{or_else}
use Rattle.clap.specs.Lexer.{long_of, short_of}
use Rattle.clap.specs.Simple.{Shape}
use Rattle.clap.specs.Walk.{Held, Names, Outcome, Rule, Step, Text, Waiting, Walk, after_flag, after_step, arg_by_index, done, idle, long_met}
use Rattle.clap.specs.Walk.{arg_by_long, bundle, long_or_other, next, option, plain, plain_word, positional, refused, short_or_plain, subcommand}
use Rattle.clap.specs.Walk.{subcommand_met, subcommand_or_other, to_positional, trailing, value, waits, walked, walked_from, word_met}
use Rattle.clap.specs.declared.error.kind.ErrorKind.TheVariants.{DisplayHelp, InvalidSubcommand}
use Rattle.nl_tool_words.proofs.RequiredLemmas.{none_fails}

-- a walk didn't stop at `help`
abbrev pub IsElsewhere : Option (Text × List Text) → Type 0
IsElsewhere stopped = IfSome stopped (λ p. bytes_eq p.0 (codes "help") ≡ false)

-- a step that enters nothing
abbrev IsInside : Step → Type 0
IsInside (subcommand name) = ⊥
IsInside _ = Unit {0}

plain_inside : (c : List Rule) (waiting : Waiting) (word : Text) (h : Held) → IsInside (plain_word c waiting word h).1
plain_inside c idle word h = tt
plain_inside c (option id) word h = tt
plain_inside c positional word h = tt

flag_inside : (c : List Rule) (waiting : Waiting) (word : Text) (h : Held) (x : Outcome) → IsInside (after_flag c waiting word h x).1
flag_inside c waiting word h done = tt
flag_inside c waiting word h (waits id) = tt
flag_inside c waiting word h plain = plain_inside c waiting word h
flag_inside c waiting word h refused = plain_inside c waiting word h

short_inside : (c : List Rule) (waiting : Waiting) (word : Text) (o : Option Text) (h : Held) → IsInside (short_or_plain c waiting word o h).1
short_inside c waiting word None h = plain_inside c waiting word h
short_inside c waiting word (Some flags) h = flag_inside c waiting word (bundle c flags h).0 (bundle c flags h).1

long_inside : (c : List Rule) (waiting : Waiting) (word : Text) (o : Option (Text × Option Text)) (h : Held)
    → IsInside (long_or_other c waiting word o h).1
long_inside c waiting word None h = short_inside c waiting word (short_of word) h
long_inside c waiting word (Some p) h =
    flag_inside c waiting word (long_met c (arg_by_long c p.0) p.1 h).0 (long_met c (arg_by_long c p.0) p.1 h).1

stays : (c : List Rule) (word : Text) (w : Walk) (h : Held) (step : Step) → w.stopped ≡ None → IsInside step
    → IsElsewhere (after_step c word w h step).stopped
stays c word w h (next waiting) none inside = subst IsElsewhere (sym none) tt
stays c word w h (trailing position) none inside = subst IsElsewhere (sym none) tt
stays c word w h (subcommand name) none inside = absurd inside
stays c word w h value none inside = go (arg_by_index c w.position)
  where
    go : (o : Option Rule) → IsElsewhere (to_positional c o word w h).stopped
    go None = subst IsElsewhere (sym none) tt
    go (Some a) = tt

-- a name that is met without a fault
named_elsewhere : (s : Shape) (name word : Text) (h : Held) → s.disable_help_subcommand ≡ false → other_fault s (Some name) word h ≡ []
    → bytes_eq name (codes "help") ≡ false
named_elsewhere s name word h off e = go (bytes_eq name (codes "help")) s.disable_help_subcommand refl off e
  where
    go : (b d : Bool) → bytes_eq name (codes "help") ≡ b → d ≡ false
        → (if b && not d then DisplayHelp ∷ InvalidSubcommand ∷ [] else []) ≡ [] → bytes_eq name (codes "help") ≡ false
    go false d is off e = is
    go true false is off e = cc
    go true true is off e = absurd (true≢false off)

turn_elsewhere : (s : Shape) (names : Names) (w : Walk) (word : Text) → s.disable_help_subcommand ≡ false → turn_fault s names w word ≡ []
    → IsElsewhere w.stopped → IsElsewhere (walked s.rules names w word).stopped
unfolding walked
turn_elsewhere s names w word off e elsewhere = go w.stopped refl elsewhere e
  where
    dashed : (none : w.stopped ≡ None) (b : Bool)
        → IsElsewhere (after_step s.rules word w (if b then (w.held, trailing w.position) else long_or_other s.rules w.waiting word (long_of word) w.held).0
        (if b then (w.held, trailing w.position) else long_or_other s.rules w.waiting word (long_of word) w.held).1).stopped
    dashed none true = stays s.rules word w w.held (trailing w.position) none tt
    dashed none false = stays s.rules word w _ _ none (long_inside s.rules w.waiting word (long_of word) w.held)

    named : (none : w.stopped ≡ None) (m : Option Text) → other_fault s m word w.held ≡ []
        → IsElsewhere (after_step s.rules word w (subcommand_or_other s.rules m w.waiting w.position word w.held).0
        (subcommand_or_other s.rules m w.waiting w.position word w.held).1).stopped
    named none (Some name) f = named_elsewhere s name word w.held off f
    named none None f = dashed none (bytes_eq word (45 ∷ 45 ∷ []))

    at_word : (none : w.stopped ≡ None) (b : Bool) → (if b then [] else other_fault s (subcommand_met names w.waiting word) word w.held) ≡ []
        → IsElsewhere (after_step s.rules word w (word_met s.rules names b w.waiting w.position word w.held).0
        (word_met s.rules names b w.waiting w.position word w.held).1).stopped
    at_word none true f = stays s.rules word w w.held value none tt
    at_word none false f = named none (subcommand_met names w.waiting word) f

    go : (o : Option (Text × List Text)) → w.stopped ≡ o → IsElsewhere o
        → (if is_some o then [] else or_else (word_fault s names w.is_trailing w.waiting word w.held)
        (step_fault s w.position (word_met s.rules names w.is_trailing w.waiting w.position word w.held).0
        (word_met s.rules names w.is_trailing w.waiting w.position word w.held).1)) ≡ [] → IsElsewhere (walked_from s.rules names o w word).stopped
    go (Some p) is elsewhere e = elsewhere
    go None is elsewhere e = at_word is w.is_trailing (none_fails (word_fault s names w.is_trailing w.waiting word w.held) _ e).0

pub walk_elsewhere : (s : Shape) (names : Names) (w : Walk) (words : List Text) → s.disable_help_subcommand ≡ false → walk_fault s names w words ≡ []
    → IsElsewhere w.stopped → IsElsewhere (fold (walked s.rules names) w words).stopped
unfolding walk_fault
walk_elsewhere s names w [] off e elsewhere = elsewhere
walk_elsewhere s names w (word ∷ words) off e elsewhere =
    let parts = none_fails (turn_fault s names w word) _ e in
    walk_elsewhere s names (walked s.rules names w word) words off parts.1 (turn_elsewhere s names w word off parts.0 elsewhere)
