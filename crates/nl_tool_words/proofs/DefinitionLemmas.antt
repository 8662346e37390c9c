-- The program as a simple command: that it is one, and what the commands that it enters have.
use Rattle.std.proofs.Common.{◌≡◌, ◌∙◌, ◌&&◌, ◌||◌, not, Bool, true, false, List, [], ◌∷◌, Option, Some, None, option_map, refl, inl, inr, cond, codes}
use Rattle.std.proofs.Common.{is_some, subst, sym, ap₂, true≢false}
use Rattle.std.specs.List.{find, list_all, list_any}
use Rattle.std.specs.Option.{option_map_or}
use Rattle.std.specs.Str.{bytes_eq}
use Rattle.clap.specs.Words.{App, Row, Rule, Shape, Text, built, fault_of, first_of, is_simple, is_simple_and_free}
use Rattle.clap.specs.Faults.{entered_fault, level_fault, walk_fault}
use Rattle.clap.specs.Simple.{argument_words, entered, label_of, names_of, rows_at}
use Rattle.clap.specs.Walk.{answers_to, nothing_held, stop_after, walk_from}
use Rattle.clap.proofs.OnLiterals.{clap_on_literals}
use Rattle.clap.proofs.WalkLemmas.{both}
use Rattle.std.proofs.lemmas.Slice.Eq.{bytes_eq-Decides}
use Rattle.nl_tool_words.specs.CommandLine.{HasEach, IsComplete, IsName, entered_of, required_ids, required_of}
use Rattle.nl_tool_words.specs.Rows.{nlog, word_rows}
use Rattle.nl_tool_words.proofs.FullLemmas.{either, found_passes, is_plain_rule}
use Rattle.nl_tool_words.proofs.HelpLemmas.{IsElsewhere, walk_elsewhere}
use Rattle.nl_tool_words.proofs.ValueLemmas.{or_false}
use Rattle.nl_tool_words.proofs.RequiredLemmas.{has_required, level_required, none_fails}

pub nlog_is_simple : is_simple nlog ≡ true
unfolding clap_on_literals
nlog_is_simple = refl

pub nlog_is_free : is_simple_and_free nlog ≡ true
unfolding clap_on_literals
nlog_is_free = refl

abbrev same_texts : List Text → List Text → Bool
same_texts [] [] = true
same_texts (a ∷ as_rest) (b ∷ bs) = bytes_eq a b && same_texts as_rest bs
same_texts _ _ = false

same_texts_is : (xs ys : List Text) → same_texts xs ys ≡ true → xs ≡ ys
same_texts_is [] [] e = refl
same_texts_is [] (y ∷ ys) e = absurd (true≢false (sym e))
same_texts_is (x ∷ xs) [] e = absurd (true≢false (sym e))
same_texts_is (x ∷ xs) (y ∷ ys) e =
    let parts = both (bytes_eq x y) (same_texts xs ys) e in
    ap₂ (λ (a : Text) (as_rest : List Text). a ∷ as_rest) ((bytes_eq-Decides x y).0 parts.0) (same_texts_is xs ys parts.1)

abbrev has_none : List Text → Bool
has_none [] = true
has_none _ = false

-- clap's own `help`, or one of the program's words, as clap built it
abbrev is_help : Shape → Bool
is_help s = answers_to (codes "help") (label_of s) && has_none s.aliases

abbrev is_word : Shape → Bool
is_word s = list_any (λ word. bytes_eq word.0 s.name) word_rows && (list_all is_plain_rule s.rules && (not s.subcommand_negates_reqs
    && same_texts (required_ids s.rules) (required_of s.name)))

abbrev is_own : Shape → Bool
is_own s = is_help s || is_word s

built_own : list_all is_own (built nlog).subs ≡ true
unfolding clap_on_literals
built_own = refl

each_required : (rules : List Rule) (values : List Row) → has_required rules values ≡ true → HasEach (required_ids rules) values
each_required [] values e = tt
each_required (a ∷ rest) values e =
    let parts = both (not a.required || is_some (first_of a.id values)) (has_required rest values) e in
    let later = each_required rest values parts.1 in
    elim a.required as (λ b. (not b || is_some (first_of a.id values)) ≡ true
    → HasEach (cond b (a.id ∷ required_ids rest) (required_ids rest)) values) [ true ↦ λ there. (there, later) | false ↦ λ there. later ] parts.0

not_true : (b : Bool) → not b ≡ true → b ≡ false
not_true false e = refl
not_true true e = absurd (true≢false (sym e))

-- what is met by its name isn't `help`, where the name isn't
word_met : (s : Shape) (name : Text) → bytes_eq name (codes "help") ≡ false → answers_to name (label_of s) ≡ true → is_own s ≡ true → is_word s ≡ true
word_met s name apart answers own = go (is_help s) refl own
  where
    none_else : (aliases : List Text) (word : Text) → has_none aliases ≡ true → list_any (λ alias. bytes_eq alias word) aliases ≡ false
    none_else [] word e = refl
    none_else (x ∷ xs) word e = absurd (true≢false (sym e))

    is_name : has_none s.aliases ≡ true → (word : Text) → answers_to word (label_of s) ≡ true → s.name ≡ word
    is_name e word answers = (bytes_eq-Decides s.name word).0 (sym (or_false _ _ (none_else s.aliases word e)) ∙ answers)

    go : (b : Bool) → is_help s ≡ b → (b || is_word s) ≡ true → is_word s ≡ true
    go false is own = own
    go true is own =
        let parts = both (answers_to (codes "help") (label_of s)) _ is in
        let same : name ≡ codes "help" = sym (is_name parts.1 name answers) ∙ is_name parts.1 (codes "help") parts.0 in
        absurd (true≢false (subst (λ n. bytes_eq n (codes "help") ≡ false) same apart))

-- what a parse without a fault entered
entered_complete : (a : App) (stop : Option (Text × List Text)) → list_all is_own a.subs ≡ true → IsElsewhere stop → entered_fault a stop ≡ []
    → IsComplete (entered a stop)
entered_complete a None own elsewhere e = tt
entered_complete a (Some p) own elsewhere e = go (find (λ s. answers_to p.0 (label_of s)) a.subs) refl e
  where
    go : (o : Option Shape) → find (λ s. answers_to p.0 (label_of s)) a.subs ≡ o
        → option_map_or (λ s. level_fault s [] nothing_held p.1 false []) o [] ≡ [] → IsComplete (option_map (λ s. rows_at s p.1) o)
    go None is e = tt
    go (Some s) is e =
        let met = found_passes (λ s. answers_to p.0 (label_of s)) is_own a.subs s own is in
        let one = both (list_any (λ word. bytes_eq word.0 s.name) word_rows) _ (word_met s p.0 elsewhere met.0 met.1) in
        let two = both (list_all is_plain_rule s.rules) _ one.1 in
        let three = both (not s.subcommand_negates_reqs) _ two.1 in
        let there = level_required s p.1 two.0 (not_true s.subcommand_negates_reqs three.0) e in
        (one.0, subst (λ ids. HasEach ids (rows_at s p.1).1) (same_texts_is _ _ three.1) (each_required s.rules _ there))

has_help : (built nlog).top.disable_help_subcommand ≡ false
unfolding clap_on_literals
has_help = refl

-- a word that was entered without a fault is one of the program, and has what it can't be without
pub words_complete : (words : List Text) → fault_of nlog words ≡ [] → IsComplete (entered_of words)
words_complete words e =
    let top = (built nlog).top in
    let names = names_of (built nlog) in
    let given = argument_words nlog words in
    let stop = stop_after top.rules names given in
    let parts = none_fails (walk_fault top names (walk_from nothing_held) given) _ e in
    entered_complete (built nlog) stop built_own (walk_elsewhere top names (walk_from nothing_held) given has_help parts.0 tt)
    (none_fails (entered_fault (built nlog) stop) _ parts.1).0

-- ---- the names

-- what one test finds passes another that all pass
any_passes : {X : Type 0} (p q : X → Bool) (xs : List X) → list_any p xs ≡ true → list_all q xs ≡ true → (x : X) × (p x ≡ true) × (q x ≡ true)
any_passes p q [] any all = absurd (true≢false (sym any))
any_passes p q (x ∷ xs) any all =
    let parts = both (q x) (list_all q xs) all in
    elim (either (p x) (list_any p xs) any) [
      | inl here ↦ (x, here, parts.0)
      | inr later ↦ any_passes p q xs later parts.1
    ]

-- the names that have an arm of their own
abbrev pub is_other : Text → Bool
is_other name = bytes_eq name (codes "check") || (bytes_eq name (codes "hash") || (bytes_eq name (codes "entries") || (bytes_eq name (codes "damage") || (bytes_eq name (codes "doubt") || (bytes_eq name (codes "builds") || (bytes_eq name (codes "summary") || (bytes_eq name (codes "compare") || (bytes_eq name (codes "trace") || (bytes_eq name (codes "picture") || (bytes_eq name (codes "hash-file") || (bytes_eq name (codes "mend") || (bytes_eq name (codes "record") || (bytes_eq name (codes "recompact") || (bytes_eq name (codes "restat") || (bytes_eq name (codes "prune") || (bytes_eq name (codes "retime") || (bytes_eq name (codes "repair") || (bytes_eq name (codes "apply") || (bytes_eq name (codes "replay"))))))))))))))))))))

abbrev is_known : Text → Bool
is_known name = bytes_eq name (codes "show") || is_other name

all_known : list_all (λ (word : Text × List Rule). is_known word.0) word_rows ≡ true
all_known = refl

pub only_show : (name : Text) → IsName name → is_other name ≡ false → name ≡ codes "show"
only_show name named other =
    let met = any_passes (λ (word : Text × List Rule). bytes_eq word.0 name) (λ word. is_known word.0) word_rows named all_known in
    let same : met.0.0 ≡ name = (bytes_eq-Decides met.0.0 name).0 met.1 in
    elim (either (bytes_eq name (codes "show")) (is_other name) (subst (λ n. is_known n ≡ true) same met.2)) [
      | inl show ↦ (bytes_eq-Decides name (codes "show")).0 show
      | inr one ↦ absurd (true≢false (sym one ∙ other))
    ]

pub unlike : (a b : Text) → (a ≡ b → ⊥) → bytes_eq a b ≡ false
unlike a b apart = go (bytes_eq a b) refl
  where
    go : (x : Bool) → bytes_eq a b ≡ x → bytes_eq a b ≡ false
    go true e = absurd (apart ((bytes_eq-Decides a b).0 e))
    go false e = e

pub neither : (a b : Bool) → a ≡ false → b ≡ false → (a || b) ≡ false
neither a b e f = rw e f
