-- What the line of an event says, between its tabs.
use Rattle.std.proofs.Common.{◌≡◌, ◌≢◌, ◌==◌, ◌∙◌, false, ℕ, ℤ, List, [], ◌∷◌, ◌++◌, length, inl, inr, refl, sym, ap, subst, arith}
use Rattle.std.proofs.Common.{FitsSigned, w64, Bor, codes}
use Rattle.std.specs.Prelude.{◌↔◌, Option, None, Some, IsSome, IfErr, Result, Ok, Err, ⊤}
use Rattle.std.specs.List.{All as Each, flat_map, position}
use Rattle.std.proofs.lemmas.Bool.Decides.{nat_tests}
use Rattle.std.proofs.lemmas.List.{append-nil, append_assoc}
use Rattle.std.proofs.lemmas.List.Elements.{All-head, All-tail, All-weaker}
use Rattle.nl_fields.specs.Digits.{IsDecimal, decimal_of}
use Rattle.nl_fields.specs.Fields.{HasNoTab}
use Rattle.nl_fields.specs.Name.{IsName}
use Rattle.nl_fields.proofs.EntryLineLemmas.{HasNoTab-decimal, HasNoTab-name, none_found, same_split, tab_there}
use Rattle.nl_fields.proofs.NumberLemmas.{IsDecimal-decimal_of}
use Rattle.nl_session.specs.declared.events.Event.{Event}
use Rattle.nl_session.specs.declared.events.Event.TheVariants.{Open as OpenLog, Record, Sync, Recompact, Restat, Stop, Crash}
use Rattle.nl_table.specs.declared.log_user.KeepList.TheVariants.{All, Only}
use Rattle.nl_tool_change.specs.declared.script.Word.{Word}
use Rattle.nl_tool_change.specs.declared.script.Word.TheVariants as word
use Rattle.nl_tool_change.specs.Replay.{behind_tab, event_line, name_field, text_of_word, time_fields}
use Rattle.nl_tool_change.specs.Reading.{HoldsNames, IsLineOf, IsReadable, IsTime, SaysNames, SaysTimes, fields_of_event, word_of_event}
use Rattle.nl_fields.specs.declared.entry.Entry.{Entry}
use Rattle.nl_fields.specs.declared.name.NameFault.{NameFault}
use Rattle.nl_fields.specs.declared.name.NameFault.TheVariants as fault
use Rattle.nl_fields.specs.EntryLine.{IsEntryLine, line_of}
use Rattle.nl_fields.specs.Name.{HasFault}
use Rattle.nl_fields.proofs.LineOfLemmas.{IsEntryLine-line_of}
use Rattle.nl_tool_change.specs.declared.script.LineRefusal.{LineRefusal}
use Rattle.nl_tool_change.specs.declared.script.LineRefusal.TheVariants.{OutOfMemory}
use Rattle.std.specs.Result.{IsErrAnd}
use Rattle.std.proofs.lemmas.Option.{none-some}

-- nothing, or a tab and more
abbrev pub IsTail : List ℕ → Type 0
IsTail [] = ⊤
IsTail (b ∷ rest) = b ≡ 9

pub behind-tail : (rest : Option (Bor (List ℕ))) → IsTail (behind_tab rest)
behind-tail None = tt
behind-tail (Some rest) = refl

pub names-tail : (names : List (List ℕ)) → IsTail (flat_map name_field names)
names-tail [] = tt
names-tail (name ∷ names) = refl

times-tail : (times : List (List ℕ × ℤ)) → IsTail (flat_map time_fields times)
times-tail [] = tt
times-tail (pair ∷ times) = refl

fields-tail : (event : Event) → IsTail (fields_of_event event)
fields-tail (OpenLog All) = tt
fields-tail (OpenLog (Only names)) = names-tail names.items
fields-tail (Record e) = refl
fields-tail Sync = tt
fields-tail (Recompact All) = tt
fields-tail (Recompact (Only names)) = names-tail names.items
fields-tail (Restat times) = times-tail times.items
fields-tail Stop = tt
fields-tail Crash = tt

-- the texts at the two sides of the first tab, or of the end where there is none
pub same_sides : (a b x y : List ℕ) → HasNoTab a → HasNoTab b → IsTail x → IsTail y → a ++ x ≡ b ++ y → (a ≡ b) × (x ≡ y)
same_sides a b [] [] no_a no_b is_x is_y same = (sym (append-nil a) ∙ same ∙ append-nil b, refl)
same_sides a b [] (d ∷ y) no_a no_b is_x is_y same =
    absurd (tab_there b y (subst HasNoTab (sym (append-nil a) ∙ same ∙ ap (λ (c : ℕ). b ++ c ∷ y) is_y) no_a))
same_sides a b (c ∷ x) [] no_a no_b is_x is_y same =
    absurd (tab_there a x (subst HasNoTab (sym (append-nil b) ∙ sym same ∙ ap (λ (d : ℕ). a ++ d ∷ x) is_x) no_b))
same_sides a b (c ∷ x) (d ∷ y) no_a no_b is_x is_y same =
    let both = same_split a b x y no_a no_b (ap (λ (e : ℕ). a ++ e ∷ x) (sym is_x) ∙ same ∙ ap (λ (e : ℕ). b ++ e ∷ y) is_y) in
    (both.0, ap (λ (e : ℕ). e ∷ x) is_x ∙ ap (λ (l : List ℕ). 9 ∷ l) both.1 ∙ ap (λ (e : ℕ). e ∷ y) (sym is_y))

-- names that are said begin with the first one
pub names_more : (text name : List ℕ) (rest : Option (Bor (List ℕ))) → text ≡ name ++ behind_tab rest → HasNoTab name → SaysNames (9 ∷ text)
    → IsName name × SaysNames (behind_tab rest)
names_more text name rest is no_tab ([], each, said) = absurd (omega (arith, ap length said))
names_more text name rest is no_tab (first ∷ names, each, said) =
    let left : text ≡ first ++ flat_map name_field names = cc in
    let named : IsName first = All-head IsName first names each in
    let both = same_sides name first (behind_tab rest) (flat_map name_field names) no_tab (HasNoTab-name named) (behind-tail rest)
    (names-tail names) (sym is ∙ left) in
    (subst IsName (sym both.0) named, (names, All-tail IsName first names each, both.1))

-- mtimes and names that are said begin with an mtime, and then a name
pub time_first : (text time : List ℕ) (rest : Option (Bor (List ℕ))) → text ≡ time ++ behind_tab rest → HasNoTab time → SaysTimes (9 ∷ text)
    → (mtime : ℤ) × FitsSigned w64 mtime × IsDecimal mtime time × ((pair : List ℕ × ℤ) × (times : List (List ℕ × ℤ)) × IsTime pair
    × Each IsTime times × (behind_tab rest ≡ 9 ∷ (pair.0 ++ flat_map time_fields times)))
time_first text time rest is no_tab ([], each, said) = absurd (omega (arith, ap length said))
time_first text time rest is no_tab (pair ∷ times, each, said) =
    let first : IsTime pair = All-head IsTime pair times each in
    let spelled : IsDecimal pair.1 (decimal_of pair.1) = IsDecimal-decimal_of pair.1 first.1 in
    let fields = flat_map time_fields times in
    let whole : 9 ∷ text ≡ 9 ∷ (decimal_of pair.1 ++ 9 ∷ (pair.0 ++ fields)) = said
    ∙ append_assoc (9 ∷ decimal_of pair.1) (9 ∷ pair.0) fields in
    let left : text ≡ decimal_of pair.1 ++ 9 ∷ (pair.0 ++ fields) = cc in
    let both = same_sides time (decimal_of pair.1) (behind_tab rest) (9 ∷ (pair.0 ++ fields)) no_tab
    (HasNoTab-decimal pair.1 (decimal_of pair.1) spelled) (behind-tail rest) refl (sym is ∙ left) in
    (pair.1, first.1, subst (IsDecimal pair.1) (sym both.0) spelled, (pair, times, first, All-tail IsTime pair times each, both.1))

pub times_more : (text time behind name : List ℕ) (rest more : Option (Bor (List ℕ))) → text ≡ time ++ behind_tab rest
    → HasNoTab time → behind_tab rest ≡ 9 ∷ behind → behind ≡ name ++ behind_tab more → HasNoTab name → SaysTimes (9 ∷ text)
    → IsName name × SaysTimes (behind_tab more)
times_more text time behind name rest more is no_tab there parts none says =
    let first = time_first text time rest is no_tab says in
    let left = first.3 in
    let fields = flat_map time_fields left.1 in
    let whole : behind ≡ left.0.0 ++ fields = let both : 9 ∷ behind ≡ 9 ∷ (left.0.0 ++ fields) = sym there ∙ left.4 in cc in
    let sides = same_sides name left.0.0 (behind_tab more) fields none (HasNoTab-name left.2.0) (behind-tail more) (times-tail left.1)
    (sym parts ∙ whole) in
    (subst IsName (sym sides.0) left.2.0, (left.1, left.3, sides.1))

-- where a tab is behind a text, something is
pub tab_is_there : (rest : Option (Bor (List ℕ))) (left : List ℕ) → behind_tab rest ≡ 9 ∷ left → rest ≡ None → ⊥
tab_is_there rest left there none = omega (arith, ap length (sym there ∙ ap behind_tab none))

-- no word has a tab
no_tab_by : (text : List ℕ) → position (λ b. b == 9) text ≡ None → HasNoTab text
no_tab_by text none = All-weaker (λ b. (b == 9) ≡ false) (λ b. b ≢ 9) other text (none_found (λ b. b == 9) text none)
  where
    other : (b : ℕ) → (b == 9) ≡ false → b ≢ 9
    other b isnt same = grind (arith, nat_tests)

no_tab_in : (w : Word) → HasNoTab (text_of_word w)
no_tab_in word.Writes = no_tab_by (codes "writes") refl
no_tab_in word.Fates = no_tab_by (codes "fates") refl
no_tab_in word.Tails = no_tab_by (codes "tails") refl
no_tab_in word.Fuse = no_tab_by (codes "fuse") refl
no_tab_in word.Open = no_tab_by (codes "open") refl
no_tab_in word.Recompact = no_tab_by (codes "recompact") refl
no_tab_in word.Record = no_tab_by (codes "record") refl
no_tab_in word.Restat = no_tab_by (codes "restat") refl
no_tab_in word.Sync = no_tab_by (codes "sync") refl
no_tab_in word.Stop = no_tab_by (codes "stop") refl
no_tab_in word.Crash = no_tab_by (codes "crash") refl

-- the line of an event is its word, and its fields
pub line_parts : (event : Event) → event_line event ≡ text_of_word (word_of_event event) ++ fields_of_event event
line_parts (OpenLog keep) = refl
line_parts (Record e) = refl
line_parts Sync = refl
line_parts (Recompact keep) = refl
line_parts (Restat times) = refl
line_parts Stop = refl
line_parts Crash = refl

-- a line of an event has its word before the first tab, and its fields behind
pub word_found : (line w : List ℕ) (rest : Option (Bor (List ℕ))) (event : Event) → line ≡ w ++ behind_tab rest → HasNoTab w
    → IsLineOf event line → (w ≡ text_of_word (word_of_event event)) × (behind_tab rest ≡ fields_of_event event)
word_found line w rest event is no_tab says =
    same_sides w (text_of_word (word_of_event event)) (behind_tab rest) (fields_of_event event) no_tab (no_tab_in (word_of_event event))
    (behind-tail rest) (fields-tail event) (sym is ∙ says.is ∙ line_parts event)

-- what refuses a name is want of memory, in a loop over names too
only_memory : (name : List ℕ) (why : NameFault) → HasFault name why → IsName name → why ≡ fault.OutOfMemory
only_memory name fault.Empty has named = absurd (omega (arith, named.some, ap length has))
only_memory name (fault.BadByte at) has named = absurd (none-some _ (sym named.allowed ∙ has))
only_memory name fault.TooLong has named = absurd (omega (arith, named.short, has.0))
only_memory name fault.OutOfMemory has named = refl

pub memory_kept : {T : Type 0} (r : Result T LineRefusal) (why : LineRefusal) → IsErrAnd r (λ refusal. refusal ≡ why) → why ≡ OutOfMemory
    → IfErr r (λ refusal. refusal ≡ OutOfMemory)
memory_kept (Ok value) why is memory = absurd is
memory_kept (Err refusal) why is memory = is ∙ memory

pub memory_alone : {T : Type 0} (r : Result T LineRefusal) (name : List ℕ) (why : NameFault)
    → IsErrAnd r (λ refusal. (refusal ≡ OutOfMemory) ↔ (why ≡ fault.OutOfMemory)) → HasFault name why → IsName name
    → IfErr r (λ refusal. refusal ≡ OutOfMemory)
memory_alone (Ok value) name why is has named = absurd is
memory_alone (Err refusal) name why is has named = is.1 (only_memory name why has named)

-- the line of an entry stands behind its word
pub record_said : (event : Event) (w : Word) (line : List ℕ) → w ≡ word.Record → w ≡ word_of_event event → 9 ∷ line ≡ fields_of_event event
    → IsReadable event → (e : Entry) × IsEntryLine e line
record_said (OpenLog keep) w line is same fields readable = absurd (cc)
record_said (Record e) w line is same fields readable =
    let whole : line_of e ≡ line = cc in
    (e, subst (IsEntryLine e) whole (IsEntryLine-line_of readable))
record_said Sync w line is same fields readable = absurd (cc)
record_said (Recompact keep) w line is same fields readable = absurd (cc)
record_said (Restat times) w line is same fields readable = absurd (cc)
record_said Stop w line is same fields readable = absurd (cc)
record_said Crash w line is same fields readable = absurd (cc)

-- what takes memory has names behind its word
pub open_holds : (w : Word) (rest : Option (Bor (List ℕ))) → w ≡ word.Open → IsSome rest → HoldsNames (text_of_word w ++ behind_tab rest)
open_holds w None is some = absurd (cc)
open_holds w (Some rest) is some = (rest.now, inl (ap (λ (v : Word). text_of_word v ++ 9 ∷ rest.now) is))

pub record_holds : (w : Word) (rest : Option (Bor (List ℕ))) → w ≡ word.Record → IsSome rest
    → HoldsNames (text_of_word w ++ behind_tab rest)
record_holds w None is some = absurd (cc)
record_holds w (Some rest) is some = (rest.now, inr (inl (ap (λ (v : Word). text_of_word v ++ 9 ∷ rest.now) is)))

pub recompact_holds : (w : Word) (rest : Option (Bor (List ℕ))) → w ≡ word.Recompact → IsSome rest
    → HoldsNames (text_of_word w ++ behind_tab rest)
recompact_holds w None is some = absurd (cc)
recompact_holds w (Some rest) is some = (rest.now, inr (inr (inl (ap (λ (v : Word). text_of_word v ++ 9 ∷ rest.now) is))))

pub restat_holds : (w : Word) (rest : Option (Bor (List ℕ))) → w ≡ word.Restat → IsSome rest
    → HoldsNames (text_of_word w ++ behind_tab rest)
restat_holds w None is some = absurd (cc)
restat_holds w (Some rest) is some = (rest.now, inr (inr (inr (ap (λ (v : Word). text_of_word v ++ 9 ∷ rest.now) is))))
