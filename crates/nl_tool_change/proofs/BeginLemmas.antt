-- A line that begins a command: its fields between tabs, and the records that it makes.
use Rattle.std.proofs.Common.{◌≡◌, ◌≢◌, ◌<◌, ◌^◌, ◌∙◌, ℕ, ℤ, List, [], ◌∷◌, ◌++◌, length, refl, sym, ap, subst, arith, map, FitsSigned, w32, w64, Bor}
use Rattle.std.proofs.Common.{Option, None, Some, Result, Ok, Err}
use Rattle.std.specs.Result.{IsErrAnd}
use Rattle.std.specs.List.{All as Each, flat_map}
use Rattle.nl_session.proofs.Names.{map-append}
use Rattle.nl_fields.specs.Digits.{IsDecimal, IsDigits, decimal_of, digits_of}
use Rattle.nl_fields.specs.Fields.{HasNoTab}
use Rattle.nl_fields.specs.Name.{IsName}
use Rattle.nl_fields.proofs.DigitLemmas.{same_decimal_spelling, same_spelling}
use Rattle.nl_fields.proofs.EntryLineLemmas.{HasNoTab-decimal, digit_is_no_tab}
use Rattle.nl_fields.proofs.NumberLemmas.{All-digits, IsDecimal-decimal_of, IsDigits-digits_of}
use Rattle.nl_fields.specs.declared.entry.Entry.{Entry}
use Rattle.nl_session.specs.declared.events.Event.TheVariants.{Record}
use Rattle.nl_session.specs.declared.events.Reply.TheVariants.{Done, Refused}
use Rattle.nl_session.specs.declared.fault.LogFault.{LogFault}
use Rattle.nl_session.specs.declared.fault.LogFault.TheVariants.{Fault}
use Rattle.nl_session.specs.Answers.{events_of, replies_of}
use Rattle.nl_session.specs.Calls as log
use Rattle.nl_session.specs.Intents.{intents_over}
use Rattle.nl_session.specs.Machine.{Records, reply_of}
use Rattle.nl_session.specs.Runs.{act_of}
use Rattle.nl_session.specs.LogView.{EdgeStepsBy, LogView}
use Rattle.nl_session.specs.Headline.{Exchange}
use Rattle.nl_session.proofs.AppendLemmas.{run_join}
use Rattle.nl_tool_change.specs.Replay.{behind_tab, name_field, reply_line}
use Rattle.nl_tool_change.specs.declared.script.LineRefusal.{LineRefusal}
use Rattle.nl_tool_change.specs.declared.script.LineRefusal.TheVariants.{OutOfMemory}
use Rattle.nl_tool_change.proofs.ReadingLemmas.{behind-tail, names-tail, same_sides}
use Rattle.nl_tool_change.specs.declared.asked.Begin.{Begin}
use Rattle.nl_tool_change.specs.Applying.{AreRecords, BeginsBy, HasBegun, Steps, recorded}

-- ---- the fields of a line

within : (n : ℤ) → FitsSigned w32 n → FitsSigned w64 n
within n fits = record { sfits = omega (arith, fits.sfits) }

no_tab_in : (hash : ℕ) → hash < 2 ^ 64 → HasNoTab (digits_of 16 hash)
no_tab_in hash fits = All-digits (λ b. b ≡ 9 → ⊥) digit_is_no_tab (IsDigits-digits_of 16 hash (omega arith) fits)

-- what is spelled has its moment before the first tab
pub moment_first : (fields text : List ℕ) (rest : Option (Bor (List ℕ))) → fields ≡ text ++ behind_tab rest → HasNoTab text
    → (moment : ℤ) (hash : ℕ) (names : List (List ℕ)) → BeginsBy moment hash names fields
    → IsDecimal moment text × (behind_tab rest ≡ 9 ∷ (digits_of 16 hash ++ flat_map name_field names))
moment_first fields text rest is no_tab moment hash names begins =
    let spelled = IsDecimal-decimal_of moment (within moment begins.moment_fits) in
    let both = same_sides text (decimal_of moment) (behind_tab rest) (9 ∷ (digits_of 16 hash ++ flat_map name_field names)) no_tab
    (HasNoTab-decimal moment (decimal_of moment) spelled) (behind-tail rest) refl (sym is ∙ begins.is) in
    (subst (IsDecimal moment) (sym both.0) spelled, both.1)

-- and then its hash, and names
pub hash_next : (behind text : List ℕ) (rest : Option (Bor (List ℕ))) → behind ≡ text ++ behind_tab rest → HasNoTab text
    → (hash : ℕ) (names : List (List ℕ)) → hash < 2 ^ 64 → behind ≡ digits_of 16 hash ++ flat_map name_field names
    → IsDigits 16 hash text × (behind_tab rest ≡ flat_map name_field names)
hash_next behind text rest is no_tab hash names fits spelled =
    let both = same_sides text (digits_of 16 hash) (behind_tab rest) (flat_map name_field names) no_tab (no_tab_in hash fits)
    (behind-tail rest) (names-tail names) (sym is ∙ spelled) in
    (subst (IsDigits 16 hash) (sym both.0) (IsDigits-digits_of 16 hash (omega arith) fits), both.1)

-- what stands behind a tab
pub behind_is : (rest : Option (Bor (List ℕ))) (text : Bor (List ℕ)) (more : List ℕ) → rest ≡ Some text → behind_tab rest ≡ 9 ∷ more
    → text.now ≡ more
behind_is rest text more is there = let whole : 9 ∷ text.now ≡ 9 ∷ more = sym (ap behind_tab is) ∙ there in cc

-- where names are said, something is behind a tab
pub names_there : (rest : Option (Bor (List ℕ))) (names : List (List ℕ)) → 0 < length names → behind_tab rest ≡ flat_map name_field names
    → rest ≡ None → ⊥
names_there rest [] some there none = omega (arith, some)
names_there rest (name ∷ names) some there none = omega (arith, ap length (sym there ∙ ap behind_tab none))

-- where names are said, they aren't refused as a bad line
pub no_bad_line : {T : Type 0} (r : Result T LineRefusal) (why : LineRefusal) → IsErrAnd r (λ refusal. refusal ≡ why) → why ≡ OutOfMemory
    → IsErrAnd r (λ refusal. refusal ≢ OutOfMemory) → ⊥
no_bad_line (Ok value) why is memory bad = absurd is
no_bad_line (Err refusal) why is memory bad = absurd (bad (is ∙ memory))

-- what was read is so spelled
pub begins_by : (fields first hash_text rest text : List ℕ) (moment : ℤ) (hash : ℕ) (names : List (List ℕ)) → FitsSigned w32 moment
    → IsDecimal moment first → hash < 2 ^ 64 → IsDigits 16 hash hash_text → fields ≡ first ++ 9 ∷ rest → rest ≡ hash_text ++ 9 ∷ text
    → flat_map name_field names ≡ name_field text → Each IsName names → BeginsBy moment hash names fields
begins_by fields first hash_text rest text moment hash names fits spelled below digits is more said each = record {
  moment_fits = fits;
  hash_fits = below;
  are_names = each;
  some = some_of names said;
  is = is ∙ ap (λ (l : List ℕ). l ++ 9 ∷ rest) (same_decimal_spelling moment spelled (IsDecimal-decimal_of moment (within moment fits)))
      ∙ ap (λ (l : List ℕ). decimal_of moment ++ 9 ∷ l)
      (more ∙ ap (λ (l : List ℕ). l ++ 9 ∷ text) (same_spelling digits (IsDigits-digits_of 16 hash (omega arith) below))
      ∙ ap (λ (l : List ℕ). digits_of 16 hash ++ l) (sym said));
}
  where
    some_of : (names : List (List ℕ)) → flat_map name_field names ≡ name_field text → 0 < length names
    some_of [] said = absurd (omega (arith, ap length said))
    some_of (name ∷ names) said = omega arith

-- ---- the records of a command that begins

-- what records that were done ask of the machine, and answer
acts_recorded : (es : List Entry) → map act_of (events_of (recorded es)) ≡ map Records es
acts_recorded [] = refl
acts_recorded (e ∷ es) = ap (λ acts. Records e ∷ acts) (acts_recorded es)

replies_recorded : (es : List Entry) → replies_of (recorded es) ≡ map (λ _. Done) es
replies_recorded [] = refl
replies_recorded (e ∷ es) = ap (λ replies. Done ∷ replies) (replies_recorded es)

-- an edge was answered: the records that it made
pub edge_recorded : (es : List Entry) (result : Result (Unit {0}) LogFault) (old new : LogView) → EdgeStepsBy es (reply_of result) old new
    → (exchanges : List Exchange) × AreRecords es (reply_of result) exchanges × Steps exchanges old new
edge_recorded es (Ok done) old new steps = (
  recorded es,
  refl,
  λ s at. let ran = steps s at in rw (acts_recorded es, replies_recorded es) (record { last = ran.0; run = ran.1; at = ran.2 }),
)
edge_recorded es (Err Fault) old new stops = (
  recorded stops.done ++ (Record stops.next, Refused Fault) ∷ [],
  (stops.done, stops.next, stops.is_prefix, refl),
  λ s at. let ran = stops.fails s at in
      let goes = ran.fails in
      rw (map-append, map-append, map-append, acts_recorded stops.done, replies_recorded stops.done) (record {
        last = goes.next;
        run = run_join _ (Records stops.next ∷ []) _ (Refused Fault ∷ []) s ran.mid goes.next ran.run (goes.next, goes.step, refl);
        at = goes.at;
      }),
)
edge_recorded es (Err why) old new steps = ([], refl, λ s at. record { last = s; run = refl; at = (steps s at).1 })

-- so a begin was, of these names and this moment
pub has_begun : (begin : Begin) (old new : LogView) (result : Result (Unit {0}) LogFault) (names : List (List ℕ)) (moment : ℤ)
    → names ≡ begin.names.items → moment ≡ begin.moment_ms → log.Begins names moment begin.hash result old new
    → EdgeStepsBy (intents_over old.table names moment begin.hash) (reply_of result) old new
    → (r : Result (Unit {0}) LogFault) → result ≡ r
    → (exchanges : List Exchange) × HasBegun begin old new exchanges (reply_line (reply_of r))
has_begun begin old new result names moment are is call steps r same =
    let made = edge_recorded (intents_over old.table begin.names.items begin.moment_ms begin.hash) result old new (rw (are, is) at steps) in
    subst (λ (r : Result (Unit {0}) LogFault). (exchanges : List Exchange) × HasBegun begin old new exchanges (reply_line (reply_of r))) same
    (made.0, record { result = result; call = rw (are, is) at call; are = made.1; steps = made.2; is = refl })
