-- Which files the entries of a log vouch for.
use Rattle.nl_session.proofs.Names.{◌≡◌, Bool, true, false, List, [], ◌∷◌, ◌++◌, refl, sym, ◌∙◌, ap, inl, inr, Some, None, Option, ℕ, cases_Bool, Entry, Disk, length, drop, subst, prefix_joins, plus}
use Rattle.nl_session.proofs.Names.{Exchange, is_crash, Headline, is_kept, Update, History}
use Rattle.std.specs.Prelude.{bytes_eq, IfSome, IsSome, IsSomeAnd, ◌≢◌}
use Rattle.nl_session.specs.declared.events.Event.TheVariants.{Record}
use Rattle.nl_session.specs.declared.events.Reply.TheVariants.{Done}
use Rattle.nl_table.specs.History.{answer}
use Rattle.nl_folder.specs.CrashImages.{IsImage}
use Rattle.nl_session.specs.NeverStale.{Finds, FindsAlways, IsAmong, MayBeFound, MayEnter, NoneCrashes}
use Rattle.nl_session.proofs.StaleLemmas.{AreAsked, IsAskedBy, all_behind, all_first, asked, asked_left, asked_right, finds_always, found_all, found_loads}
use Rattle.nl_outputs.specs.Outputs.{Asked, IsCareful, IsDurable, IsKnown, MayBeLeft, MayBeRead, MayVouch, NeverHollow, NoneWrites, Output, Passes, PassesFor, Step, Synced, WasMade, Written, after, exchanges_of, stepped}

-- ---- what stays of a file

asked_stays : (name : List ℕ) (o : Output) (exchange : Exchange) → o.durable ≡ true → stepped name o (Asked exchange) ≡ o
asked_stays name o exchange durable = elim (cases_Bool (is_crash exchange)) [
  | inl lost ↦ rw lost rw durable refl
  | inr calm ↦ rw calm refl
]

synced_stays : (name : List ℕ) (o : Output) (other : List ℕ) → o.durable ≡ true → stepped name o (Synced other) ≡ o
synced_stays name o other durable = elim (cases_Bool (bytes_eq name other)) [
  | inl same ↦ rw same (ap (λ (b : Bool). record o { durable = b }) (sym durable))
  | inr apart ↦ rw apart refl
]

-- that is durable, and isn't written
stays : (name : List ℕ) (o : Output) (steps : List Step) → o.durable ≡ true → NoneWrites name steps → after name o steps ≡ o
stays name o [] durable none = refl
stays name o (Asked exchange ∷ steps) durable none =
    ap (λ (p : Output). after name p steps) (asked_stays name o exchange durable) ∙ stays name o steps durable none.1
stays name o (Written other contents ∷ steps) durable none = rw none.0 (stays name o steps durable none.1)
stays name o (Synced other ∷ steps) durable none =
    ap (λ (p : Output). after name p steps) (synced_stays name o other durable) ∙ stays name o steps durable none.1

synced_keeps : (name : List ℕ) (o : Output) (other : List ℕ) → (stepped name o (Synced other)).contents ≡ o.contents
synced_keeps name o other = elim (cases_Bool (bytes_eq name other)) [
  | inl same ↦ rw same refl
  | inr apart ↦ rw apart refl
]

-- that isn't written, where nothing crashes
keeps : (name : List ℕ) (o : Output) (steps : List Step) → NoneWrites name steps → NoneCrashes (exchanges_of steps)
    → (after name o steps).contents ≡ o.contents
keeps name o [] none calm = refl
keeps name o (Asked exchange ∷ steps) none calm = rw (calm.0, after) (keeps name o steps none.1 calm.1)
keeps name o (Written other contents ∷ steps) none calm = rw (none.0, after) (keeps name o steps none.1 calm)
keeps name o (Synced other ∷ steps) none calm = keeps name (stepped name o (Synced other)) steps none.1 calm ∙ synced_keeps name o other

after_more : (name : List ℕ) (o : Output) (xs ys : List Step) → after name o (xs ++ ys) ≡ after name (after name o xs) ys
after_more name o [] ys = refl
after_more name o (x ∷ xs) ys = after_more name (stepped name o x) xs ys

asked_more : (xs ys : List Step) → exchanges_of (xs ++ ys) ≡ exchanges_of xs ++ exchanges_of ys
asked_more [] ys = refl
asked_more (Asked exchange ∷ xs) ys = ap (λ (l : List Exchange). exchange ∷ l) (asked_more xs ys)
asked_more (Written name contents ∷ xs) ys = asked_more xs ys
asked_more (Synced name ∷ xs) ys = asked_more xs ys

-- ---- an entry that vouches for a file

-- it was recorded, the file was so, and wasn't written later
record Vouched (Is : Output → Type 0) (name : List ℕ) (hash : ℕ) (o : Output) (steps : List Step) : Type 0 where
  before : List Step
  exchange : Exchange
  behind : List Step
  are : steps ≡ before ++ Asked exchange ∷ behind
  entry : Entry
  vouches : MayVouch name hash entry exchange
  is : Is (after name o before)
  none : NoneWrites name behind

later : (Is : Output → Type 0) (name : List ℕ) (hash : ℕ) (o : Output) (step : Step) (steps : List Step)
    → Vouched Is name hash (stepped name o step) steps → Vouched Is name hash o (step ∷ steps)
later Is name hash o step steps v = record {
  before = step ∷ v.before;
  exchange = v.exchange;
  behind = v.behind;
  are = ap (λ (l : List Step). step ∷ l) v.are;
  entry = v.entry;
  vouches = v.vouches;
  is = v.is;
  none = v.none;
}

vouched : (Is : Output → Type 0) (name : List ℕ) (hash : ℕ) (o : Output) (steps : List Step) (e : Entry)
    → IsAmong (MayEnter e) (exchanges_of steps) → e.name ≡ name → e.hash ≡ hash → IsCareful Is name hash o steps → Vouched Is name hash o steps
vouched Is name hash o [] e among named for careful = absurd among
vouched Is name hash o (Asked exchange ∷ steps) e (inl entered) named for careful =
    let care = careful.0 e (entered, named, for) in record {
      before = [];
      exchange = exchange;
      behind = steps;
      are = refl;
      entry = e;
      vouches = (entered, named, for);
      is = care.0;
      none = care.1;
    }
vouched Is name hash o (Asked exchange ∷ steps) e (inr among) named for careful =
    later Is name hash o (Asked exchange) steps (vouched Is name hash (stepped name o (Asked exchange)) steps e among named for careful.1)
vouched Is name hash o (Written other contents ∷ steps) e among named for careful =
    later Is name hash o (Written other contents) steps
    (vouched Is name hash (stepped name o (Written other contents)) steps e among named for careful)
vouched Is name hash o (Synced other ∷ steps) e among named for careful =
    later Is name hash o (Synced other) steps (vouched Is name hash (stepped name o (Synced other)) steps e among named for careful)

-- one that is found, and passes, was recorded
recorded : (Is : Output → Type 0) (name : List ℕ) (hash : ℕ) (o : Output) (steps : List Step) (was : Option Entry) (bytes : List ℕ)
    → (PassesFor hash was → ⊥) → Finds (exchanges_of steps) name was bytes → IsCareful Is name hash o steps → Passes name hash bytes
    → Vouched Is name hash o steps
recorded Is name hash o steps was bytes none finds careful passes =
    let answered : MayBeFound (exchanges_of steps) name was (answer passes.history name) =
    subst (λ h. IsSomeAnd h (λ (g : History). MayBeFound (exchanges_of steps) name was (answer g name))) passes.reads finds in
    let found : MayBeFound (exchanges_of steps) name was (Some passes.found) =
    subst (MayBeFound (exchanges_of steps) name was) passes.answers answered in
    let for : found.0.hash ≡ hash = sym (ap (λ (e : Entry). e.hash) found.3.same) ∙ passes.is_for in
    elim found.2 [
      | inl stood ↦ absurd (none (subst (PassesFor hash) (sym stood) for))
      | inr among ↦ vouched Is name hash o steps found.0 among found.1 for careful
    ]

some_is : (o : Option (List ℕ)) (x : List ℕ) → IsSome o → IfSome o (λ c. x ≡ c) → o ≡ Some x
some_is None x some is = absurd (cc some)
some_is (Some c) x some is = ap Some (sym is)

made : (Is : Output → Type 0) (name : List ℕ) (hash : ℕ) (o : Output) (steps : List Step) (contents : List ℕ)
    → (v : Vouched Is name hash o steps) → (after name o v.before).contents ≡ Some contents → WasMade name hash o steps contents
made Is name hash o steps contents v had = record {
  before = v.before;
  exchange = v.exchange;
  behind = v.behind;
  are = v.are;
  entry = v.entry;
  vouches = v.vouches;
  had = had;
}

pub left_as_made : (name : List ℕ) (hash : ℕ) (o : Output) (steps : List Step) (was : Option Entry) (bytes contents : List ℕ)
    → (PassesFor hash was → ⊥) → Finds (exchanges_of steps) name was bytes → IsCareful IsDurable name hash o steps → Passes name hash bytes
    → MayBeLeft (after name o steps) contents → WasMade name hash o steps contents
left_as_made name hash o steps was bytes contents none finds careful passes left =
    let v = recorded IsDurable name hash o steps was bytes none finds careful passes in
    let then : Output = after name o v.before in
    let same : after name o steps ≡ then = ap (after name o) v.are ∙ after_more name o v.before (Asked v.exchange ∷ v.behind)
    ∙ stays name then (Asked v.exchange ∷ v.behind) v.is.0 (refl, v.none) in
    let is : MayBeLeft then contents = subst (λ (p : Output). MayBeLeft p contents) same left in
    made IsDurable name hash o steps contents v (some_is then.contents contents v.is.1 (is v.is.0))

pub read_as_made : (name : List ℕ) (hash : ℕ) (o : Output) (steps : List Step) (was : Option Entry) (bytes contents : List ℕ)
    → (PassesFor hash was → ⊥) → Finds (exchanges_of steps) name was bytes → NoneCrashes (exchanges_of steps)
    → IsCareful IsKnown name hash o steps → Passes name hash bytes → MayBeRead (after name o steps) contents → WasMade name hash o steps contents
read_as_made name hash o steps was bytes contents none finds calm careful passes read =
    let v = recorded IsKnown name hash o steps was bytes none finds careful passes in
    let then : Output = after name o v.before in
    let behind : NoneCrashes (exchanges_of (Asked v.exchange ∷ v.behind)) =
    all_behind (λ (x : Exchange). is_crash x ≡ false) (exchanges_of v.before) (exchanges_of (Asked v.exchange ∷ v.behind))
    (subst NoneCrashes (ap exchanges_of v.are ∙ asked_more v.before (Asked v.exchange ∷ v.behind)) calm) in
    let same : (after name o steps).contents ≡ then.contents =
    ap (λ (l : List Step). (after name o l).contents) v.are ∙ ap (λ (p : Output). p.contents) (after_more name o v.before (Asked v.exchange ∷ v.behind))
    ∙ keeps name then (Asked v.exchange ∷ v.behind) (refl, v.none) behind in
    let is : IfSome then.contents (λ c. contents ≡ c) = subst (λ (p : Option (List ℕ)). IfSome p (λ c. contents ≡ c)) same read in
    made IsKnown name hash o steps contents v (some_is then.contents contents v.is is)

pub never_hollow : (name : List ℕ) (hash : ℕ) (o : Output) (steps : List Step) (was : Option Entry) (disk : Disk) → (PassesFor hash was → ⊥)
    → FindsAlways (exchanges_of steps) name was disk → IsCareful IsDurable name hash o steps → NeverHollow name hash o steps disk
never_hollow name hash o steps was disk none finds careful bytes contents image passes left =
    left_as_made name hash o steps was bytes contents none (finds.images bytes image) careful passes left

-- ---- from the beginning of a log that has no entry of the output

module _ (start : History) (name : List ℕ) (xs : List Exchange) (disk : Disk) (none : answer start name ≡ None) (told : Headline start xs disk) where
  durable_asked : AreAsked xs told.durable
  durable_asked = subst (λ (l : List Exchange). AreAsked l told.durable) (sym told.are)
      (asked_right told.before told.since told.durable (asked start told.before told.durable told.durable_stands))

  pending_asked : AreAsked xs told.pending
  pending_asked = subst (λ (l : List Exchange). AreAsked l told.pending) (sym told.are)
      (asked_left told.before told.since told.pending (asked (plus start told.durable) told.since told.pending told.pending_stands))

  pub finds_new : (bytes : List ℕ) → IsImage disk bytes → Finds xs name None bytes
  finds_new bytes image =
      let l = told.loads bytes image in
      let asked_prefix : AreAsked xs l.prefix = all_first (λ (u : Update). IsAmong (IsAskedBy u) xs) l.prefix (drop (length l.prefix) told.pending)
      (rw (prefix_joins l.prefix told.pending l.is_prefix) at pending_asked) in
      let base : MayBeFound xs name None (answer start name) = subst (MayBeFound xs name None) (sym none) (inl refl) in
      found_loads xs name None bytes _ l.represents
      (found_all xs name None (plus start told.durable) l.prefix asked_prefix (found_all xs name None start told.durable durable_asked base))

pub new_never_hollow : (start : History) (name : List ℕ) (hash : ℕ) (o : Output) (steps : List Step) (disk : Disk) → answer start name ≡ None
    → Headline start (exchanges_of steps) disk → IsCareful IsDurable name hash o steps → NeverHollow name hash o steps disk
new_never_hollow start name hash o steps disk none told careful bytes contents image passes left =
    left_as_made name hash o steps None bytes contents (λ is. is) (finds_new start name (exchanges_of steps) disk none told bytes image) careful passes left

pub begun_never_hollow : (start : History) (first : List Exchange) (intent : Entry) (hash : ℕ) (o : Output) (steps : List Step) (disk : Disk)
    → Headline start (first ++ (Record intent, Done) ∷ exchanges_of steps) disk → is_kept (exchanges_of steps) ≡ true → intent.hash ≢ hash
    → IsCareful IsDurable intent.name hash o steps → NeverHollow intent.name hash o steps disk
begun_never_hollow start first intent hash o steps disk told kept apart careful =
    never_hollow intent.name hash o steps (Some intent) disk apart (finds_always start first (exchanges_of steps) intent disk told kept) careful
