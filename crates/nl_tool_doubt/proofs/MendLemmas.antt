-- A mend of a log, by the answers of what it calls.
use Rattle.std.proofs.Common.{cond, ◌≡◌, ◌≢◌, ◌≤◌, ◌∙◌, ◌↔◌, ◌++◌, ◌&&◌, ◌||◌, not, inl, inr, [], ap, drop, length, refl, sym, subst, List, ℕ, Result, Ok, Err}
use Rattle.std.specs.Global.{Vec}
use Rattle.std.specs.Prelude.{Bool, true, false, Option, None, Some, IfErr, IsErrOf, OnErr, OnOk}
use Rattle.std.specs.Result.{result_and}
use Rattle.std.specs.Io.KnownBytes.{Appends, Keeps}
use Rattle.std.specs.List.{flat_map}
use Rattle.std.proofs.lemmas.List.{append-nil, drop_all}
use Rattle.nl_folder.specs.DiskState.{Disk}
use Rattle.nl_folder.specs.FolderView.{FolderView}
use Rattle.nl_versions.specs.LogAs.{is_barred}
use Rattle.nl_versions.specs.VersionOf.{version_of}
use Rattle.nl_versions.proofs.VersionOfLemmas.{named_free}
use Rattle.nl_tool_texts.specs.Output.{AppendsPrefixOf}
use Rattle.nl_tool_texts.specs.declared.fault.ToolFault.{ToolFault}
use Rattle.nl_tool_texts.specs.declared.fault.ToolFault.TheVariants.{NotALog, OtherVersion, Memory, Write, Folder, Elsewhere}
use Rattle.nl_tool_change.specs.Calls.{IsFree}
use Rattle.nl_tool_change.specs.Faults.{IsRecordFault}
use Rattle.nl_tool_change.specs.Mending.{IsNoWhole, MendsLogAs, ReadsWhole}
use Rattle.nl_tool_doubt.specs.Mending.{FindsDoubts, IsMendFault, IsIn, IsSaid, Mends, MendsFolder, MendsIfDue, NoMend, Writes, is_due, is_elsewhere, mend_lines, taken}
use Rattle.nl_tool_doubt.specs.Settling.{IsMade, MakesFound, Settles, SettlesRead, is_nothing}
use Rattle.nl_tool_doubt.specs.declared.settling.Due.{Due}
use Rattle.nl_tool_doubt.specs.declared.settling.Due.TheVariants.{Nothing, Mend}
use Rattle.nl_tool_doubt.proofs.SettleLemmas.{fault_made}
use Rattle.nl_tool_doubt.specs.Doubts.{IsDoubts, damaged_by}
use Rattle.nl_tool_doubt.specs.declared.files.FileState.{FileState}
use Rattle.nl_tool_doubt.specs.declared.doubts.Doubted.{Doubted}
use Rattle.nl_tool_doubt.specs.declared.doubts.Doubts.{Doubts}
use Rattle.nl_tool_doubt.specs.declared.mending.How.{How}
use Rattle.nl_tool_doubt.specs.declared.mending.Mended.{Mended}
use Rattle.nl_tool_doubt.specs.declared.mending.Said.{Said}

pub keeps_same : (known : Option (List ℕ)) → Keeps known known
keeps_same None = tt
keeps_same (Some bytes) = refl

-- a log that has these bytes isn't barred as one of the version that they name
pub free_as_named : (disk : Option Disk) (log : List ℕ) → IsIn disk log → IsFree disk (version_of log)
free_as_named disk log here = λ d is. subst (λ (bytes : List ℕ). is_barred (version_of log) bytes ≡ false) (sym (here d is)) (named_free log)

-- ---- what is said

-- all of a list was passed through
pub all_passed : {A B : Type 0} (f : A → List B) (n : ℕ) (l : List A) (xs : List B) → length l ≤ n → xs ++ flat_map f (drop n l) ≡ flat_map f l
    → xs ≡ flat_map f l
all_passed {A} f n l xs done is = sym (append-nil xs) ∙ ap (λ (ys : List A). xs ++ flat_map f ys) (sym (drop_all n l done)) ∙ is

-- whether a change is due, as the tests come
pub due_some : (dry none whole due : Bool) → dry ≡ false → none ≡ false → due ≡ true → due ≡ (not dry && (not none || not whole))
due_some false false whole due d n is = is
due_some false true whole due d n is = absurd (cc n)
due_some true none whole due d n is = absurd (cc d)

pub due_broken : (dry none whole due : Bool) → dry ≡ false → none ≡ true → due ≡ not whole → due ≡ (not dry && (not none || not whole))
due_broken false true whole due d n is = is
due_broken false false whole due d n is = absurd (cc n)
due_broken true none whole due d n is = absurd (cc d)

pub due_dry : (dry none whole due : Bool) → dry ≡ true → due ≡ false → due ≡ (not dry && (not none || not whole))
due_dry true none whole due d is = is
due_dry false none whole due d is = absurd (cc d)

-- ---- what was said

-- what was said is done, and then it is said
pub record MendsSaid (log : List ℕ) (said : Said) (from to : Option (List ℕ)) (result : Result (Unit {0}) ToolFault) (old new : FolderView) : Type 0 where
  pub writes : Writes said.text.items from to result
  pub mends : MendsIfDue said.is_due log said.names.items result old new
  pub here : IsErrOf result Elsewhere → ⊥

-- a change that failed
pub said_failed : {log : List ℕ} {said : Said} {known : Option (List ℕ)} {old new : FolderView} (fault : ToolFault) → IsRecordFault fault
    → said.is_due ≡ true → MendsLogAs (version_of log) said.names.items (Err fault) old new → MendsSaid log said known known (Err fault) old new
said_failed {log} {said} {known} {old} {new} fault recorded due call =
    let unwritten : fault ≢ Write = λ is. subst IsRecordFault is recorded in
    record {
      writes = record { all = tt; part = λ is. absurd (unwritten (cc is)); none = λ other. keeps_same known };
      mends = record { mended = λ _ done. absurd (unwritten done); stays = λ no. absurd (cc (due, no)); refused = inr (inr call) };
      here = λ is. let same : fault ≡ Elsewhere = cc is in subst IsRecordFault same recorded;
    }

-- what was made of the log stands, whatever the writer answers
pub said_written : {log : List ℕ} {said : Said} {from to : Option (List ℕ)} {old new : FolderView} (r : Result (Unit {0}) ToolFault)
    (text : List ℕ) → text ≡ said.text.items → OnOk r (Appends from to text) → OnErr r (AppendsPrefixOf from to text)
    → IfErr r (λ fault. fault ≡ Write) → (said.is_due ≡ true → MendsLogAs (version_of log) said.names.items (Ok tt) old new)
    → (said.is_due ≡ false → new ≡ old) → MendsSaid log said from to r old new
said_written {from = from} {to = to} (Ok done) text is all part faults mended stays = record {
  writes = record { all = subst (Appends from to) is all; part = λ fails. absurd (cc fails); none = λ other. absurd (other tt) };
  mends = record { mended = λ due _. mended due; stays = stays; refused = tt };
  here = λ fails. absurd (cc fails);
}
said_written {from = from} {to = to} (Err fault) text is all part faults mended stays = record {
  writes = record { all = tt; part = λ _. subst (AppendsPrefixOf from to) is part; none = λ other. absurd (other faults) };
  mends = record { mended = λ due _. mended due; stays = stays; refused = inl faults };
  here = λ fails. absurd (cc (faults, fails));
}

-- ---- the mend

-- nothing was said or done
pub not_mended : {how : How} {log : List ℕ} {doubts : Doubts} {known : Option (List ℕ)} {view : FolderView} (fault : ToolFault) → fault ≢ Write
    → ((fault ≡ Elsewhere) ↔ (is_elsewhere doubts ≡ true)) → Mends how log doubts known known (Err fault) view view
not_mended {how} {log} {doubts} {known} {view} fault unwritten elsewhere = record {
  elsewhere = ((λ is. elsewhere.0 (cc is)), (λ yes. let is : fault ≡ Elsewhere = elsewhere.1 yes in cc is));
  told = tt;
  outputs = tt;
  text = mend_lines doubts.named.items;
  says = ([], sym (append-nil (mend_lines doubts.named.items)), λ _. refl);
  writes = record { all = tt; part = λ is. absurd (unwritten (cc is)); none = λ other. keeps_same known };
  mends = record { mended = λ _ done. absurd (unwritten done); stays = λ no. refl; refused = inr (inl refl) };
}

-- what was said is what is due
mends_as : {how : How} {log : List ℕ} {ds : List Doubted} {said : Said} {r : Result (Unit {0}) ToolFault} {old new : FolderView}
    → IsSaid how log ds said → MendsIfDue said.is_due log said.names.items r old new
    → MendsIfDue (is_due how.dry_run log (taken how.all ds)) log (taken how.all ds) r old new
mends_as {how} {log} {ds} {said} {r} {old} {new} said_so mends =
    subst (λ (due : Bool). MendsIfDue due log (taken how.all ds) r old new) said_so.due
    (subst (λ (names : List (List ℕ)). MendsIfDue said.is_due log names r old new) said_so.names mends)

module _ {how : How} {log : List ℕ} {doubts : Doubts} {from to : Option (List ℕ)} {old new : FolderView} {said : Said}
    (here : is_elsewhere doubts ≡ false) (said_so : IsSaid how log doubts.named.items said) where
  -- what was said was done
  pub mended : (m : Mended) → m.is_told ≡ said.is_told → (m.outputs ≡ doubts.outputs) × (m.there ≡ doubts.there)
      → MendsSaid log said from to (Ok tt) old new → Mends how log doubts from to (Ok m) old new
  mended m told outputs call = record {
    elsewhere = ((λ is. absurd (cc is)), (λ yes. absurd (cc (yes, here))));
    told = told ∙ said_so.told;
    outputs = outputs;
    text = said.text.items;
    says = said_so.text;
    writes = call.writes;
    mends = mends_as said_so call.mends;
  }

  -- or not
  pub mend_failed : (fault : ToolFault) → MendsSaid log said from to (Err fault) old new → Mends how log doubts from to (Err fault) old new
  mend_failed fault call = record {
    elsewhere = ((λ is. absurd (call.here (cc is))), (λ yes. absurd (cc (yes, here))));
    told = tt;
    outputs = tt;
    text = said.text.items;
    says = said_so.text;
    writes = call.writes;
    mends = mends_as said_so call.mends;
  }

  -- as the writer answers
  pub mends_and : (m : Mended) → m.is_told ≡ said.is_told → (m.outputs ≡ doubts.outputs) × (m.there ≡ doubts.there)
      → (r : Result (Unit {0}) ToolFault) → MendsSaid log said from to r old new → Mends how log doubts from to (result_and r (Ok m)) old new
  mends_and m told outputs (Ok done) call = mended m told outputs call
  mends_and m told outputs (Err fault) call = mend_failed fault call

-- the log that was read is mended
pub mends_found : {states : Option (List ℕ → FileState)} {how : How} {log : Vec ℕ} {from to : Option (List ℕ)} {result : Result Mended ToolFault}
    {old between new : FolderView} (bytes : List ℕ) (doubts : Doubts) → bytes ≡ log.items → ReadsWhole old between (Ok log)
    → IsDoubts (damaged_by true bytes) bytes states doubts → Mends how bytes doubts from to result between new
    → MendsFolder states how from to result old new
mends_found {states} {how} {log} {from} {to} {result} {old} {between} {new} bytes doubts is reads found mends = record {
  read = Ok log;
  between = between;
  reads = reads;
  mends = inr (
    doubts,
    subst (λ (l : List ℕ). IsDoubts (damaged_by true l) l states doubts) is found,
    subst (λ (l : List ℕ). Mends how l doubts from to result between new) is mends,
  );
}

-- ---- what was found was mended

-- a log that was read is free to be of the version that it names
free_here : {old : FolderView} (log : Vec ℕ) (between : FolderView) → ReadsWhole old between (Ok log) → IsFree between.disk (version_of log.items)
free_here log between reads = free_as_named between.disk log.items (λ d is. reads.value d (sym reads.same.disk ∙ is))

module _ {states : Option (List ℕ → FileState)} {how : How} {from mid : Option (List ℕ)} {text : List ℕ} {m : Mended} {old new : FolderView} where
  -- and then it was said
  pub mend_made : {to : Option (List ℕ)} (none : Bool) → Settles (FindsDoubts how states from mid text m) (mid ≡ from) None (Ok none) old new
      → (r : Result (Unit {0}) ToolFault) → OnOk r (Appends mid to text) → OnErr r (AppendsPrefixOf mid to text)
      → IfErr r (λ fault. fault ≡ Write) → MendsFolder states how from to (result_and r (Ok m)) old new
  mend_made {to} none s r all part faults = by_read s.read s.reads s.settles
    where
      by_due : (log : Vec ℕ) → ReadsWhole old s.between (Ok log) → (doubts : Doubts) → IsDoubts (damaged_by true log.items) log.items states doubts
          → (said : Said) → IsSaid how log.items doubts.named.items said → is_elsewhere doubts ≡ false → text ≡ said.text.items
          → m.is_told ≡ said.is_told → (m.outputs ≡ doubts.outputs) × (m.there ≡ doubts.there) → mid ≡ from
          → (due : Bool) → said.is_due ≡ due
          → IsMade None (cond due (Mend (version_of log.items) said.names) Nothing) (Ok tt) s.between new
          → MendsFolder states how from to (result_and r (Ok m)) old new
      by_due log reads doubts is said says here wrote told outputs kept due is_due made =
          mends_found log.items doubts refl reads is
          (mends_and here says m told outputs r
          (said_written r text wrote (subst (λ (w : Option (List ℕ)). OnOk r (Appends w to text)) kept all)
          (subst (λ (w : Option (List ℕ)). OnErr r (AppendsPrefixOf w to text)) kept part) faults
          (λ so. mended_due due (sym is_due ∙ so) made) (λ not_so. stays_due due (sym is_due ∙ not_so) made)))
        where
          mended_due : (due : Bool) → due ≡ true → IsMade None (cond due (Mend (version_of log.items) said.names) Nothing) (Ok tt) s.between new
              → MendsLogAs (version_of log.items) said.names.items (Ok tt) s.between new
          mended_due true so made = made (free_here log s.between reads)
          mended_due false so made = absurd (cc so)

          stays_due : (due : Bool) → due ≡ false → IsMade None (cond due (Mend (version_of log.items) said.names) Nothing) (Ok tt) s.between new
              → new ≡ s.between
          stays_due true not_so made = absurd (cc not_so)
          stays_due false not_so made = made.1

      by_made : (log : Vec ℕ) → ReadsWhole old s.between (Ok log) → (due : Due) → FindsDoubts how states from mid text m log.items (Ok due)
          → (made : Result (Unit {0}) ToolFault) → Ok none ≡ result_and made (Ok (is_nothing due)) → IsMade None due made s.between new
          → MendsFolder states how from to (result_and r (Ok m)) old new
      by_made log reads due finds (Ok done) answer is =
          let by = finds.3 in
          by_due log reads finds.1 finds.2 by.said by.is by.here by.text by.told by.outputs finds.0 by.said.is_due refl
          (subst (λ (d : Due). IsMade None d (Ok tt) s.between new) by.due is)
      by_made log reads due finds (Err fault) answer is = absurd (cc answer)

      by_found : (log : Vec ℕ) → ReadsWhole old s.between (Ok log) → (found : Result Due ToolFault) → FindsDoubts how states from mid text m log.items found
          → MakesFound None found (Ok none) s.between new → MendsFolder states how from to (result_and r (Ok m)) old new
      by_found log reads (Ok due) finds makes = by_made log reads due finds makes.made makes.answer makes.is
      by_found log reads (Err fault) finds makes = absurd (cc makes.0)

      by_read : (read : Result (Vec ℕ) ToolFault) → ReadsWhole old s.between read → SettlesRead (FindsDoubts how states from mid text m) (mid ≡ from) None read (Ok none) s.between new
          → MendsFolder states how from to (result_and r (Ok m)) old new
      by_read (Ok log) reads settles = by_found log reads settles.found settles.finds settles.makes
      by_read (Err fault) reads settles = absurd (cc settles.1)

  -- or nothing was said
  pub mend_unmade : (fault : ToolFault) → Settles (FindsDoubts how states from mid text m) (mid ≡ from) None (Err fault) old new → MendsFolder states how from mid (Err fault) old new
  mend_unmade fault s = subst (λ (to : Option (List ℕ)). MendsFolder states how from to (Err fault) old new) (sym (kept s.read s.settles)) (by_read s.read s.reads s.settles)
    where
      kept_found : (log : List ℕ) (found : Result Due ToolFault) → FindsDoubts how states from mid text m log found → mid ≡ from
      kept_found log (Ok due) finds = finds.0
      kept_found log (Err Elsewhere) finds = finds.0
      kept_found log (Err other) finds = finds.0

      kept : (read : Result (Vec ℕ) ToolFault) → SettlesRead (FindsDoubts how states from mid text m) (mid ≡ from) None read (Err fault) s.between new → mid ≡ from
      kept (Ok log) settles = kept_found log.items settles.found settles.finds
      kept (Err f) settles = settles.0

      no_mend : (f : ToolFault) → fault ≡ f → new ≡ s.between → NoMend from from (Err fault) f s.between new
      no_mend f is same = record { answer = ap (λ (g : ToolFault). Err g) is; wrote = keeps_same from; stays = same }

      by_fault : (log : Vec ℕ) → ReadsWhole old s.between (Ok log) → (f : ToolFault) → FindsDoubts how states from mid text m log.items (Err f) → fault ≡ f → new ≡ s.between
          → MendsFolder states how from from (Err fault) old new
      by_fault log reads Elsewhere finds is same = record {
        read = Ok log;
        between = s.between;
        reads = reads;
        mends = inr (
          finds.1,
          finds.2,
          subst (λ (f : ToolFault). Mends how log.items finds.1 from from (Err f) s.between new) (sym is)
              (subst (λ (v : FolderView). Mends how log.items finds.1 from from (Err Elsewhere) s.between v) (sym same)
              (not_mended Elsewhere (λ is. absurd (cc is)) ((λ _. finds.3), (λ _. refl)))),
        );
      }
      by_fault log reads other finds is same = record {
        read = Ok log;
        between = s.between;
        reads = reads;
        mends = inl (other, (λ is. absurd (cc is)), finds.1, no_mend other is same);
      }

      by_due : (log : Vec ℕ) → ReadsWhole old s.between (Ok log) → (doubts : Doubts) → IsDoubts (damaged_by true log.items) log.items states doubts
          → (said : Said) → IsSaid how log.items doubts.named.items said → is_elsewhere doubts ≡ false
          → (due : Bool) → said.is_due ≡ due
          → IsMade None (cond due (Mend (version_of log.items) said.names) Nothing) (Err fault) s.between new
          → MendsFolder states how from from (Err fault) old new
      by_due log reads doubts is said says here true is_due made =
          let call : MendsLogAs (version_of log.items) said.names.items (Err fault) s.between new = made (free_here log s.between reads) in
          mends_found log.items doubts refl reads is (mend_failed here says fault (said_failed fault call.seen.refusals is_due call))
      by_due log reads doubts is said says here false is_due made = absurd (cc made.0)

      by_made : (log : Vec ℕ) → ReadsWhole old s.between (Ok log) → (due : Due) → FindsDoubts how states from mid text m log.items (Ok due) → IsMade None due (Err fault) s.between new
          → MendsFolder states how from from (Err fault) old new
      by_made log reads due finds is =
          let by = finds.3 in
          by_due log reads finds.1 finds.2 by.said by.is by.here by.said.is_due refl
          (subst (λ (d : Due). IsMade None d (Err fault) s.between new) by.due is)

      by_found : (log : Vec ℕ) → ReadsWhole old s.between (Ok log) → (found : Result Due ToolFault) → FindsDoubts how states from mid text m log.items found
          → MakesFound None found (Err fault) s.between new → MendsFolder states how from from (Err fault) old new
      by_found log reads (Ok due) finds makes = by_made log reads due finds
          (subst (λ (made : Result (Unit {0}) ToolFault). IsMade None due made s.between new) (fault_made makes.made _ fault makes.answer) makes.is)
      by_found log reads (Err f) finds makes = let equal : fault ≡ f = cc makes.0 in by_fault log reads f finds equal makes.1

      by_read : (read : Result (Vec ℕ) ToolFault) → ReadsWhole old s.between read → SettlesRead (FindsDoubts how states from mid text m) (mid ≡ from) None read (Err fault) s.between new
          → MendsFolder states how from from (Err fault) old new
      by_read (Ok log) reads settles = by_found log reads settles.found settles.finds settles.makes
      by_read (Err f) reads settles =
          let equal : fault ≡ f = cc settles.1 in
          record { read = Err f; between = s.between; reads = reads; mends = no_mend f equal settles.2 }

  pub mend_fault : {Stays : Type 0} (fault : ToolFault) → Settles (FindsDoubts how states from mid text m) Stays None (Err fault) old new
      → IsMendFault fault
  mend_fault {Stays} fault s = by_read s.read s.reads s.settles
    where
      found : (log : List ℕ) (f : ToolFault) → FindsDoubts how states from mid text m log (Err f) → IsMendFault f
      found log Elsewhere finds = tt
      found log NotALog finds = tt
      found log OtherVersion finds = tt
      found log Memory finds = tt
      found log other finds = absurd finds.1

      recorded : (f : ToolFault) → IsRecordFault f → IsMendFault f
      recorded NotALog is = tt
      recorded OtherVersion is = tt
      recorded Memory is = tt
      recorded Folder is = tt
      recorded other is = absurd is

      by_due : (log : Vec ℕ) → ReadsWhole old s.between (Ok log) → (names : Vec (List ℕ)) (due : Bool)
          → IsMade None (cond due (Mend (version_of log.items) names) Nothing) (Err fault) s.between new → IsMendFault fault
      by_due log reads names true made = recorded fault (made (free_here log s.between reads)).seen.refusals
      by_due log reads names false made = absurd (cc made.0)

      by_found : (log : Vec ℕ) → ReadsWhole old s.between (Ok log) → (f : Result Due ToolFault) → FindsDoubts how states from mid text m log.items f
          → MakesFound None f (Err fault) s.between new → IsMendFault fault
      by_found log reads (Ok due) finds makes = by_due log reads finds.3.said.names finds.3.said.is_due
          (subst (λ (d : Due). IsMade None d (Err fault) s.between new) finds.3.due
          (subst (λ (made : Result (Unit {0}) ToolFault). IsMade None due made s.between new) (fault_made makes.made _ fault makes.answer) makes.is))
      by_found log reads (Err f) finds makes = let same : fault ≡ f = cc makes.0 in subst IsMendFault (sym same) (found log.items f finds)

      by_read : (read : Result (Vec ℕ) ToolFault) → ReadsWhole old s.between read
          → SettlesRead (FindsDoubts how states from mid text m) Stays None read (Err fault) s.between new → IsMendFault fault
      by_read (Ok log) reads settles = by_found log reads settles.found settles.finds settles.makes
      by_read (Err f) reads settles = let same : fault ≡ f = cc settles.1 in subst IsMendFault (sym same) (unread f reads.faults)
        where
          unread : (f : ToolFault) → IsNoWhole old.failures s.between.failures f → IsMendFault f
          unread Memory is = tt
          unread Folder is = tt
          unread other is = absurd is
