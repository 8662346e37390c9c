-- What a word finds in the log that was read is made of that log.
use Rattle.std.proofs.Common.{not, true, false, ◌≤◌, ◌≡◌, ◌⊎◌, ◌∙◌, ◌<◌, List, [], ◌∷◌, ℕ, ℤ, zero, suc, length, refl, sym, ap, subst, inl, inr, arith, Result, Ok, Err}
use Rattle.std.specs.Prelude.{Bool, nat_lt, Option, None, Some, IfErr, MatchOption}
use Rattle.std.specs.Io.KnownBytes.{Appends, Keeps}
use Rattle.std.proofs.lemmas.Bool.{ltb-false}
use Rattle.std.proofs.lemmas.List.{append-nil}
use Rattle.nl_lines.proofs.PrefixLemmas.{prefix_itself, prefix_nil}
use Rattle.nl_table.specs.Log.{log_of}
use Rattle.nl_versions.specs.VersionOf.{as_five}
use Rattle.nl_tool_print.specs.Streams.{damage_text_of}
use Rattle.std.specs.Bool.{then_some}
use Rattle.std.specs.Result.{result_and}
use Rattle.std.specs.Global.{Vec}
use Rattle.nl_fields.specs.declared.entry.Entry.{Entry}
use Rattle.nl_folder.specs.FolderView.{FolderView}
use Rattle.nl_versions.specs.declared.version.LogVersion.{LogVersion}
use Rattle.nl_session.specs.Machine.{IsFirstNegative}
use Rattle.nl_tool_texts.specs.declared.fault.ToolFault.{ToolFault}
use Rattle.nl_tool_texts.specs.declared.fault.ToolFault.TheVariants.{NotALog, OtherVersion, Memory, Write, Folder, Elsewhere, NegativeTime}
use Rattle.nl_tool_change.specs.Calls.{ChangesLogFor, keeping}
use Rattle.nl_tool_change.specs.Faults.{IsChangeFault}
use Rattle.nl_tool_change.specs.Mending.{IsNoWhole}
use Rattle.nl_tool_doubt.specs.There.{LosesMost, table_in}
use Rattle.nl_tool_doubt.specs.Settling.{FindsKept, FindsTimes, IsAsked, IsPruned, IsRetimed, IsUntold, IsUntoldFault, IsWholeLog, TellsDamage}
use Rattle.nl_tool_doubt.specs.Settling.{MakesDue, MakesFound, Settles, SettlesRead}
use Rattle.nl_tool_doubt.specs.declared.files.FileState.{FileState}
use Rattle.nl_tool_doubt.specs.declared.settling.Due.{Due}
use Rattle.nl_tool_doubt.specs.declared.settling.Due.TheVariants.{Nothing, Keep, Touch, Mend}

-- what stays if the log couldn't be read
pub settles_less : {Finds : List ℕ → Result Due ToolFault → Type 0} {A B : Type 0} {asked : Option LogVersion} {r : Result Bool ToolFault}
    {old new : FolderView} → (A → B) → Settles Finds A asked r old new → Settles Finds B asked r old new
settles_less {Finds} {A} {B} {asked} {r} {old} {new} less s =
    record { read = s.read; between = s.between; reads = s.reads; settles = go s.read s.settles }
  where
    go : (read : Result (Vec ℕ) ToolFault) → SettlesRead Finds A asked read r s.between new → SettlesRead Finds B asked read r s.between new
    go (Ok log) is = is
    go (Err fault) is = (less is.0, is.1, is.2)

-- ---- what wasn't found

appends_nothing : (from to : Option (List ℕ)) → Keeps from to → Appends from to []
appends_nothing None to is = tt
appends_nothing (Some xs) None is = absurd is
appends_nothing (Some xs) (Some ys) is = is ∙ sym (append-nil xs)

keeps_nothing : (from to : Option (List ℕ)) → Appends from to [] → Keeps from to
keeps_nothing None to is = tt
keeps_nothing (Some xs) None is = absurd is
keeps_nothing (Some xs) (Some ys) is = is ∙ append-nil xs

-- by the text of the damage
pub damage_told : (asked : Option LogVersion) (bytes read text : List ℕ) (from to : Option (List ℕ)) (damaged : Bool) (table : List Entry)
    → IsAsked asked bytes → table_in (log_of (as_five bytes)) ≡ Some table → bytes ≡ read → damage_text_of (as_five read) ≡ Some text
    → Appends from to text → damaged ≡ nat_lt 0 (length text) → (o : Option (List Entry)) → o ≡ then_some (not damaged) table
    → MatchOption o (TellsDamage asked bytes from to) (λ table. IsWholeLog asked bytes table from to)
damage_told asked bytes read text from to damaged table version reads same is wrote any o what =
    subst (λ (o : Option (List Entry)). MatchOption o (TellsDamage asked bytes from to) (λ table. IsWholeLog asked bytes table from to)) (sym what)
    (go text damaged (subst (λ (bs : List ℕ). damage_text_of (as_five bs) ≡ Some text) (sym same) is) wrote any)
  where
    go : (text : List ℕ) (damaged : Bool) → damage_text_of (as_five bytes) ≡ Some text → Appends from to text
        → damaged ≡ nat_lt 0 (length text)
        → MatchOption (then_some (not damaged) table) (TellsDamage asked bytes from to) (λ table. IsWholeLog asked bytes table from to)
    go [] false is wrote any = record { version = version; reads = reads; whole = is; wrote = keeps_nothing from to wrote }
    go [] true is wrote any = absurd (cc any)
    go (b ∷ text) true is wrote any = record { version = version; text = b ∷ text; is = is; some = omega arith; wrote = wrote }
    go (b ∷ text) false is wrote any = let none : length (b ∷ text) ≤ 0 = ltb-false 0 (length (b ∷ text)) (sym any) in absurd (omega (arith, none))

module _ {asked : Option LogVersion} {from to : Option (List ℕ)} {bytes : List ℕ} {table : List Entry} (found : IsWholeLog asked bytes table from to) where
  -- memory was refused after a look for damage
  pub not_looked : IsUntold asked bytes from to Memory
  not_looked = inr (record {
    read = bytes;
    given = prefix_itself bytes;
    text = [];
    is = found.whole;
    written = [];
    part = prefix_nil [];
    appended = appends_nothing from to found.wrote;
  })

  pub few_kept : {states : Option (List ℕ → FileState)} {targets : List (List ℕ)} (fault : ToolFault) → (fault ≡ Memory) ⊎ (fault ≡ Elsewhere)
      → (fault ≡ Elsewhere → (set : List (List ℕ)) × LosesMost table states targets set) → FindsKept asked targets states from to bytes (Err fault)
  few_kept {states} {targets} fault (inl is) loses = subst (λ (f : ToolFault). FindsKept asked targets states from to bytes (Err f)) (sym is) not_looked
  few_kept {states} {targets} fault (inr is) loses =
      subst (λ (f : ToolFault). FindsKept asked targets states from to bytes (Err f)) (sym is) (table, found, loses is)

-- ---- the faults

pub fault_made : (made : Result (Unit {0}) ToolFault) (b : Bool) (fault : ToolFault) → Err fault ≡ result_and made (Ok b) → made ≡ Err fault
fault_made (Ok done) b fault is = absurd (cc is)
fault_made (Err other) b fault is = let same : fault ≡ other = cc is in ap (λ (f : ToolFault). Err f) (sym same)

untold_fault : (asked : Option LogVersion) (bytes : List ℕ) (from to : Option (List ℕ)) (fault : ToolFault) → IsUntold asked bytes from to fault
    → IsUntoldFault fault
untold_fault asked bytes from to NotALog is = tt
untold_fault asked bytes from to OtherVersion is = tt
untold_fault asked bytes from to Memory is = tt
untold_fault asked bytes from to Write is = tt
untold_fault asked bytes from to other is = elim is.1 [ inl never ↦ absurd never | inr never ↦ absurd never ]

pruned_unread : (before after : ℕ) (fault : ToolFault) → IsNoWhole before after fault → IsPruned fault
pruned_unread before after Memory is = tt
pruned_unread before after Folder is = tt
pruned_unread before after other is = absurd is

retimed_unread : (before after : ℕ) (fault : ToolFault) → IsNoWhole before after fault → IsRetimed fault
retimed_unread before after Memory is = tt
retimed_unread before after Folder is = tt
retimed_unread before after other is = absurd is

retimed_change : (fault : ToolFault) → IsChangeFault fault → IsRetimed fault
retimed_change (NegativeTime place) is = tt
retimed_change NotALog is = tt
retimed_change OtherVersion is = tt
retimed_change Memory is = tt
retimed_change Folder is = tt
retimed_change other is = absurd is

pruned_change : (asked : Option LogVersion) (set : List (List ℕ)) (old new : FolderView) (fault : ToolFault)
    → ChangesLogFor asked (λ _. keeping set) (Err fault) old new → IsPruned fault
pruned_change asked set old new fault call = go fault call.call.seen.refusals (λ place is. call.call.seen.disk.negative_time place (ap Err is))
  where
    go : (fault : ToolFault) → IsChangeFault fault → ((place : ℕ) → fault ≡ NegativeTime place → ⊥) → IsPruned fault
    go (NegativeTime place) is none = absurd (none place refl)
    go NotALog is none = tt
    go OtherVersion is none = tt
    go Memory is none = tt
    go Folder is none = tt
    go other is none = absurd is

module _ {asked : Option LogVersion} {states : Option (List ℕ → FileState)} {from to : Option (List ℕ)} {Stays : Type 0} {old new : FolderView} where
  pub pruned : {targets : List (List ℕ)} (r : Result Bool ToolFault) → Settles (FindsKept asked targets states from to) Stays asked r old new
      → IfErr r IsPruned
  pruned {targets} (Ok none) s = tt
  pruned {targets} (Err fault) s = by_read s.read s.reads.faults s.settles
    where
      found : (bytes : List ℕ) (f : ToolFault) → FindsKept asked targets states from to bytes (Err f) → IsPruned f
      found bytes Elsewhere finds = tt
      found bytes NotALog finds = tt
      found bytes OtherVersion finds = tt
      found bytes Memory finds = tt
      found bytes Write finds = tt
      found bytes other finds = elim finds.1 [ inl never ↦ absurd never | inr never ↦ absurd never ]

      by_due : (bytes : List ℕ) (due : Due) → FindsKept asked targets states from to bytes (Ok due) → MakesDue asked due (Err fault) s.between new
          → IsPruned fault
      by_due bytes Nothing finds makes = absurd (cc (sym (fault_made makes.made _ fault makes.answer), makes.is.0))
      by_due bytes (Keep set) finds makes = pruned_change asked set s.between new fault
          (subst (λ (m : Result (Unit {0}) ToolFault). ChangesLogFor asked (λ _. keeping set) m s.between new)
          (fault_made makes.made _ fault makes.answer) makes.is)
      by_due bytes (Touch times) finds makes = absurd finds.2
      by_due bytes (Mend version names) finds makes = absurd finds.2

      by_found : (bytes : List ℕ) (f : Result Due ToolFault) → FindsKept asked targets states from to bytes f
          → MakesFound asked f (Err fault) s.between new → IsPruned fault
      by_found bytes (Ok due) finds makes = by_due bytes due finds makes
      by_found bytes (Err f) finds makes = let same : fault ≡ f = cc makes.0 in subst IsPruned (sym same) (found bytes f finds)

      by_read : (read : Result (Vec ℕ) ToolFault) → IfErr read (IsNoWhole old.failures s.between.failures)
          → SettlesRead (FindsKept asked targets states from to) Stays asked read (Err fault) s.between new → IsPruned fault
      by_read (Ok log) faults settles = by_found log.items settles.found settles.finds settles.makes
      by_read (Err f) faults settles = let same : fault ≡ f = cc settles.1 in subst IsPruned (sym same) (pruned_unread _ _ f faults)

  pub retimed : {early : List ℕ} (r : Result Bool ToolFault) → Settles (FindsTimes asked states from to early) Stays asked r old new
      → IfErr r IsRetimed
  retimed {early} (Ok none) s = tt
  retimed {early} (Err fault) s = by_read s.read s.reads.faults s.settles
    where
      found : (bytes : List ℕ) (f : ToolFault) → FindsTimes asked states from to early bytes (Err f) → IsRetimed f
      found bytes (NegativeTime place) finds = tt
      found bytes NotALog finds = tt
      found bytes OtherVersion finds = tt
      found bytes Memory finds = tt
      found bytes Write finds = tt
      found bytes other finds = elim finds.1 [ inl never ↦ absurd never | inr never ↦ absurd never ]

      by_due : (bytes : List ℕ) (due : Due) → FindsTimes asked states from to early bytes (Ok due)
          → MakesDue asked due (Err fault) s.between new → IsRetimed fault
      by_due bytes Nothing finds makes = absurd (cc (sym (fault_made makes.made _ fault makes.answer), makes.is.0))
      by_due bytes (Keep set) finds makes = absurd finds.2
      by_due bytes (Touch times) finds makes = retimed_change fault
          (subst (λ (m : Result (Unit {0}) ToolFault). IfErr m IsChangeFault) (fault_made makes.made _ fault makes.answer) makes.is.call.seen.refusals)
      by_due bytes (Mend version names) finds makes = absurd finds.2

      by_found : (bytes : List ℕ) (f : Result Due ToolFault) → FindsTimes asked states from to early bytes f
          → MakesFound asked f (Err fault) s.between new → IsRetimed fault
      by_found bytes (Ok due) finds makes = by_due bytes due finds makes
      by_found bytes (Err f) finds makes = let same : fault ≡ f = cc makes.0 in subst IsRetimed (sym same) (found bytes f finds)

      by_read : (read : Result (Vec ℕ) ToolFault) → IfErr read (IsNoWhole old.failures s.between.failures)
          → SettlesRead (FindsTimes asked states from to early) Stays asked read (Err fault) s.between new → IsRetimed fault
      by_read (Ok log) faults settles = by_found log.items settles.found settles.finds settles.makes
      by_read (Err f) faults settles = let same : fault ≡ f = cc settles.1 in subst IsRetimed (sym same) (retimed_unread _ _ f faults)

-- ---- a negative time

pub first_within : (pairs : List (List ℕ × ℤ)) (i : ℕ) → IsFirstNegative pairs i → i < length pairs
first_within [] i first = absurd first
first_within (pair ∷ pairs) zero first = omega (arith)
first_within (pair ∷ pairs) (suc i) first = let more = first_within pairs i first.1 in omega (arith, more)
