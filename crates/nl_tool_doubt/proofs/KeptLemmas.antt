-- What is left of the log that was read.
use Rattle.std.proofs.Common.{◌≡◌, ◌∙◌, ◌++◌, ◌≤◌, ℕ, ℤ, Bool, true, false, cond, not, List, [], ◌∷◌, length, Option, None, Some, refl, sym, ap, subst, arith, inl, inr}
use Rattle.std.proofs.Common.{FitsSigned, Result, Ok, Err, bytes_eq, map, w64}
use Rattle.std.specs.Prelude.{IfOk, IfSome, IsSomeAnd, ◌||◌, ◌&&◌}
use Rattle.std.specs.Global.{Vec}
use Rattle.std.specs.List.{All, flat_map}
use Rattle.std.specs.Option.{option_map, option_or}
use Rattle.std.specs.Result.{result_and}
use Rattle.std.proofs.lemmas.Bool.{cases_Bool, cond-true, cond-false, or_parts}
use Rattle.std.proofs.lemmas.List.Elements.{All-cons, All-head, All-nil, All-tail, All-weaker}
use Rattle.std.proofs.lemmas.List.Folds.{list_any-append}
use Rattle.nl_fields.specs.declared.entry.Entry.{Entry}
use Rattle.nl_fields.specs.EntryLine.{IsEntry}
use Rattle.nl_fields.specs.Header.{version_five}
use Rattle.nl_fields.specs.Intent.{is_intent}
use Rattle.nl_fields.proofs.HeaderLemmas.{version_five-plain}
use Rattle.nl_lines.specs.Lines.{max_log}
use Rattle.nl_lines.specs.Prefix.{IsPrefix}
use Rattle.nl_lines.specs.Split.{lines_of}
use Rattle.nl_lines.proofs.PrefixLemmas.{plain_prefix}
use Rattle.nl_lines.proofs.SplitLemmas.{lines_of-plain}
use Rattle.nl_table.specs.Due.{is_history_due}
use Rattle.nl_table.specs.History.{History, Then, Update, holds, last_mtime, logged, table, with_mtime}
use Rattle.nl_table.specs.Log.{Log, LogReading, NotALog, OtherVersion, history_of, history_of_log, log_of}
use Rattle.nl_table.specs.LogText.{lines_of_entries, text_of}
use Rattle.nl_table.specs.LogUser.{forget_dead}
use Rattle.nl_table.specs.Table.{AreDistinct, IsTable, entry_named, entry_names, touched_table}
use Rattle.nl_table.proofs.HistoryLemmas.{same_bytes}
use Rattle.nl_table.proofs.LogLemmas.{log_fits, log_of-version}
use Rattle.nl_table.proofs.LogTextLemmas.{log_of-text, table-logged}
use Rattle.nl_table.proofs.NameLemmas.{bytes_eq_comm, distinct-table, named-touched, without_mtimes-touched}
use Rattle.nl_table.proofs.TouchLemmas.{IsTable-touched}
use Rattle.nl_table.proofs.ValidLemmas.{forget_valid, logged_valid}
use Rattle.nl_folder.specs.CrashImages.{IsDisk}
use Rattle.nl_folder.specs.DiskState.{Disk, File, durable_disk}
use Rattle.nl_folder.specs.FolderView.{FolderView}
use Rattle.nl_versions.specs.Shape.{length-as_version_from}
use Rattle.nl_versions.specs.Version.{as_version}
use Rattle.nl_versions.specs.VersionFolder.{disk_as_version, seen_as_version}
use Rattle.nl_versions.specs.VersionOf.{as_five, version_of}
use Rattle.nl_versions.specs.declared.version.LogVersion.{LogVersion}
use Rattle.nl_versions.proofs.LogAsLemmas.{four_is_seen, seen_four}
use Rattle.nl_versions.proofs.VersionLemmas.{as_version-append, as_version_from-past, as_version_from-twice, plain-as_version_from}
use Rattle.nl_versions.proofs.VersionLogLemmas.{Stands, log-only, log-torn}
use Rattle.nl_versions.proofs.VersionOfLemmas.{named, version_named}
use Rattle.nl_session.specs.Opened.{opened_bytes, opened_bytes_by, survivors}
use Rattle.nl_session.specs.Parts.{IsDurable}
use Rattle.nl_session.proofs.OpenLemmas.{is_opened, opened_table}
use Rattle.nl_session.proofs.RepresentsLemmas.{Represents_history, visible_fits}
use Rattle.nl_session.proofs.StepLemmas.{kept_is}
use Rattle.nl_tool_texts.specs.declared.fault.ToolFault.{ToolFault}
use Rattle.nl_tool_change.specs.Calls.{ChangesLogFor, keeping, touching}
use Rattle.nl_tool_change.specs.Updates.{IsUpdated, dead_but, none_dead}
use Rattle.nl_tool_doubt.specs.Doubts.{AreLooked, IsSaidOf}
use Rattle.nl_tool_doubt.specs.Judging.{is_present}
use Rattle.nl_tool_doubt.specs.Kept.{IsTextWith, KeepsButTimes, KeepsIntents, KeepsNamed, KeepsThere, TakesTimes, table_read, timed}
use Rattle.nl_tool_doubt.specs.Settling.{AreTimes, FindsKept, FindsTimes, IsMade, MakesFound, Settles, SettlesRead, is_nothing}
use Rattle.nl_tool_doubt.specs.There.{FitEntries, KeepsMost, learned, name_by, pair_by, table_in}
use Rattle.nl_tool_doubt.specs.declared.files.FileState.{FileState}
use Rattle.nl_tool_doubt.specs.declared.files.FileState.TheVariants.{Missing, Directory, Written, Unknown}
use Rattle.nl_tool_doubt.specs.declared.files.Looked.{Looked}
use Rattle.nl_tool_doubt.specs.declared.settling.Due.{Due}
use Rattle.nl_tool_doubt.specs.declared.settling.Due.TheVariants.{Nothing, Keep, Touch, Mend}

-- ---- bytes are a log of one version

module _ (v w : LogVersion) (bytes : List ℕ) where
  no_line : (later : List (List ℕ)) (first : List ℕ) (u : LogVersion) → lines_of bytes ≡ first ∷ later
      → IsPrefix bytes (as_version u version_five) → ⊥
  no_line later first u lines torn =
      let none : lines_of bytes ≡ [] = lines_of-plain bytes
      (plain_prefix bytes (as_version u version_five) torn (plain-as_version_from u 0 version_five version_five-plain)) in
      absurd (cc (lines, none))

  alike : (fs gs : List Entry) → Stands v bytes fs → Stands w bytes gs → log_of (as_version v bytes) ≡ log_of (as_version w bytes)
  alike fs gs (inl a) (inl b) = ap (λ (u : LogVersion). log_of (as_version u bytes))
      (sym (version_named v bytes a.0 a.1) ∙ version_named w bytes b.0 b.1)
  alike fs gs (inl a) (inr b) = absurd (no_line a.0 _ w a.1 b)
  alike fs gs (inr a) (inl b) = absurd (no_line b.0 _ v b.1 a)
  alike fs gs (inr a) (inr b) = log-torn v bytes a ∙ sym (log-torn w bytes b)

  same_reading : (n m : ℕ) (fs gs : List Entry) → log_of (as_version v bytes) ≡ Log n fs → log_of (as_version w bytes) ≡ Log m gs
      → Log n fs ≡ Log m gs
  same_reading n m fs gs first second = elim (log_of-version (as_version v bytes) n fs first) [
    | inr four ↦
        let four_read = seen_four v bytes fs (first ∙ ap (λ (k : ℕ). Log k fs) four) in
        ap (λ (k : ℕ). Log k fs) four ∙ sym (four_is_seen w bytes fs four_read) ∙ second
    | inl five ↦ elim (log_of-version (as_version w bytes) m gs second) [
      | inr four ↦
          let four_read = seen_four w bytes gs (second ∙ ap (λ (k : ℕ). Log k gs) four) in
          sym first ∙ four_is_seen v bytes gs four_read ∙ sym (ap (λ (k : ℕ). Log k gs) four)
      | inl also ↦ sym first ∙ alike fs gs (log-only v bytes fs (first ∙ ap (λ (k : ℕ). Log k fs) five))
          (log-only w bytes gs (second ∙ ap (λ (k : ℕ). Log k gs) also)) ∙ second
    ]
  ]

-- ---- the text that a change leaves

-- nobody is dead
all_live : (es : List Entry) → survivors none_dead es ≡ es
all_live [] = refl
all_live (e ∷ es) = ap (λ (l : List Entry). e ∷ l) (all_live es)

-- an open drops nothing
opened_same : (bs : List ℕ) (h g : History) → history_of bs ≡ Some h → history_of (opened_bytes none_dead bs) ≡ Some g → table g ≡ table h
opened_same bs h g reads opened =
    let again = Represents_history (opened_bytes none_dead bs) g opened in
    let o = is_opened none_dead bs h (Represents_history bs h reads)
    (log_fits (opened_bytes none_dead bs) again.number again.entries again.reads) in
    let same : Some (logged o.represents.number o.represents.entries) ≡ Some g = sym (ap history_of_log o.represents.reads) ∙ opened in
    let is : logged o.represents.number o.represents.entries ≡ g = cc same in
    sym (ap table is) ∙ o.represents.agrees.tables ∙ opened_table none_dead h ∙ kept (is_history_due h)
  where
    kept : (b : Bool) → cond b (survivors none_dead (table h)) (table h) ≡ table h
    kept true = all_live (table h)
    kept false = refl

module _ (made : List Entry → List Entry) where
  left_text : (found : List ℕ) (disk : Option Disk) → IsUpdated (λ es _. text_of (made es)) found disk
      → IsSomeAnd (history_of found) (λ h. IsDurable (text_of (made (table h))) disk)
  left_text found disk left = go (history_of found) refl (history_of (opened_bytes none_dead found)) refl left
    where
      go : (r : Option History) → history_of found ≡ r → (o : Option History) → history_of (opened_bytes none_dead found) ≡ o
          → IsSomeAnd o (λ h. IsDurable (text_of (made (table h))) disk) → IsSomeAnd r (λ h. IsDurable (text_of (made (table h))) disk)
      go r reads None opened left = absurd left
      go None none (Some g) opened left =
          let same : opened_bytes none_dead found ≡ found = ap (opened_bytes_by none_dead found) none in
          absurd (cc (sym none ∙ sym (ap history_of same) ∙ opened))
      go (Some h) reads (Some g) opened left =
          subst (λ (es : List Entry). IsDurable (text_of (made es)) disk) (opened_same found h g reads opened) left

-- a text that is seen as of a version names it
named_back : (v : LogVersion) (bytes : List ℕ) (fs : List Entry) → as_version v bytes ≡ text_of fs → as_five bytes ≡ text_of fs
named_back v bytes fs is =
    let more : List ℕ = lines_of_entries fs in
    let back : bytes ≡ as_version v version_five ++ 10 ∷ more =
    sym (as_version_from-twice v 0 bytes) ∙ ap (as_version v) is ∙ as_version-append v version_five (10 ∷ more)
    ∙ ap (λ (rest : List ℕ). as_version v version_five ++ rest) (as_version_from-past v 14 (10 ∷ more) (omega arith)) in
    let names : version_of bytes ≡ v = ap version_of back ∙ named v more in
    ap (λ (u : LogVersion). as_version u bytes) names ∙ is

-- after a change that is made, the text of the table that was read, as the change has it
changed : {asked : Option LogVersion} {update : History → Update} {times : List (List ℕ × ℤ)} (made : List Entry → List Entry)
    (old new : FolderView) (d : Disk) (n : ℕ) (gs : List Entry) → old.disk ≡ Some d
    → ChangesLogFor asked (λ _. record { update = update; bytes = λ es _. text_of (made es); times = times }) (Ok tt) old new
    → log_of (as_five d.visible) ≡ Log n gs → IsSomeAnd new.disk (λ e. as_five e.visible ≡ text_of (made (table (logged n gs))))
changed made old new d n gs there call reads = go (log_of seen) refl (left_text made seen (seen_as_version v new.disk)
    (call.call.seen.disk.contents (disk_as_version v d) (ap (seen_as_version v) there)))
  where
    v : LogVersion
    v = call.version

    seen : List ℕ
    seen = as_version call.version d.visible

    shown : (disk : Option Disk) (text : List ℕ) (scratch : File) → seen_as_version call.version disk ≡ Some (durable_disk text scratch)
        → IsSomeAnd disk (λ e. as_version call.version e.visible ≡ text)
    shown None text scratch is = absurd (cc is)
    shown (Some e) text scratch is =
        let same : disk_as_version call.version e ≡ durable_disk text scratch = cc is in ap (λ (x : Disk). x.visible) same

    back : (disk : Option Disk) (fs : List Entry) → IsSomeAnd disk (λ e. as_version call.version e.visible ≡ text_of fs)
        → IsSomeAnd disk (λ e. as_five e.visible ≡ text_of fs)
    back None fs is = absurd is
    back (Some e) fs is = named_back call.version e.visible fs is

    go : (r : LogReading) → log_of (as_version call.version d.visible) ≡ r
        → IsSomeAnd (history_of_log r) (λ h. IsDurable (text_of (made (table h))) (seen_as_version call.version new.disk))
        → IsSomeAnd new.disk (λ e. as_five e.visible ≡ text_of (made (table (logged n gs))))
    go NotALog is left = absurd left
    go OtherVersion is left = absurd left
    go (Log m fs) is left =
        let one : Log m fs ≡ Log n gs = same_reading call.version (version_of d.visible) d.visible m n fs gs is reads in
        let tables : Some (logged m fs) ≡ Some (logged n gs) = ap history_of_log one in
        let same : logged m fs ≡ logged n gs = cc tables in
        subst (λ (h : History). IsSomeAnd new.disk (λ e. as_five e.visible ≡ text_of (made (table h)))) same
        (back new.disk (made (table (logged m fs))) (shown new.disk (text_of (made (table (logged m fs)))) left.scratch left.is))

-- a load finds the table whose text the log is
module _ (Holds : List Entry → Type 0) (fs : List Entry) (valid : All IsEntry fs) (apart : IsTable fs) (holds : Holds fs) where
  text_left : (disk : Option Disk) → IsSomeAnd disk (λ e. as_five e.visible ≡ text_of fs) → IsSomeAnd disk (IsTextWith Holds)
  text_left None text = absurd text
  text_left (Some e) text = record { table = fs; text = text; reads = reads; holds = holds }
    where
      reads : IsDisk e → table_read e.visible ≡ Some fs
      reads honest =
          let fits : length (text_of fs) ≤ max_log =
          omega (arith, ap length text, length-as_version_from (version_of e.visible) 0 e.visible, visible_fits e honest) in
          ap (λ (bs : List ℕ). table_in (log_of bs)) text ∙ ap table_in (log_of-text fs valid fits) ∙ ap Some (table-logged 5 fs apart)

-- ---- who is kept

-- the entry of a name among those that aren't dead
left_named : (dead : List ℕ → Bool) (es : List Entry) (name : List ℕ)
    → entry_named (survivors dead es) name ≡ cond (dead name) None (entry_named es name)
left_named dead [] name = none (dead name)
  where
    none : (b : Bool) → entry_named [] name ≡ cond b None (entry_named [] name)
    none true = refl
    none false = refl
left_named dead (e ∷ es) name = elim (cases_Bool (bytes_eq name e.name)) [
  | inl same ↦ here (dead e.name) refl (ap dead (same_bytes name e.name same)) same (left_named dead es name)
  | inr apart ↦ past (dead e.name) apart (left_named dead es name)
]
  where
    whole : Option Entry
    whole = cond (bytes_eq name e.name) (Some e) (entry_named es name)

    here : (b : Bool) → dead e.name ≡ b → dead name ≡ dead e.name → bytes_eq name e.name ≡ true
        → entry_named (survivors dead es) name ≡ cond (dead name) None (entry_named es name)
        → entry_named (cond (not b) (e ∷ survivors dead es) (survivors dead es)) name ≡ cond (dead name) None whole
    here true is one same rest = rest ∙ cond-true (dead name) None (entry_named es name) (one ∙ is)
        ∙ sym (cond-true (dead name) None whole (one ∙ is))
    here false is one same rest = cond-true (bytes_eq name e.name) (Some e) (entry_named (survivors dead es) name) same
        ∙ sym (cond-false (dead name) None whole (one ∙ is) ∙ cond-true (bytes_eq name e.name) (Some e) (entry_named es name) same)

    past : (b : Bool) → bytes_eq name e.name ≡ false
        → entry_named (survivors dead es) name ≡ cond (dead name) None (entry_named es name)
        → entry_named (cond (not b) (e ∷ survivors dead es) (survivors dead es)) name ≡ cond (dead name) None whole
    past true apart rest = rest
        ∙ ap (cond (dead name) None) (sym (cond-false (bytes_eq name e.name) (Some e) (entry_named es name) apart))
    past false apart rest = cond-false (bytes_eq name e.name) (Some e) (entry_named (survivors dead es) name) apart ∙ rest
        ∙ ap (cond (dead name) None) (sym (cond-false (bytes_eq name e.name) (Some e) (entry_named es name) apart))

-- those that a look found to be there
holds_learned : (state_of : List ℕ → FileState) (looked : List Looked) → All (IsSaidOf (Some state_of)) looked → (name : List ℕ)
    → holds (flat_map (learned name_by) looked) name ≡ (holds (entry_names (map (λ (l : Looked). l.entry) looked)) name && is_present (state_of name))
holds_learned state_of [] said name = refl
holds_learned state_of (l ∷ ls) said name =
    list_any-append (λ (other : List ℕ). bytes_eq other name) (learned name_by l) (flat_map (learned name_by) ls)
    ∙ one l.file (All-head (IsSaidOf (Some state_of)) l ls said)
    (holds_learned state_of ls (All-tail (IsSaidOf (Some state_of)) l ls said) name)
  where
    there : Bool
    there = is_present (state_of name)

    later : Bool
    later = holds (entry_names (map (λ (l : Looked). l.entry) ls)) name

    same_state : bytes_eq l.entry.name name ≡ true → state_of l.entry.name ≡ state_of name
    same_state same = ap state_of (same_bytes l.entry.name name same)

    missing : (b t l : Bool) → (b ≡ true → t ≡ false) → (l && t) ≡ ((b || l) && t)
    missing false t l gone = refl
    missing true false true gone = refl
    missing true false false gone = refl
    missing true true l gone = absurd (cc (gone refl))

    present : (b t l : Bool) → (b ≡ true → t ≡ true) → ((b || false) || (l && t)) ≡ ((b || l) && t)
    present false t l is = refl
    present true true l is = refl
    present true false l is = absurd (cc (is refl))

    found : (file : FileState) → file ≡ state_of l.entry.name → is_present file ≡ true
        → holds (flat_map (learned name_by) ls) name ≡ (later && there)
        → ((bytes_eq l.entry.name name || false) || holds (flat_map (learned name_by) ls) name) ≡ ((bytes_eq l.entry.name name || later) && there)
    found file is seen rest = ap (λ (x : Bool). (bytes_eq l.entry.name name || false) || x) rest
        ∙ present (bytes_eq l.entry.name name) there later (λ same. ap is_present (sym (is ∙ same_state same)) ∙ seen)

    one : (file : FileState) → file ≡ state_of l.entry.name → holds (flat_map (learned name_by) ls) name ≡ (later && there)
        → (holds (name_by l.entry file) name || holds (flat_map (learned name_by) ls) name) ≡ ((bytes_eq l.entry.name name || later) && there)
    one Missing is rest = rest ∙ missing (bytes_eq l.entry.name name) there later (λ same. ap is_present (sym (is ∙ same_state same)))
    one Directory is rest = found Directory is refl rest
    one (Written t) is rest = found (Written t) is refl rest
    one Unknown is rest = found Unknown is refl rest

-- a name that no entry has
not_named : (es : List Entry) (name : List ℕ) → holds (entry_names es) name ≡ false → entry_named es name ≡ None
not_named [] name none = refl
not_named (e ∷ es) name none = go (bytes_eq e.name name) refl none (not_named es name)
  where
    go : (b : Bool) → bytes_eq e.name name ≡ b → (b || holds (entry_names es) name) ≡ false
        → (holds (entry_names es) name ≡ false → entry_named es name ≡ None) → entry_named (e ∷ es) name ≡ None
    go true is none rest = absurd (cc none)
    go false is none rest = cond-false (bytes_eq name e.name) (Some e) _ (bytes_eq_comm name e.name ∙ is) ∙ rest none

module _ {es : List Entry} {targets set : List (List ℕ)} {states : Option (List ℕ → FileState)} (most : KeepsMost es states targets set) where
  names_set : (name : List ℕ) → holds set name ≡ (holds targets name || holds (flat_map (learned name_by) most.is.adds.looked) name)
  names_set name = most.is.same name ∙ ap (λ (names : List (List ℕ)). holds names name) most.is.adds.items
      ∙ list_any-append (λ (other : List ℕ). bytes_eq other name) targets (flat_map (learned name_by) most.is.adds.looked)

  keeps_targets : KeepsNamed targets es (survivors (dead_but set) es)
  keeps_targets name is =
      let held : holds set name ≡ true = names_set name ∙ ap (λ (b : Bool). b || holds (flat_map (learned name_by) most.is.adds.looked) name) is in
      left_named (dead_but set) es name ∙ cond-false (dead_but set name) None _ (ap not held)

  keeps_there : (state_of : List ℕ → FileState) → states ≡ Some state_of → KeepsThere targets state_of es (survivors (dead_but set) es)
  keeps_there state_of known name =
      left_named (dead_but set) es name
      ∙ ap (λ (b : Bool). cond (not b) None (entry_named es name)) (names_set name ∙ ap (λ (b : Bool). holds targets name || b) learned_is)
      ∙ go (holds targets name) (holds (entry_names es) name) (is_present (state_of name)) (not_named es name)
    where
      looks : AreLooked es states most.is.adds.looked
      looks = most.is.adds.looks

      learned_is : holds (flat_map (learned name_by) most.is.adds.looked) name ≡ (holds (entry_names es) name && is_present (state_of name))
      learned_is = holds_learned state_of most.is.adds.looked
          (subst (λ (s : Option (List ℕ → FileState)). All (IsSaidOf s) most.is.adds.looked) known most.is.adds.looks.said) name
          ∙ ap (λ (fs : List Entry). holds (entry_names fs) name && is_present (state_of name)) most.is.adds.looks.are

      go : (target named there : Bool) → (named ≡ false → entry_named es name ≡ None)
          → cond (not (target || (named && there))) None (entry_named es name) ≡ cond (target || there) (entry_named es name) None
      go true named there none = refl
      go false true true none = refl
      go false true false none = refl
      go false false true none = sym (none refl)
      go false false false none = refl

-- ---- what was due, and was made

record Made (Finds : List ℕ → Result Due ToolFault → Type 0) (asked : Option LogVersion) (old new : FolderView) (d : Disk) : Type 0 where
  pub between : FolderView
  pub there : between.disk ≡ Some d
  pub due : Due
  pub some : is_nothing due ≡ false
  pub finds : Finds d.visible (Ok due)
  pub is : IsMade asked due (Ok tt) between new

made_ok : (made : Result (Unit {0}) ToolFault) (told b : Bool) → Ok told ≡ result_and made (Ok b) → (made ≡ Ok tt) × (b ≡ told)
made_ok (Ok done) told b answer = (refl, sym (cc answer))
made_ok (Err fault) told b answer = absurd (cc answer)

-- where damage was told of, nothing was
pub told_stays : {Finds : List ℕ → Result Due ToolFault → Type 0} {Stays : Type 0} {asked : Option LogVersion} {old new : FolderView}
    → Settles Finds Stays asked (Ok true) old new → new.disk ≡ old.disk
told_stays {Finds} {Stays} {asked} {old} {new} s = by_read s.read s.settles
  where
    by_due : (due : Due) → is_nothing due ≡ true → (made : Result (Unit {0}) ToolFault) → IsMade asked due made s.between new → new.disk ≡ old.disk
    by_due Nothing none made is = ap (λ (view : FolderView). view.disk) is.1 ∙ s.reads.same.disk
    by_due (Keep set) none made is = absurd (cc none)
    by_due (Touch times) none made is = absurd (cc none)
    by_due (Mend version names) none made is = absurd (cc none)

    by_found : (f : Result Due ToolFault) → MakesFound asked f (Ok true) s.between new → new.disk ≡ old.disk
    by_found (Ok due) makes = by_due due (made_ok makes.made true (is_nothing due) makes.answer).1 makes.made makes.is
    by_found (Err fault) makes = absurd (cc makes.0)

    by_read : (read : Result (Vec ℕ) ToolFault) → SettlesRead Finds Stays asked read (Ok true) s.between new → new.disk ≡ old.disk
    by_read (Ok log) settles = by_found settles.found settles.makes
    by_read (Err fault) settles = absurd (cc settles.1)

module _ {Finds : List ℕ → Result Due ToolFault → Type 0} {Stays : Type 0} {asked : Option LogVersion} {old new : FolderView}
    (s : Settles Finds Stays asked (Ok false) old new) (d : Disk) (is : old.disk ≡ Some d) where
  by_found : (bytes : List ℕ) (f : Result Due ToolFault) → d.visible ≡ bytes → Finds bytes f
      → MakesFound asked f (Ok false) s.between new → Made Finds asked old new d
  by_found bytes (Ok due) same finds makes =
      let made = made_ok makes.made false (is_nothing due) makes.answer in
      record {
        between = s.between;
        there = s.reads.same.disk ∙ is;
        due = due;
        some = made.1;
        finds = subst (λ (bs : List ℕ). Finds bs (Ok due)) (sym same) finds;
        is = subst (λ (m : Result (Unit {0}) ToolFault). IsMade asked due m s.between new) made.0 makes.is;
      }
  by_found bytes (Err f) same finds makes = absurd (cc makes.0)

  by_read : (read : Result (Vec ℕ) ToolFault) → read ≡ s.read → SettlesRead Finds Stays asked read (Ok false) s.between new
      → Made Finds asked old new d
  by_read (Ok log) which settles = by_found log.items settles.found
      (subst (λ (r : Result (Vec ℕ) ToolFault). IfOk r (λ bytes. (d : Disk) → old.disk ≡ Some d → d.visible ≡ bytes.items)) (sym which)
      s.reads.value d is)
      settles.finds settles.makes
  by_read (Err f) which settles = absurd (cc settles.1)

  made_by : Made Finds asked old new d
  made_by = by_read s.read refl s.settles

-- ---- `prune`

-- what it found, and what it made of that
record Pruned (asked : Option LogVersion) (targets : List (List ℕ)) (states : Option (List ℕ → FileState)) (old new : FolderView) (d : Disk)
    : Type 0 where
  pub between : FolderView
  pub there : between.disk ≡ Some d
  pub es : List Entry
  pub reads : table_read d.visible ≡ Some es
  pub set : List (List ℕ)
  pub most : KeepsMost es states targets set
  pub call : ChangesLogFor asked (λ _. keeping set) (Ok tt) between new

module _ {asked : Option LogVersion} {targets : List (List ℕ)} {states : Option (List ℕ → FileState)} {from to : Option (List ℕ)}
    {Stays : Type 0} {old new : FolderView} (s : Settles (FindsKept asked targets states from to) Stays asked (Ok false) old new)
    (d : Disk) (is : old.disk ≡ Some d) where
  pruned_by : Pruned asked targets states old new d
  pruned_by = go m.due m.some m.finds m.is
    where
      m : Made (FindsKept asked targets states from to) asked old new d
      m = made_by s d is

      go : (due : Due) → is_nothing due ≡ false → FindsKept asked targets states from to d.visible (Ok due)
          → IsMade asked due (Ok tt) m.between new → Pruned asked targets states old new d
      go Nothing some finds made = absurd (cc some)
      go (Keep set) some finds made = record {
        between = m.between;
        there = m.there;
        es = finds.0;
        reads = finds.1.reads;
        set = set;
        most = finds.2;
        call = made;
      }
      go (Touch times) some finds made = absurd finds.2
      go (Mend version names) some finds made = absurd finds.2

  -- and what is left holds by what was kept
  pruned_leaves : (Holds : List Entry → List Entry → Type 0)
      → ((es : List Entry) (set : List (List ℕ)) → KeepsMost es states targets set → Holds es (survivors (dead_but set) es))
      → IsSomeAnd (table_read d.visible) (λ es. IsSomeAnd new.disk (IsTextWith (Holds es)))
  pruned_leaves Holds keeps = go (log_of (as_five d.visible)) refl pruned_by.reads
    where
      left : (n : ℕ) (gs : List Entry) (set : List (List ℕ)) → log_of (as_five d.visible) ≡ Log n gs
          → All IsEntry (survivors (dead_but set) (table (logged n gs))) × IsTable (survivors (dead_but set) (table (logged n gs)))
      left n gs set reads =
          let h : History = logged n gs in
          let made : survivors (dead_but set) (table h) ≡ table (Then h (forget_dead (dead_but set) h)) = kept_is (dead_but set) h in (
            subst (All IsEntry) (sym made) (forget_valid (dead_but set) h (logged_valid (as_five d.visible) n gs reads)),
            subst IsTable (sym made) (distinct-table (Then h (forget_dead (dead_but set) h))),
          )

      go : (r : LogReading) → log_of (as_five d.visible) ≡ r → table_in r ≡ Some pruned_by.es
          → IsSomeAnd (table_in r) (λ es. IsSomeAnd new.disk (IsTextWith (Holds es)))
      go NotALog reads none = absurd (cc none)
      go OtherVersion reads none = absurd (cc none)
      go (Log n gs) reads is =
          let same : table (logged n gs) ≡ pruned_by.es = cc is in
          let fits = left n gs pruned_by.set reads in
          text_left (Holds (table (logged n gs))) (survivors (dead_but pruned_by.set) (table (logged n gs))) fits.0 fits.1
          (keeps (table (logged n gs)) pruned_by.set
          (subst (λ (es : List Entry). KeepsMost es states targets pruned_by.set) (sym same) pruned_by.most)) new.disk
          (changed (survivors (dead_but pruned_by.set)) pruned_by.between new d n gs pruned_by.there pruned_by.call reads)

  pub targets_stay : IsSomeAnd (table_read d.visible) (λ es. IsSomeAnd new.disk (IsTextWith (KeepsNamed targets es)))
  targets_stay = pruned_leaves (KeepsNamed targets) (λ es set most. keeps_targets most)

  pub there_stay : (state_of : List ℕ → FileState) → states ≡ Some state_of
      → IsSomeAnd (table_read d.visible) (λ es. IsSomeAnd new.disk (IsTextWith (KeepsThere targets state_of es)))
  there_stay state_of known = pruned_leaves (KeepsThere targets state_of) (λ es set most. keeps_there most state_of known)

-- ---- `retime`

-- no other entry has this name
abbrev IsOnly : List ℕ → Entry → Entry → Type 0
IsOnly name e f = bytes_eq f.name name ≡ true → f ≡ e

only_one : (es : List Entry) (name : List ℕ) (e : Entry) → AreDistinct (entry_names es) → entry_named es name ≡ Some e → All (IsOnly name e) es
only_one [] name e apart first = All-nil (IsOnly name e)
only_one (f ∷ fs) name e apart first =
    go (bytes_eq name f.name) refl first (λ (more : entry_named fs name ≡ Some e). only_one fs name e apart.1 more)
  where
    none_named : (gs : List Entry) → holds (entry_names gs) name ≡ false → All (IsOnly name e) gs
    none_named [] none = All-nil (IsOnly name e)
    none_named (g ∷ gs) none =
        let parts = or_parts (bytes_eq g.name name) (holds (entry_names gs) name) none in
        All-cons (IsOnly name e) g gs (λ (same : bytes_eq g.name name ≡ true). absurd (cc (sym same ∙ parts.0))) (none_named gs parts.1)

    go : (b : Bool) → bytes_eq name f.name ≡ b → cond b (Some f) (entry_named fs name) ≡ Some e
        → (entry_named fs name ≡ Some e → All (IsOnly name e) fs) → All (IsOnly name e) (f ∷ fs)
    go true same is rest =
        let one : f ≡ e = cc is in
        All-cons (IsOnly name e) f fs (λ (same : bytes_eq f.name name ≡ true). one)
        (none_named fs (subst (λ (n : List ℕ). holds (entry_names fs) n ≡ false) (sym (same_bytes name f.name same)) apart.0))
    go false other is rest = All-cons (IsOnly name e) f fs
        (λ (same : bytes_eq f.name name ≡ true). absurd (cc (sym same ∙ bytes_eq_comm f.name name ∙ other))) (rest is)

-- an entry of this name is an intent
abbrev IsIntentOf : List ℕ → Entry → Type 0
IsIntentOf name f = bytes_eq f.name name ≡ true → is_intent f ≡ true

-- intents get no time
no_pair : (looked : List Looked) (name : List ℕ) → All (IsIntentOf name) (map (λ (l : Looked). l.entry) looked)
    → last_mtime (flat_map (learned pair_by) looked) name ≡ None
no_pair [] name all = refl
no_pair (l ∷ ls) name all =
    one l.file (is_intent l.entry) refl (bytes_eq l.entry.name name) refl (All-head (IsIntentOf name) l.entry (map (λ (l : Looked). l.entry) ls) all)
    (no_pair ls name (All-tail (IsIntentOf name) l.entry (map (λ (l : Looked). l.entry) ls) all))
  where
    none : (time : ℤ) (b : Bool) → b ≡ false → last_mtime (flat_map (learned pair_by) ls) name ≡ None
        → option_or (last_mtime (flat_map (learned pair_by) ls) name) (cond b (Some time) None) ≡ None
    none time true is rest = absurd (cc is)
    none time false is rest = ap (λ (o : Option ℤ). option_or o None) rest

    one : (file : FileState) (i : Bool) → is_intent l.entry ≡ i → (b : Bool) → bytes_eq l.entry.name name ≡ b
        → (bytes_eq l.entry.name name ≡ true → is_intent l.entry ≡ true) → last_mtime (flat_map (learned pair_by) ls) name ≡ None
        → last_mtime (pair_by l.entry file ++ flat_map (learned pair_by) ls) name ≡ None
    one Missing i is b eq all rest = rest
    one Directory i is b eq all rest = rest
    one Unknown i is b eq all rest = rest
    one (Written t) true is b eq all rest = rw is rest
    one (Written t) false is true eq all rest = absurd (cc (sym is ∙ all eq))
    one (Written t) false is false eq all rest = rw is (none t.written (bytes_eq l.entry.name name) eq rest)

retimed_intents : (states : Option (List ℕ → FileState)) (times : List (List ℕ × ℤ)) (es : List Entry) → AreDistinct (entry_names es)
    → AreTimes states es times → KeepsIntents es (touched_table times es)
retimed_intents states times es apart are name e first intent =
    let all : All (IsIntentOf name) es = All-weaker (IsOnly name e) (IsIntentOf name) (λ f one same. ap is_intent (one same) ∙ intent) es
    (only_one es name e apart first) in
    let none : last_mtime times name ≡ None = ap (λ (pairs : List (List ℕ × ℤ)). last_mtime pairs name) are.items
    ∙ no_pair are.looked name (subst (All (IsIntentOf name)) (sym are.looks.are) all) in
    named-touched times es name ∙ ap (λ (o : Option ℤ). option_map (with_mtime o) (entry_named es name)) none
    ∙ ap (option_map (with_mtime None)) first

-- the last time of a name is one of the times
last_fits : (times : List (List ℕ × ℤ)) → FitEntries times → (name : List ℕ) → IfSome (last_mtime times name) (λ time. FitsSigned w64 time)
last_fits [] fit name = tt
last_fits (pair ∷ times) fit name =
    go (last_mtime times name) (bytes_eq pair.0 name) (last_fits times (All-tail (λ (p : List ℕ × ℤ). FitsSigned w64 p.1) pair times fit) name)
  where
    go : (later : Option ℤ) (b : Bool) → IfSome later (λ time. FitsSigned w64 time)
        → IfSome (option_or later (cond b (Some pair.1) None)) (λ time. FitsSigned w64 time)
    go (Some time) b rest = rest
    go None true rest = All-head (λ (p : List ℕ × ℤ). FitsSigned w64 p.1) pair times fit
    go None false rest = tt

touched_valid : (times : List (List ℕ × ℤ)) → FitEntries times → (es : List Entry) → All IsEntry es → All IsEntry (touched_table times es)
touched_valid times fit [] valid = All-nil IsEntry
touched_valid times fit (e ∷ es) valid =
    All-cons IsEntry (with_mtime (last_mtime times e.name) e) (touched_table times es)
    (one (last_mtime times e.name) (last_fits times fit e.name) (All-head IsEntry e es valid))
    (touched_valid times fit es (All-tail IsEntry e es valid))
  where
    one : (time : Option ℤ) → IfSome time (λ time. FitsSigned w64 time) → IsEntry e → IsEntry (with_mtime time e)
    one None fits is = is
    one (Some time) fits is = record { start_ms = is.start_ms; end_ms = is.end_ms; mtime = fits; name = is.name; hash = is.hash }

-- the time that an output gets, if it does
abbrev time_in : FileState → Entry → Option ℤ
time_in (Written t) e = cond (is_intent e) None (Some t.written)
time_in file e = None

timed_is : (file : FileState) (e : Entry) → with_mtime (time_in file e) e ≡ timed file e
timed_is Missing e = refl
timed_is Directory e = refl
timed_is Unknown e = refl
timed_is (Written t) e = go (is_intent e)
  where
    go : (b : Bool) → with_mtime (cond b None (Some t.written)) e ≡ cond b e (record e { mtime = t.written })
    go true = refl
    go false = refl

or_none : (o : Option ℤ) → option_or o None ≡ o
or_none None = refl
or_none (Some time) = refl

or_same : (b : Bool) (o : Option ℤ) → option_or (cond b o None) o ≡ o
or_same true None = refl
or_same true (Some time) = refl
or_same false o = refl

one_pair : (e : Entry) (file : FileState) (pairs : List (List ℕ × ℤ)) (name : List ℕ) → last_mtime (pair_by e file ++ pairs) name
    ≡ option_or (last_mtime pairs name) (cond (bytes_eq e.name name) (time_in file e) None)
one_pair e file pairs name = by_file file
  where
    none : (b : Bool) → last_mtime pairs name ≡ option_or (last_mtime pairs name) (cond b None None)
    none true = sym (or_none (last_mtime pairs name))
    none false = sym (or_none (last_mtime pairs name))

    written : (time : ℤ) (b : Bool) → last_mtime (cond b [] ((e.name, time) ∷ []) ++ pairs) name
        ≡ option_or (last_mtime pairs name) (cond (bytes_eq e.name name) (cond b None (Some time)) None)
    written time true = none (bytes_eq e.name name)
    written time false = refl

    by_file : (file : FileState) → last_mtime (pair_by e file ++ pairs) name
        ≡ option_or (last_mtime pairs name) (cond (bytes_eq e.name name) (time_in file e) None)
    by_file Missing = none (bytes_eq e.name name)
    by_file Directory = none (bytes_eq e.name name)
    by_file Unknown = none (bytes_eq e.name name)
    by_file (Written t) = written t.written (is_intent e)

pairs_last : (state_of : List ℕ → FileState) (name : List ℕ) (e : Entry) (looked : List Looked)
    → All (IsOnly name e) (map (λ (l : Looked). l.entry) looked) → All (IsSaidOf (Some state_of)) looked
    → last_mtime (flat_map (learned pair_by) looked) name
    ≡ cond (holds (entry_names (map (λ (l : Looked). l.entry) looked)) name) (time_in (state_of name) e) None
pairs_last state_of name e [] all said = refl
pairs_last state_of name e (l ∷ ls) all said =
    one_pair l.entry l.file (flat_map (learned pair_by) ls) name
    ∙ go (bytes_eq l.entry.name name) refl
    (pairs_last state_of name e ls (All-tail (IsOnly name e) l.entry (map (λ (l : Looked). l.entry) ls) all)
    (All-tail (IsSaidOf (Some state_of)) l ls said))
  where
    later : Bool
    later = holds (entry_names (map (λ (l : Looked). l.entry) ls)) name

    here : bytes_eq l.entry.name name ≡ true → time_in l.file l.entry ≡ time_in (state_of name) e
    here same =
        let file : l.file ≡ state_of name =
        All-head (IsSaidOf (Some state_of)) l ls said ∙ ap state_of (same_bytes l.entry.name name same) in
        ap (λ (f : FileState). time_in f l.entry) file
        ∙ ap (time_in (state_of name)) (All-head (IsOnly name e) l.entry (map (λ (l : Looked). l.entry) ls) all same)

    go : (b : Bool) → bytes_eq l.entry.name name ≡ b
        → last_mtime (flat_map (learned pair_by) ls) name ≡ cond later (time_in (state_of name) e) None
        → option_or (last_mtime (flat_map (learned pair_by) ls) name) (cond b (time_in l.file l.entry) None)
        ≡ cond (b || later) (time_in (state_of name) e) None
    go true same rest = ap (λ (o : Option ℤ). option_or o (time_in l.file l.entry)) rest
        ∙ ap (option_or (cond later (time_in (state_of name) e) None)) (here same) ∙ or_same later (time_in (state_of name) e)
    go false other rest = or_none (last_mtime (flat_map (learned pair_by) ls) name) ∙ rest

retimed_times : (states : Option (List ℕ → FileState)) (state_of : List ℕ → FileState) → states ≡ Some state_of → (times : List (List ℕ × ℤ))
    (es : List Entry) → AreDistinct (entry_names es) → AreTimes states es times → TakesTimes state_of es (touched_table times es)
retimed_times states state_of known times es apart are name = named-touched times es name ∙ go (entry_named es name) refl
  where
    times_are : (e : Entry) → entry_named es name ≡ Some e → last_mtime times name
        ≡ cond (holds (entry_names es) name) (time_in (state_of name) e) None
    times_are e first =
        ap (λ (pairs : List (List ℕ × ℤ)). last_mtime pairs name) are.items
        ∙ pairs_last state_of name e are.looked (subst (All (IsOnly name e)) (sym are.looks.are) (only_one es name e apart first))
        (subst (λ (s : Option (List ℕ → FileState)). All (IsSaidOf s) are.looked) known are.looks.said)
        ∙ ap (λ (fs : List Entry). cond (holds (entry_names fs) name) (time_in (state_of name) e) None) are.looks.are

    there : (e : Entry) (b : Bool) → holds (entry_names es) name ≡ b → entry_named es name ≡ Some e
        → cond b (time_in (state_of name) e) None ≡ time_in (state_of name) e
    there e true is first = refl
    there e false is first = absurd (cc (sym first ∙ not_named es name is))

    go : (o : Option Entry) → entry_named es name ≡ o
        → option_map (with_mtime (last_mtime times name)) o ≡ option_map (timed (state_of name)) o
    go None is = refl
    go (Some e) is = ap (λ (o : Option ℤ). Some (with_mtime o e)) (times_are e is ∙ there e (holds (entry_names es) name) refl is)
        ∙ ap Some (timed_is (state_of name) e)

module _ {asked : Option LogVersion} {states : Option (List ℕ → FileState)} {from to : Option (List ℕ)} {early : List ℕ}
    {Stays : Type 0} {old new : FolderView} (s : Settles (FindsTimes asked states from to early) Stays asked (Ok false) old new)
    (d : Disk) (is : old.disk ≡ Some d) where
  retimed_leaves : (Holds : List Entry → List Entry → Type 0)
      → ((es : List Entry) (times : List (List ℕ × ℤ)) → IsTable es → AreTimes states es times → Holds es (touched_table times es))
      → IsSomeAnd (table_read d.visible) (λ es. IsSomeAnd new.disk (IsTextWith (Holds es)))
  retimed_leaves Holds takes = by_due m.due m.some m.finds m.is
    where
      m : Made (FindsTimes asked states from to early) asked old new d
      m = made_by s d is

      go : (times : List (List ℕ × ℤ)) (es : List Entry) → ChangesLogFor asked (λ _. touching times) (Ok tt) m.between new
          → AreTimes states es times → FitEntries times → (r : LogReading) → log_of (as_five d.visible) ≡ r → table_in r ≡ Some es
          → IsSomeAnd (table_in r) (λ es. IsSomeAnd new.disk (IsTextWith (Holds es)))
      go times es call are fit NotALog reads none = absurd (cc none)
      go times es call are fit OtherVersion reads none = absurd (cc none)
      go times es call are fit (Log n gs) reads is =
          let same : table (logged n gs) ≡ es = cc is in
          let apart : IsTable (table (logged n gs)) = distinct-table (logged n gs) in
          text_left (Holds (table (logged n gs))) (touched_table times (table (logged n gs)))
          (touched_valid times fit (table (logged n gs)) (logged_valid (as_five d.visible) n gs reads))
          (IsTable-touched times (table (logged n gs)) apart)
          (takes (table (logged n gs)) times apart (subst (λ (es : List Entry). AreTimes states es times) (sym same) are)) new.disk
          (changed (touched_table times) m.between new d n gs m.there call reads)

      by_due : (due : Due) → is_nothing due ≡ false → FindsTimes asked states from to early d.visible (Ok due)
          → IsMade asked due (Ok tt) m.between new
          → IsSomeAnd (table_read d.visible) (λ es. IsSomeAnd new.disk (IsTextWith (Holds es)))
      by_due Nothing some finds made = absurd (cc some)
      by_due (Keep set) some finds made = absurd finds.2
      by_due (Touch times) some finds made = go times.items finds.0 made finds.2.0 finds.2.2 (log_of (as_five d.visible)) refl finds.1.reads
      by_due (Mend version names) some finds made = absurd finds.2

  pub entries_stay : IsSomeAnd (table_read d.visible) (λ es. IsSomeAnd new.disk (IsTextWith (KeepsButTimes es)))
  entries_stay = retimed_leaves KeepsButTimes (λ es times apart are. without_mtimes-touched times es)

  pub intents_stay : IsSomeAnd (table_read d.visible) (λ es. IsSomeAnd new.disk (IsTextWith (KeepsIntents es)))
  intents_stay = retimed_leaves KeepsIntents (λ es times. retimed_intents states times es)

  pub times_taken : (state_of : List ℕ → FileState) → states ≡ Some state_of
      → IsSomeAnd (table_read d.visible) (λ es. IsSomeAnd new.disk (IsTextWith (TakesTimes state_of es)))
  times_taken state_of known = retimed_leaves (TakesTimes state_of) (λ es times. retimed_times states state_of known times es)
