-- A mend of no outputs, which is a change that keeps all.
use Rattle.std.proofs.Common.{◌≡◌, ◌⊎◌, ◌∙◌, ◌≤◌, ℕ, List, [], length, refl, sym, ap, subst, inl, inr, Option, Some, None, true, false, cond, Result, Ok, Err}
use Rattle.std.specs.Prelude.{All, IfErr, IfSome, IsErrOf, IsSomeAnd, OnErr, option_map}
use Rattle.std.specs.Result.{IsErrAnd}
use Rattle.nl_fields.specs.declared.entry.Entry.{Entry}
use Rattle.nl_fields.specs.EntryLine.{IsEntry}
use Rattle.nl_lines.specs.Lines.{max_log}
use Rattle.nl_table.specs.Due.{is_history_due}
use Rattle.nl_table.specs.History.{History, logged, table}
use Rattle.nl_table.specs.Log.{Log, LogReading, NotALog, OtherVersion, history_of, history_of_log, log_of}
use Rattle.nl_table.specs.LogText.{text_of}
use Rattle.nl_table.specs.LogUser.{forget_dead}
use Rattle.nl_table.proofs.LogTextLemmas.{log_of-text, table-logged}
use Rattle.nl_table.proofs.NameLemmas.{distinct-table}
use Rattle.nl_table.proofs.ValidLemmas.{logged_valid}
use Rattle.nl_folder.specs.CrashImages.{IsDisk, IsImage}
use Rattle.nl_folder.specs.DiskState.{Disk, durable_disk, empty_file}
use Rattle.nl_folder.specs.FolderView.{FolderView}
use Rattle.nl_folder.proofs.ImageLemmas.{IsImage_fits, durable_disk_unique}
use Rattle.nl_versions.specs.SeenDisk.{seen_is_disk}
use Rattle.nl_versions.specs.VersionFolder.{seen_as_version}
use Rattle.nl_versions.specs.declared.version.LogVersion.{LogVersion}
use Rattle.nl_versions.proofs.VersionFolderLemmas.{seen-twice}
use Rattle.nl_session.specs.Effects.{Rewrites}
use Rattle.nl_session.specs.Intents.{with_intents}
use Rattle.nl_session.specs.Mending.{IsOldOrMended, mended_text}
use Rattle.nl_session.specs.Opened.{IsTableOf, mended_bytes, opened_bytes, opened_bytes_by, survivors}
use Rattle.nl_session.specs.Parts.{IsDurable, rewritten_disk}
use Rattle.nl_session.specs.Represents.{Represents}
use Rattle.nl_session.specs.Runs.{BeginsAt}
use Rattle.nl_session.proofs.MendLemmas.{over-nil}
use Rattle.nl_session.proofs.RepresentsLemmas.{Represents_history, Represents_text, mended_reads, visible_fits}
use Rattle.nl_session.proofs.StepLemmas.{is_disk_of}
use Rattle.nl_tool_texts.specs.declared.fault.ToolFault.{ToolFault}
use Rattle.nl_tool_texts.specs.declared.fault.ToolFault.TheVariants.{Folder, NegativeTime}
use Rattle.nl_tool_change.specs.Calls.{ChangesDisk, ChangesLog, ChangesLogAs, IsFree, keeping_all}
use Rattle.nl_tool_change.specs.Faults.{IsChangeFault, IsNoLogFault, IsRecordFault}
use Rattle.nl_tool_change.specs.Mending.{MendsDisk, MendsLog, MendsLogAs}
use Rattle.nl_tool_change.specs.Updates.{IsUpdated, MayRepresent, OfAllFound, history_updated, none_dead}
use Rattle.nl_tool_change.proofs.ChangeLemmas.{ok_with}
use Rattle.nl_tool_change.proofs.RepairLemmas.{all_live, updated_table}

-- the text of the table that was found represents the history of a change that keeps all
kept_text : (bs : List ℕ) (h : History) → history_of bs ≡ Some h → length (text_of (table h)) ≤ max_log
    → Represents (text_of (table h)) (history_updated (forget_dead none_dead) h)
kept_text bs h reads fits = go (log_of bs) refl reads
  where
    go : (r : LogReading) → log_of bs ≡ r → history_of_log r ≡ Some h → Represents (text_of (table h)) (history_updated (forget_dead none_dead) h)
    go (Log v es) is some =
        let same : logged v es ≡ h = cc some in
        let new : History = history_updated (forget_dead none_dead) h in
        let kept : table new ≡ table h = updated_table h in
        let valid : All IsEntry (table h) = subst (λ (g : History). All IsEntry (table g)) same (logged_valid bs v es is) in
        subst (λ (l : List Entry). Represents (text_of l) new) kept
        (Represents_text new refl refl (subst (All IsEntry) (sym kept) valid) (distinct-table new)
        (subst (λ (l : List Entry). length (text_of l) ≤ max_log) (sym kept) fits))
    go OtherVersion is some = absurd (cc some)
    go NotALog is some = absurd (cc some)

-- what an open leaves has the table that was found
opened_has : (bs : List ℕ) (h : History) → history_of bs ≡ Some h → length (text_of (table h)) ≤ max_log
    → IsTableOf (table h) (opened_bytes none_dead bs)
opened_has bs h reads fits = go (log_of bs) refl reads
  where
    go : (r : LogReading) → log_of bs ≡ r → history_of_log r ≡ Some h → IsTableOf (table h) (opened_bytes none_dead bs)
    go (Log v es) is some =
        let same : logged v es ≡ h = cc some in
        let own : List Entry = table h in
        let valid : All IsEntry own = subst (λ (g : History). All IsEntry (table g)) same (logged_valid bs v es is) in
        let left : opened_bytes none_dead bs ≡ cond (is_history_due h) (text_of (survivors none_dead own)) (mended_bytes bs)
        = ap (opened_bytes_by none_dead bs) reads in
        let text : IsTableOf own (text_of own) =
        subst (λ (reading : LogReading). IsSomeAnd (history_of_log reading) (λ (g : History). own ≡ table g)) (sym (log_of-text own valid fits))
        (sym (table-logged 5 own (distinct-table h))) in
        let mended : IsTableOf own (mended_bytes bs) =
        subst (λ (reading : LogReading). IsSomeAnd (history_of_log reading) (λ (g : History). own ≡ table g))
        (sym ((mended_reads bs v es is).reads ∙ is)) (ap table (sym same)) in
        subst (IsTableOf own) (sym left) (elim (is_history_due h) as
        (λ b. IsTableOf own (cond b (text_of (survivors none_dead own)) (mended_bytes bs))) [
          | true ↦ subst (λ (l : List Entry). IsTableOf own (text_of l)) (sym (all_live own)) text
          | false ↦ mended
        ])
    go OtherVersion is some = absurd (cc some)
    go NotALog is some = absurd (cc some)

-- the log was rewritten
record Rewritten (d : Disk) (new : Option Disk) : Type 0 where
  history : History
  reads : history_of d.visible ≡ Some history
  left : IsDurable (text_of (table history)) new
  fits : length (text_of (table history)) ≤ max_log

rewritten : (d : Disk) (new : Option Disk) → IfSome new IsDisk
    → IsSomeAnd (history_of d.visible) (λ h. new ≡ Some (rewritten_disk (text_of (with_intents [] (table h))) d)) → Rewritten d new
rewritten d new honest done = go (history_of d.visible) refl done
  where
    go : (o : Option History) → history_of d.visible ≡ o
        → IsSomeAnd o (λ h. new ≡ Some (rewritten_disk (text_of (with_intents [] (table h))) d)) → Rewritten d new
    go None is done = absurd done
    go (Some h) is done =
        let left : new ≡ Some (durable_disk (text_of (table h)) empty_file)
        = done ∙ ap (λ (l : List Entry). Some (durable_disk (text_of l) empty_file)) (over-nil (table h)) in
        record {
          history = h;
          reads = is;
          left = record { scratch = empty_file; is = left };
          fits = visible_fits (durable_disk (text_of (table h)) empty_file) (is_disk_of new _ left honest);
        }

-- the log that is left is that of the change
kept_done : (d : Disk) (new : Option Disk) → Rewritten d new → IsUpdated (λ es bs. text_of (survivors none_dead es)) d.visible new
kept_done d new r = go (history_of (opened_bytes none_dead d.visible)) (opened_has d.visible r.history r.reads r.fits)
  where
    go : (o : Option History) → IsSomeAnd o (λ (g : History). table r.history ≡ table g)
        → IsSomeAnd o (λ (g : History). IsDurable (text_of (survivors none_dead (table g))) new)
    go None has = absurd has
    go (Some g) has = subst (λ (l : List Entry). IsDurable (text_of l) new) (has ∙ sym (all_live (table g))) r.left

leaves_done : (start : History) (old new : Option Disk) → IfSome new IsDisk → Rewrites (with_intents []) old new → BeginsAt start old
    → OfAllFound (λ bs. Represents bs (history_updated (forget_dead none_dead) start)) new
leaves_done start None new honest done at = absurd at.only
leaves_done start (Some d) new honest done at =
    let r = rewritten d new honest (done d refl) in
    let here : d.visible ≡ at.bytes = at.only d.visible (inl refl) in
    let is : r.history ≡ start = cc (sym r.reads ∙ ap history_of here ∙ at.reads) in
    subst (OfAllFound (λ bs. Represents bs (history_updated (forget_dead none_dead) start))) (sym r.left.is) (λ bs image.
    subst (λ (text : List ℕ). Represents text (history_updated (forget_dead none_dead) start))
    (sym (durable_disk_unique (text_of (table r.history)) bs r.left.scratch image))
    (subst (λ (h : History). Represents (text_of (table r.history)) (history_updated (forget_dead none_dead) h)) is
    (kept_text d.visible r.history r.reads r.fits)))

leaves_fault : (start : History) (old new : Option Disk) → IfSome new IsDisk → IsOldOrMended [] old new → BeginsAt start old
    → OfAllFound (MayRepresent (forget_dead none_dead) start) new
leaves_fault start None new honest either at = absurd at.only
leaves_fault start (Some d) None honest either at = absurd (either d refl)
leaves_fault start (Some d) (Some e) honest either at = λ bs image. go bs image (either d refl bs image)
  where
    here : d.visible ≡ at.bytes
    here = at.only d.visible (inl refl)

    go : (bs : List ℕ) → IsImage e bs → IsImage d bs ⊎ (mended_text [] d.visible ≡ Some bs) → MayRepresent (forget_dead none_dead) start bs
    go bs image (inl before) =
        inl (subst (λ (text : List ℕ). Represents text start) (sym (at.only bs (inr before))) (Represents_history at.bytes start at.reads))
    go bs image (inr after) =
        let text : text_of (with_intents [] (table start)) ≡ bs
        = cc (sym (ap (option_map (λ (h : History). text_of (with_intents [] (table h)))) (ap history_of here ∙ at.reads)) ∙ after) in
        let is : text_of (table start) ≡ bs = ap text_of (sym (over-nil (table start))) ∙ text in
        let fits : length (text_of (table start)) ≤ max_log = subst (λ (l : List ℕ). length l ≤ max_log) (sym is) (IsImage_fits e bs honest image) in
        inr (inr (subst (λ (l : List ℕ). Represents l (history_updated (forget_dead none_dead) start)) is (kept_text at.bytes start at.reads fits)))

kept_disk : (r : Result (Unit {0}) ToolFault) (old new : Option Disk) → IfErr r IsRecordFault → IfSome new IsDisk → MendsDisk [] r old new
    → ChangesDisk keeping_all r old new
kept_disk (Ok done) old new recorded honest call = record {
  leaves = λ start at. leaves_done start old new honest call.contents at;
  contents = λ d is. kept_done d new (rewritten d new honest (call.contents d is));
  unmade = λ d is fine. tt;
  opened = λ d index is other. absurd (cc other);
  negative_time = λ index other. absurd (cc other);
  accepts = λ index first. first;
  untouched = call.untouched;
}
kept_disk (Err fault) old new recorded honest call =
    let other = λ (index : ℕ) (is : fault ≡ NegativeTime index). subst IsRecordFault is recorded in
    record {
      leaves = λ start at. leaves_fault start old new honest call.either at;
      contents = λ d is. tt;
      unmade = λ d is fine. inl (call.stays fine ∙ is);
      opened = λ d index is refused. absurd (other index (cc refused));
      negative_time = λ index refused. absurd (other index (cc refused));
      accepts = tt;
      untouched = call.untouched;
    }

changes_too : (r : Result (Unit {0}) ToolFault) → IfErr r IsRecordFault → IfErr r IsChangeFault
changes_too (Ok done) is = tt
changes_too (Err (NegativeTime index)) is = tt
changes_too (Err fault) is = is

-- a refusal of the bytes is no fault of the folder
stays_so : {P : Type 0} (r : Result (Unit {0}) ToolFault) → (¬ IsErrOf r Folder → OnErr r P) → IsErrAnd r IsNoLogFault → P
stays_so (Ok done) stays refused = absurd refused
stays_so (Err fault) stays refused = stays (λ is. let same : fault ≡ Folder = cc is in subst IsNoLogFault same refused)

pub kept_log : {r : Result (Unit {0}) ToolFault} {old new : FolderView} → IfSome new.disk IsDisk → MendsLog [] r old new
    → ChangesLog keeping_all r old new
kept_log {r} {old} {new} honest call = record {
  disk = kept_disk r old.disk new.disk call.refusals honest call.disk;
  settled = call.settled;
  scratch = ok_with r _ _ call.scratch inr;
  bytes = call.bytes;
  unchanged = stays_so r call.unchanged;
  count = call.count;
  refusals = changes_too r call.refusals;
}

pub kept_as : {version : LogVersion} {r : Result (Unit {0}) ToolFault} {old new : FolderView} → IsFree old.disk version → IfSome new.disk IsDisk
    → MendsLogAs version [] r old new → ChangesLogAs version keeping_all r old new
kept_as {version} {r} {old} {new} free honest call =
    let seen = seen_as_version version in
    record {
      seen = record {
        disk = kept_disk r (seen old.disk) (seen new.disk) call.seen.refusals (seen_is_disk version new.disk honest) call.seen.disk;
        settled = call.seen.settled;
        barred = λ d is four. absurd (cc (free d is, four));
        bytes = call.seen.bytes;
        unchanged = λ refused. sym (seen-twice version new.disk) ∙ ap seen (stays_so r call.seen.disk.stays refused) ∙ seen-twice version old.disk;
        count = call.seen.count;
        refusals = changes_too r call.seen.refusals;
      };
      five = λ is. kept_log honest (call.five is);
    }
