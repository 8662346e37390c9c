-- A change of a log that is seen as one of another version.
use Rattle.std.proofs.Common.{◌≡◌, ◌∙◌, ◌<◌, ◌≤◌, true, refl, sym, ap, subst, inl, arith, Option, None, Some, Result, Ok, Err}
use Rattle.std.specs.Prelude.{IsErrAnd, IsTrue, MatchResult}
use Rattle.std.proofs.lemmas.Bool.{cond-true, cond-false}
use Rattle.nl_lines.specs.Source.{FailedBetween}
use Rattle.nl_versions.specs.declared.version.LogVersion.{LogVersion}
use Rattle.nl_versions.specs.declared.version.LogVersion.TheVariants.{Five}
use Rattle.nl_folder.specs.DiskState.{Disk}
use Rattle.nl_versions.specs.VersionFolder.{disk_as_version, seen_as_version}
use Rattle.nl_versions.proofs.VersionFolderLemmas.{seen-twice}
use Rattle.nl_session.specs.declared.fault.LogFault.{LogFault}
use Rattle.nl_session.specs.declared.fault.LogFault.TheVariants as refusal
use Rattle.nl_session.specs.Runs.{BeginsAt}
use Rattle.nl_versions.specs.VersionOf.{version_of}
use Rattle.nl_versions.specs.LogAs.{is_barred}
use Rattle.nl_tool_texts.specs.declared.fault.ToolFault.{ToolFault}
use Rattle.nl_tool_texts.specs.declared.fault.ToolFault.TheVariants.{Folder, OtherVersion}
use Rattle.nl_tool_change.specs.Calls.{ChangesDisk, ChangesLog, ChangesLogAs, ChangesLogFor, ChangesSeen, IsFaultBy, IsFree, IsReason}
use Rattle.nl_folder.specs.FolderView.{FolderView, SameState}
use Rattle.nl_tool_change.specs.Calls.{IsVersionFor, Looks, Meaning}
use Rattle.nl_tool_change.specs.Faults.{IsOpenOrChangeRefusal, IsRecordFault, of_log_answer, of_log_fault}
use Rattle.nl_tool_change.specs.Seen.{Begins, HandsBack, Seen}
use Rattle.nl_tool_change.proofs.ChangeLemmas.{found_first, ok_with}

module _ {m : Meaning} {old new : FolderView} where
  -- where bytes that are barred were found, and nothing was done
  refused : (version : LogVersion) → ((d : Disk) → old.disk ≡ Some d → is_barred version d.visible ≡ true)
      → new.disk ≡ old.disk → new.failures ≡ old.failures → ChangesSeen version m (Err OtherVersion) old new
  refused version four same steady = record {
    disk = record {
      leaves = λ start at. found_first m.update start _ (subst (λ d. BeginsAt start (seen_as_version version d)) (sym same) at);
      contents = λ d is. tt;
      unmade = λ d is fine. inl (ap (seen_as_version version) same ∙ is);
      opened = λ d index is other. absurd (cc other);
      negative_time = λ index other. absurd (cc other);
      accepts = tt;
      untouched = λ d is none. ap (seen_as_version version) same;
    };
    settled = tt;
    barred = λ d is four. (refl, same);
    bytes = record { not_a_log = λ d is other. absurd (cc other); other_version = λ d is here. cond-true (is_barred version d.visible) _ _ (four d is) };
    unchanged = λ here. same;
    count = λ none. record { cause = λ other. absurd (cc other); steady = λ fine. steady };
    refusals = tt;
  }

module _ {m : Meaning} {r : Result (Unit {0}) ToolFault} {old new : FolderView} where
  -- through a folder that sees it so, where no bytes are barred
  through : {from to : FolderView} (version : LogVersion) → IsFree old.disk version → from.disk ≡ seen_as_version version old.disk
      → new.disk ≡ seen_as_version version to.disk → (IsTrue to.is_settled → IsTrue new.is_settled)
      → from.failures ≡ old.failures → new.failures ≤ to.failures → (0 < to.failures → 0 < new.failures)
      → ChangesLog m r from to → ChangesSeen version m r old new
  through {from} {to} version free below above settled same rose risen call =
      let seen : seen_as_version version new.disk ≡ to.disk = ap (seen_as_version version) above ∙ seen-twice version to.disk in
      record {
        disk = subst (λ d. ChangesDisk m r d (seen_as_version version new.disk)) below
            (subst (ChangesDisk m r from.disk) (sym seen) call.disk);
        settled = ok_with r _ _ call.settled settled;
        barred = λ d is four. absurd (cc (free d is, four));
        bytes = record {
          not_a_log = λ d is refused. cond-false (is_barred version d.visible) _ _ (free d is)
              ∙ call.bytes.not_a_log (disk_as_version version d) (below ∙ ap (seen_as_version version) is) refused;
          other_version = λ d is refused. cond-false (is_barred version d.visible) _ _ (free d is)
              ∙ call.bytes.other_version (disk_as_version version d) (below ∙ ap (seen_as_version version) is) refused;
        };
        unchanged = λ refused.
            sym (seen-twice version new.disk) ∙ ap (seen_as_version version) (seen ∙ (call.unchanged refused).disk ∙ below)
            ∙ seen-twice version old.disk;
        count = λ none. record {
          cause = λ failed less.
              let more : from.failures < to.failures = call.count.cause failed (omega (arith, same, less)) in
              let some : 0 < new.failures = risen (omega (arith, more)) in
              omega (arith, none, some);
          steady = λ fine. omega (arith, call.count.steady fine, same, rose, none);
        };
        refusals = call.refusals;
      }

  -- by a log that is seen as of the version
  pub changed_as : {version : LogVersion} (from to : Seen) → from.version ≡ version → to.version ≡ from.version → Begins old from → HandsBack to new
      → IsFree old.disk version → ChangesLog m r from.view.folder to.view.folder → ChangesLogAs version m r old new
  changed_as {version} from to is same begins hands free call =
      let late : to.version ≡ version = same ∙ is in
      record {
        seen = through version free (begins.disk ∙ ap (λ v. seen_as_version v old.disk) is)
            (hands.disk ∙ ap (λ v. seen_as_version v to.view.folder.disk) late) hands.settled begins.failures hands.failed hands.cause call;
        five = λ five. subst (λ (found : FolderView). ChangesLog m r found new) (begins.five (is ∙ five))
            (subst (ChangesLog m r from.view.folder) (sym (hands.five (late ∙ five))) call);
      }

-- what a log answered, as the tool says it
pub answered_so : (r : Result (Unit {0}) LogFault) (m : Result (Unit {0}) ToolFault)
    → MatchResult r (λ done. m ≡ Ok done) (λ why. IsErrAnd m (λ fault. fault ≡ of_log_fault why)) → of_log_answer r ≡ m
answered_so (Ok done) m is = sym is
answered_so (Err why) (Ok done) is = absurd is
answered_so (Err why) (Err fault) is = ap (λ (f : ToolFault). Err f) (sym is)

-- a version for a folder, where none is asked for
pub version_of_disk : Option Disk → LogVersion
version_of_disk None = Five
version_of_disk (Some d) = version_of d.visible

pub version_of_disk_is : (asked : Option LogVersion) (disk : Option Disk) → asked ≡ None → IsVersionFor asked disk (version_of_disk disk)
unfolding version_of_disk
version_of_disk_is asked disk none = subst (λ a. IsVersionFor a disk (version_of_disk disk)) (sym none)
    (λ d is. ap version_of_disk is)

-- a look at a folder failed, and nothing was done
unmade_disk : (m : Meaning) (old new : Option Disk) → new ≡ old → ChangesDisk m (Err Folder) old new
unmade_disk m old new same = record {
  leaves = λ start at. found_first m.update start _ (subst (BeginsAt start) (sym same) at);
  contents = λ d is. tt;
  unmade = λ d is fine. inl (same ∙ is);
  opened = λ d index is other. absurd (cc other);
  negative_time = λ index other. absurd (cc other);
  accepts = tt;
  untouched = λ d is none. same;
}

unlooked : (m : Meaning) (old new : FolderView) (version : LogVersion) → SameState old new
    → FailedBetween old.failures new.failures → ChangesLogAs version m (Err Folder) old new
unlooked m old new version same failed = record {
  seen = record {
    disk = unmade_disk m _ _ (ap (seen_as_version version) same.disk);
    settled = tt;
    barred = λ d is four. (refl, same.disk);
    bytes = record { not_a_log = λ d is other. absurd (cc other); other_version = λ d is other. absurd (cc other) };
    unchanged = λ here. same.disk;
    count = λ none. record { cause = λ other. failed; steady = λ fine. absurd (fine refl) };
    refusals = tt;
  };
  five = λ is. record {
    disk = unmade_disk m _ _ same.disk;
    settled = tt;
    scratch = tt;
    bytes = record { not_a_log = λ d is other. absurd (cc other); other_version = λ d is other. absurd (cc other) };
    unchanged = λ here. same;
    count = record { cause = λ other. failed; steady = λ fine. absurd (fine refl) };
    refusals = tt;
  };
}

-- a version for a folder, whichever is asked for
pub version_for_disk : Option LogVersion → Option Disk → LogVersion
version_for_disk (Some version) disk = version
version_for_disk None disk = version_of_disk disk

pub version_for_disk_is : (asked : Option LogVersion) (disk : Option Disk) → IsVersionFor asked disk (version_for_disk asked disk)
unfolding version_for_disk
version_for_disk_is (Some version) disk = refl
version_for_disk_is None disk = version_of_disk_is None disk refl

-- a log of version 4, where another is asked for
barred_for : (asked : Option LogVersion) (m : LogVersion → Meaning) (old new : FolderView)
    → SameState old new → IsReason asked old.disk old.failures new.failures refusal.OtherVersion
    → ChangesLogFor asked m (Err OtherVersion) old new
barred_for None m old new same reason = absurd reason.1
barred_for (Some version) m old new same reason = record {
  version = version;
  chosen = refl;
  call = record {
    seen = refused version reason.1.1 same.disk reason.0;
    five = λ is. absurd (reason.1.0 is);
  };
}

-- a folder was looked at, and nothing else was done
pub turned_back : (asked : Option LogVersion) (m : LogVersion → Meaning) (old new : FolderView) (r : Result LogVersion LogFault)
    (why : LogFault) → r ≡ Err why → Looks asked old new r → ChangesLogFor asked m (Err (of_log_fault why)) old new
turned_back asked m old new r why is looks = go why (subst (Looks asked old new) is looks)
  where
    go : (why : LogFault) → Looks asked old new (Err why) → ChangesLogFor asked m (Err (of_log_fault why)) old new
    go refusal.NotOpen looks = absurd looks.refusals
    go refusal.AlreadyOpen looks = absurd looks.refusals
    go refusal.Broken looks = absurd looks.refusals
    go (refusal.NegativeTime index) looks = absurd looks.refusals
    go refusal.NotALog looks = absurd looks.refusals
    go refusal.OtherVersion looks = barred_for asked m old new looks.same looks.refusals
    go refusal.OutOfMemory looks = absurd looks.refusals
    go refusal.Fault looks =
        let version = version_for_disk asked old.disk in
        record {
          version = version;
          chosen = version_for_disk_is asked old.disk;
          call = unlooked (m version) old new version looks.same looks.refusals;
        }

-- why it wasn't, as a fault of adding an entry
pub reason_fault : (asked : Option LogVersion) (old new : FolderView) (r : Result LogVersion LogFault) (why : LogFault) → r ≡ Err why
    → Looks asked old new r → IsOpenOrChangeRefusal why × IsRecordFault (of_log_fault why)
reason_fault asked old new r why is looks = go why (subst (Looks asked old new) is looks)
  where
    go : (why : LogFault) → Looks asked old new (Err why) → IsOpenOrChangeRefusal why × IsRecordFault (of_log_fault why)
    go refusal.NotOpen looks = absurd looks.refusals
    go refusal.AlreadyOpen looks = absurd looks.refusals
    go refusal.Broken looks = absurd looks.refusals
    go (refusal.NegativeTime index) looks = absurd looks.refusals
    go refusal.NotALog looks = absurd looks.refusals
    go refusal.OtherVersion looks = (tt, tt)
    go refusal.OutOfMemory looks = absurd looks.refusals
    go refusal.Fault looks = (tt, tt)

pub reason_by : (m : Meaning) (why : LogFault) → IsOpenOrChangeRefusal why × IsRecordFault (of_log_fault why) → IsFaultBy m (of_log_fault why)
reason_by m refusal.NotOpen is = absurd is.0
reason_by m refusal.AlreadyOpen is = absurd is.0
reason_by m refusal.Broken is = absurd is.0
reason_by m (refusal.NegativeTime index) is = absurd is.1
reason_by m refusal.NotALog is = tt
reason_by m refusal.OtherVersion is = tt
reason_by m refusal.OutOfMemory is = tt
reason_by m refusal.Fault is = tt

-- a change of a folder that was looked at before
pub looked_at : (asked : Option LogVersion) (m : LogVersion → Meaning) (result : Result (Unit {0}) ToolFault) (old mid new : FolderView)
    (r : Result LogVersion LogFault) (version : LogVersion) → r ≡ Ok version → Looks asked old mid r
    → (IsFree mid.disk version → ChangesLogAs version (m version) result mid new) → ChangesLogFor asked m result old new
looked_at asked m result old mid new r version is looks changes =
    let looks = subst (Looks asked old mid) is looks in
    record {
      version = version;
      chosen = looks.chosen;
      call = subst (λ (v : FolderView). ChangesLogAs version (m version) result v new)
          (λ i. record { disk = looks.same.disk i; is_settled = looks.same.settled i; has_scratch = looks.same.scratch i; failures = looks.steady i })
          (changes (λ d at. looks.free d (sym looks.same.disk ∙ at)));
    }
