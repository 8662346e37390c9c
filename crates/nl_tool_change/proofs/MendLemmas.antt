-- A mend of the log of a folder, by the answer of the log over it, and of one that is seen as of another version.
use Rattle.std.proofs.Common.{◌≡◌, ◌⊎◌, ◌∙◌, inl, inr, ◌<◌, ◌≤◌, refl, sym, ap, subst, arith, List, ℕ, Result, Ok, Err}
use Rattle.std.specs.Prelude.{IsSomeAnd, IsTrue, Option, None, Some}
use Rattle.std.proofs.lemmas.Bool.{cond-false, cond-true}
use Rattle.nl_lines.specs.Source.{FailedBetween}
use Rattle.nl_folder.specs.CrashImages.{IsImage}
use Rattle.nl_folder.specs.DiskState.{Disk}
use Rattle.nl_folder.specs.FolderView.{FolderView, SameState}
use Rattle.nl_versions.specs.declared.version.LogVersion.{LogVersion}
use Rattle.nl_versions.specs.LogAs.{is_barred}
use Rattle.nl_versions.specs.VersionFolder.{disk_as_version, seen_as_version}
use Rattle.nl_versions.proofs.VersionFolderLemmas.{seen-twice}
use Rattle.nl_session.specs.declared.fault.LogFault.{LogFault}
use Rattle.nl_session.specs.declared.fault.LogFault.TheVariants as refusal
use Rattle.nl_session.specs.declared.fault.LogState.TheVariants.{Closed}
use Rattle.nl_session.specs.LogView.{LogView}
use Rattle.nl_session.specs.Mending.{Mends, mended_text}
use Rattle.nl_tool_texts.specs.declared.fault.ToolFault.{ToolFault}
use Rattle.nl_tool_texts.specs.declared.fault.ToolFault.TheVariants.{Folder, OtherVersion}
use Rattle.nl_tool_change.specs.Calls.{IsFree, IsReason, Looks}
use Rattle.nl_tool_change.specs.Faults.{IsOpenOrChangeRefusal, IsRecordFault, of_log_answer, of_log_fault}
use Rattle.nl_tool_change.specs.Mending.{MendsDisk, MendsLog, MendsLogAs, MendsLogFor, MendsSeen}
use Rattle.nl_tool_change.specs.Seen.{Begins, HandsBack, Seen}
use Rattle.nl_tool_change.proofs.ChangeLemmas.{ok_with}
use Rattle.nl_tool_change.proofs.SeenLemmas.{version_for_disk, version_for_disk_is}

-- a closed log that was mended
pub mended : {names : List (List ℕ)} {old new : LogView} → Mends names (Ok tt) old new → MendsLog names (Ok tt) old.folder new.folder
mended call = record {
  disk = record {
    contents = call.contents;
    left = λ is. absurd (cc is);
    stays = λ fine. tt;
    either = call.either;
    untouched = λ d is none. (call.untouched d is none).0;
  };
  settled = call.settled;
  scratch = call.scratch;
  bytes = record { not_a_log = λ d is other. absurd (cc other); other_version = λ d is other. absurd (cc other) };
  unchanged = λ fine. tt;
  count = record { cause = λ is. absurd (cc is); steady = λ fine. call.count.steady (λ is. absurd (cc is)) };
  refusals = tt;
}

-- the refusals of a mend
abbrev Refusals : LogFault → Type 0
Refusals why = (why ≡ refusal.AlreadyOpen) ⊎ (why ≡ refusal.Broken) ⊎ (why ≡ refusal.NotALog) ⊎ (why ≡ refusal.OtherVersion)
    ⊎ (why ≡ refusal.OutOfMemory) ⊎ (why ≡ refusal.Fault)

-- what a refusal or a fault of one leaves
abbrev pub Unmended : List (List ℕ) → LogView → LogView → LogFault → Type 0
Unmended names old new why =
    IsOpenOrChangeRefusal why × IsRecordFault (of_log_fault why) × MendsLog names (Err (of_log_fault why)) old.folder new.folder

pub unmended : {names : List (List ℕ)} {old new : LogView} (why : LogFault) → old.mode ≡ Closed → Mends names (Err why) old new
    → Unmended names old new why
unmended refusal.AlreadyOpen closed call = absurd (cc (call.already_open.0 refl, closed))
unmended refusal.Broken closed call = absurd (cc (call.broken.0 refl, closed))
unmended refusal.NotOpen closed call = absurd (none call.refusals)
  where
    none : Refusals refusal.NotOpen → ⊥
    none (inl h) = absurd (cc h)
    none (inr (inl h)) = absurd (cc h)
    none (inr (inr (inl h))) = absurd (cc h)
    none (inr (inr (inr (inl h)))) = absurd (cc h)
    none (inr (inr (inr (inr (inl h))))) = absurd (cc h)
    none (inr (inr (inr (inr (inr h))))) = absurd (cc h)
unmended (refusal.NegativeTime index) closed call = absurd (none call.refusals)
  where
    none : Refusals (refusal.NegativeTime index) → ⊥
    none (inl h) = absurd (cc h)
    none (inr (inl h)) = absurd (cc h)
    none (inr (inr (inl h))) = absurd (cc h)
    none (inr (inr (inr (inl h)))) = absurd (cc h)
    none (inr (inr (inr (inr (inl h))))) = absurd (cc h)
    none (inr (inr (inr (inr (inr h))))) = absurd (cc h)
unmended refusal.NotALog closed call =
    let same = call.unchanged (λ is. absurd (cc is)) in (
      tt,
      tt,
      record {
        disk = record {
          contents = tt;
          left = λ is. absurd (cc is);
          stays = λ fine. same.0;
          either = call.either;
          untouched = λ d is none. same.0;
        };
        settled = tt;
        scratch = tt;
        bytes = record { not_a_log = λ d is here. call.not_a_log d is refl; other_version = λ d is other. absurd (cc other) };
        unchanged = λ fine. record { disk = same.0; settled = same.1; scratch = same.2 };
        count = record { cause = λ is. absurd (cc is); steady = λ fine. call.count.steady (λ is. absurd (cc is)) };
        refusals = tt;
      },
    )
unmended refusal.OtherVersion closed call =
    let same = call.unchanged (λ is. absurd (cc is)) in (
      tt,
      tt,
      record {
        disk = record {
          contents = tt;
          left = λ is. absurd (cc is);
          stays = λ fine. same.0;
          either = call.either;
          untouched = λ d is none. same.0;
        };
        settled = tt;
        scratch = tt;
        bytes = record { not_a_log = λ d is other. absurd (cc other); other_version = λ d is here. call.other_version d is refl };
        unchanged = λ fine. record { disk = same.0; settled = same.1; scratch = same.2 };
        count = record { cause = λ is. absurd (cc is); steady = λ fine. call.count.steady (λ is. absurd (cc is)) };
        refusals = tt;
      },
    )
unmended refusal.OutOfMemory closed call =
    let same = call.unchanged (λ is. absurd (cc is)) in (
      tt,
      tt,
      record {
        disk = record {
          contents = tt;
          left = λ is. absurd (cc is);
          stays = λ fine. same.0;
          either = call.either;
          untouched = λ d is none. same.0;
        };
        settled = tt;
        scratch = tt;
        bytes = record { not_a_log = λ d is other. absurd (cc other); other_version = λ d is other. absurd (cc other) };
        unchanged = λ fine. record { disk = same.0; settled = same.1; scratch = same.2 };
        count = record { cause = λ is. absurd (cc is); steady = λ fine. call.count.steady (λ is. absurd (cc is)) };
        refusals = tt;
      },
    )
unmended refusal.Fault closed call = (
  tt,
  tt,
  record {
    disk = record {
      contents = tt;
      left = λ is. call.left refl;
      stays = λ fine. absurd (fine refl);
      either = call.either;
      untouched = λ d is none. (call.untouched d is none).0;
    };
    settled = tt;
    scratch = tt;
    bytes = record { not_a_log = λ d is other. absurd (cc other); other_version = λ d is other. absurd (cc other) };
    unchanged = λ fine. absurd (fine refl);
    count = record { cause = λ is. call.count.cause refl; steady = λ fine. absurd (fine refl) };
    refusals = tt;
  },
)

-- ---- as of another version

module _ {names : List (List ℕ)} {r : Result (Unit {0}) ToolFault} {old new : FolderView} where
  -- through a folder that sees it so, where no bytes are barred
  mends_through : {from to : FolderView} (version : LogVersion) → IsFree old.disk version → from.disk ≡ seen_as_version version old.disk
      → new.disk ≡ seen_as_version version to.disk → (IsTrue to.is_settled → IsTrue new.is_settled)
      → from.failures ≡ old.failures → new.failures ≤ to.failures → (0 < to.failures → 0 < new.failures)
      → MendsLog names r from to → MendsSeen version names r old new
  mends_through {from} {to} version free below above settled same rose risen call =
      let seen : seen_as_version version new.disk ≡ to.disk = ap (seen_as_version version) above ∙ seen-twice version to.disk in
      record {
        disk = subst (λ d. MendsDisk names r d (seen_as_version version new.disk)) below
            (subst (MendsDisk names r from.disk) (sym seen) call.disk);
        settled = ok_with r _ _ call.settled settled;
        bytes = record {
          not_a_log = λ d is refused. cond-false (is_barred version d.visible) _ _ (free d is)
              ∙ call.bytes.not_a_log (disk_as_version version d) (below ∙ ap (seen_as_version version) is) refused;
          other_version = λ d is refused. cond-false (is_barred version d.visible) _ _ (free d is)
              ∙ call.bytes.other_version (disk_as_version version d) (below ∙ ap (seen_as_version version) is) refused;
        };
        count = λ none. record {
          cause = λ failed less.
              let more : from.failures < to.failures = call.count.cause failed (omega (arith, same, less)) in
              let some : 0 < new.failures = risen (omega (arith, more)) in
              omega (arith, none, some);
          steady = λ fine. omega (arith, call.count.steady fine, same, rose, none);
        };
        refusals = call.refusals;
      }

  -- by a log that is seen as of the version
  pub mended_as : {version : LogVersion} (from to : Seen) → from.version ≡ version → to.version ≡ from.version → Begins old from → HandsBack to new
      → IsFree old.disk version → MendsLog names r from.view.folder to.view.folder → MendsLogAs version names r old new
  mended_as {version} from to is same begins hands free call =
      let late : to.version ≡ version = same ∙ is in
      record {
        seen = mends_through version free (begins.disk ∙ ap (λ v. seen_as_version v old.disk) is)
            (hands.disk ∙ ap (λ v. seen_as_version v to.view.folder.disk) late) hands.settled begins.failures hands.failed hands.cause call;
        five = λ five. subst (λ (found : FolderView). MendsLog names r found new) (begins.five (is ∙ five))
            (subst (MendsLog names r from.view.folder) (sym (hands.five (late ∙ five))) call);
      }

-- what a closed log answered to a mend, as the tool says it
pub mended_so : {names : List (List ℕ)} {old new : LogView} (r : Result (Unit {0}) LogFault) → old.mode ≡ Closed → Mends names r old new
    → MendsLog names (of_log_answer r) old.folder new.folder
mended_so (Ok done) closed call = mended call
mended_so (Err why) closed call = (unmended why closed call).2

-- ---- of the version that is asked for, or of the one that it has

-- nothing was done
unmended_disk : (names : List (List ℕ)) (fault : ToolFault) (old new : Option Disk) → new ≡ old → MendsDisk names (Err fault) old new
unmended_disk names fault old new same = record {
  contents = tt;
  left = λ is. inl same;
  stays = λ fine. same;
  either = λ d is. subst (λ (o : Option Disk). IsSomeAnd o (λ e. (bs : List ℕ) → IsImage e bs → IsImage d bs ⊎ (mended_text names d.visible ≡ Some bs)))
      (sym (same ∙ is)) (λ bs image. inl image);
  untouched = λ d is none. same;
}

-- a log of version 4, if another is asked for
barred_for : (asked : Option LogVersion) (names : List (List ℕ)) (old new : FolderView) → SameState old new
    → IsReason asked old.disk old.failures new.failures refusal.OtherVersion → MendsLogFor asked names (Err OtherVersion) old new
barred_for None names old new same reason = absurd reason.1
barred_for (Some version) names old new same reason = record {
  version = version;
  chosen = refl;
  call = record {
    seen = record {
      disk = unmended_disk names OtherVersion _ _ (ap (seen_as_version version) same.disk);
      settled = tt;
      bytes = record {
        not_a_log = λ d is other. absurd (cc other);
        other_version = λ d is here. cond-true (is_barred version d.visible) _ _ (reason.1.1 d is);
      };
      count = λ none. record { cause = λ other. absurd (cc other); steady = λ fine. reason.0 };
      refusals = tt;
    };
    five = λ is. absurd (reason.1.0 is);
  };
}

-- a look at a folder failed
unlooked : (names : List (List ℕ)) (old new : FolderView) (version : LogVersion) → SameState old new
    → FailedBetween old.failures new.failures → MendsLogAs version names (Err Folder) old new
unlooked names old new version same failed = record {
  seen = record {
    disk = unmended_disk names Folder _ _ (ap (seen_as_version version) same.disk);
    settled = tt;
    bytes = record { not_a_log = λ d is other. absurd (cc other); other_version = λ d is other. absurd (cc other) };
    count = λ none. record { cause = λ other. failed; steady = λ fine. absurd (fine refl) };
    refusals = tt;
  };
  five = λ is. record {
    disk = unmended_disk names Folder _ _ same.disk;
    settled = tt;
    scratch = tt;
    bytes = record { not_a_log = λ d is other. absurd (cc other); other_version = λ d is other. absurd (cc other) };
    unchanged = λ fine. absurd (fine refl);
    count = record { cause = λ other. failed; steady = λ fine. absurd (fine refl) };
    refusals = tt;
  };
}

-- a folder was looked at, and nothing else was done
pub unmended_for : (asked : Option LogVersion) (names : List (List ℕ)) (old new : FolderView) (r : Result LogVersion LogFault)
    (why : LogFault) → r ≡ Err why → Looks asked old new r → MendsLogFor asked names (Err (of_log_fault why)) old new
unmended_for asked names old new r why is looks = go why (subst (Looks asked old new) is looks)
  where
    go : (why : LogFault) → Looks asked old new (Err why) → MendsLogFor asked names (Err (of_log_fault why)) old new
    go refusal.NotOpen looks = absurd looks.refusals
    go refusal.AlreadyOpen looks = absurd looks.refusals
    go refusal.Broken looks = absurd looks.refusals
    go (refusal.NegativeTime index) looks = absurd looks.refusals
    go refusal.NotALog looks = absurd looks.refusals
    go refusal.OtherVersion looks = barred_for asked names old new looks.same looks.refusals
    go refusal.OutOfMemory looks = absurd looks.refusals
    go refusal.Fault looks =
        let version = version_for_disk asked old.disk in
        record {
          version = version;
          chosen = version_for_disk_is asked old.disk;
          call = unlooked names old new version looks.same looks.refusals;
        }

-- a folder was looked at before
pub mended_for : (asked : Option LogVersion) (names : List (List ℕ)) (result : Result (Unit {0}) ToolFault) (old mid new : FolderView)
    (r : Result LogVersion LogFault) (version : LogVersion) → r ≡ Ok version → Looks asked old mid r
    → (IsFree mid.disk version → MendsLogAs version names result mid new) → MendsLogFor asked names result old new
mended_for asked names result old mid new r version is looks mends =
    let looks = subst (Looks asked old mid) is looks in
    record {
      version = version;
      chosen = looks.chosen;
      call = subst (λ (v : FolderView). MendsLogAs version names result v new)
          (λ i. record { disk = looks.same.disk i; is_settled = looks.same.settled i; has_scratch = looks.same.scratch i; failures = looks.steady i })
          (mends (λ d at. looks.free d (sym looks.same.disk ∙ at)));
    }
