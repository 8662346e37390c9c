-- A log that is seen as of a version, and the folder below it.
use Rattle.std.proofs.Common.{◌≡◌, ◌≢◌, ◌≤◌, ◌∙◌, ℕ, true, false, List, Option, None, Some, Result, Ok, Err, refl, sym, ap, arith, inl, inr, subst}
use Rattle.std.specs.Prelude.{IfOk, IsTrue, OnErr, OnOk}
use Rattle.nl_fields.specs.declared.entry.Entry.{Entry}
use Rattle.nl_lines.specs.Source.{FailedBetween}
use Rattle.nl_versions.specs.declared.version.LogVersion.{LogVersion}
use Rattle.nl_versions.specs.declared.version.LogVersion.TheVariants.{Five, Six, Seven}
use Rattle.nl_table.specs.Log.{log_of}
use Rattle.nl_folder.specs.DiskState.{Disk}
use Rattle.nl_folder.specs.declared.folder.Folder.{Ghosts}
use Rattle.nl_versions.specs.VersionOf.{version_of}
use Rattle.nl_versions.specs.LogAs.{is_barred, is_four}
use Rattle.nl_versions.specs.declared.version.FirstLine.{FirstLine}
use Rattle.nl_versions.proofs.LogAsLemmas.{seen_five}
use Rattle.nl_versions.proofs.VersionOfLemmas.{named_free}
use Rattle.nl_session.specs.declared.fault.LogFault.{LogFault}
use Rattle.nl_session.specs.declared.fault.LogFault.TheVariants as refusal
use Rattle.nl_session.specs.declared.log.Log.{Log}
use Rattle.nl_session.specs.declared.fault.LogState.TheVariants.{Closed}
use Rattle.nl_session.specs.LogView.{folder_of, view_of}
use Rattle.nl_tool_change.specs.Calls.{IsFree, IsVersionFor, Looks}
use Rattle.nl_folder.specs.FolderView.{FolderView, SameState, folder_view}
use Rattle.std.specs.Global.{Vec}
use Rattle.std.specs.Prelude.{◌⊎◌, IfErr, IsErrOf}
use Rattle.nl_table.specs.Log.{NotALog, OtherVersion}
use Rattle.nl_versions.specs.LogAs.{log_for}
use Rattle.nl_tool_texts.specs.declared.fault.ToolFault.{ToolFault}
use Rattle.nl_tool_change.specs.Mending.{ReadsWhole}
use Rattle.nl_tool_change.specs.Distrusts.{AreDistrusted, Distrusts, IsUntold}
use Rattle.nl_tool_change.specs.Seen.{Begins, HandsBack, Seen}
use Rattle.nl_tool_change.specs.Applying.{IsSeenAnew, IsTold, IsTurnedAway}

module _ {F : Type 0} {g : Ghosts F} (log : Log F g) (folder : F) where
  pub begins_five : (view_of log).mode ≡ Closed → folder_of log ≡ folder
      → Begins (folder_view g folder) (record { version = Five; view = view_of log })
  begins_five closed same = record {
    closed = closed;
    disk = ap g.disk same ∙ sym (seen_five Five refl (g.disk folder));
    failures = ap g.failures same;
    five = λ here. ap (folder_view g) same;
    other = λ no. absurd (no refl);
  }

  pub hands_five : folder ≡ folder_of log → HandsBack (record { version = Five; view = view_of log }) (folder_view g folder)
  hands_five same = record {
    disk = ap g.disk same ∙ sym (seen_five Five refl (g.disk (folder_of log)));
    settled = λ was. subst (λ f. IsTrue (g.is_settled f)) (sym same) was;
    scratch = λ was. subst (λ f. IsTrue (g.has_scratch f)) (sym same) was;
    failed = let e = ap g.failures same in omega (arith, e);
    cause = λ some. let e = ap g.failures same in omega (arith, e, some);
    five = λ here. ap (folder_view g) same;
  }

-- ---- a look at a folder

-- where 6 or 7 is asked for, only a log of version 4 is barred
barred_four : (version : LogVersion) (bytes : List ℕ) → version ≢ Five → is_barred version bytes ≡ is_four (log_of bytes)
barred_four Five bytes other = absurd (other refl)
barred_four Six bytes other = refl
barred_four Seven bytes other = refl

module _ {E : Type 0} (old new : FolderView) (r : Result FirstLine E) (same : SameState old new)
    (rises : old.failures ≤ new.failures) (steady : OnOk r (new.failures ≡ old.failures)) where
  fine : (line : FirstLine) → r ≡ Ok line → new.failures ≡ old.failures
  fine line is = subst (λ (found : Result FirstLine E). OnOk found (new.failures ≡ old.failures)) is steady

  -- by the version that its first line names
  pub looks_named : ((d : Disk) → old.disk ≡ Some d → IfOk r (λ line. line.version ≡ version_of d.visible)) → (line : FirstLine)
      → r ≡ Ok line → Looks None old new (Ok line.version)
  looks_named names line is =
      let named : IsVersionFor None old.disk line.version =
      λ d at. subst (λ (found : Result FirstLine E). IfOk found (λ line. line.version ≡ version_of d.visible)) is (names d at) in
      record {
        same = same;
        rises = rises;
        steady = fine line is;
        chosen = named;
        free = λ d at. ap (λ (v : LogVersion). is_barred v d.visible) (named d at) ∙ named_free d.visible;
        refusals = tt;
      }

  pub looks_failed : (asked : Option LogVersion) → OnErr r (FailedBetween old.failures new.failures) → (why : E) → r ≡ Err why
      → Looks asked old new (Err refusal.Fault)
  looks_failed asked cause why is =
      let failed = subst (λ (found : Result FirstLine E). OnErr found (FailedBetween old.failures new.failures)) is cause in
      record { same = same; rises = rises; steady = tt; chosen = tt; free = tt; refusals = failed }

  -- by whether it is of version 4
  module _ (version : LogVersion) (other : version ≢ Five)
      (four : (d : Disk) → old.disk ≡ Some d → IfOk r (λ line. line.is_four ≡ is_four (log_of d.visible))) (line : FirstLine)
      (is : r ≡ Ok line) where
    barred_by : (d : Disk) → old.disk ≡ Some d → is_barred version d.visible ≡ line.is_four
    barred_by d at = barred_four version d.visible other
        ∙ sym (subst (λ (found : Result FirstLine E). IfOk found (λ line. line.is_four ≡ is_four (log_of d.visible))) is (four d at))

    pub looks_past : line.is_four ≡ false → Looks (Some version) old new (Ok version)
    looks_past later = record {
      same = same;
      rises = rises;
      steady = fine line is;
      chosen = refl;
      free = λ d at. barred_by d at ∙ later;
      refusals = tt;
    }

    pub looks_four : line.is_four ≡ true → Looks (Some version) old new (Err refusal.OtherVersion)
    looks_four old_one = record {
      same = same;
      rises = rises;
      steady = tt;
      chosen = tt;
      free = tt;
      refusals = (fine line is, (other, λ d at. barred_by d at ∙ old_one));
    }

-- ---- a closed log that was looked at

module _ (asked : Option LogVersion) (old new : Seen) (between found : FolderView) (r : Result LogVersion LogFault)
    (closed : old.view.mode ≡ Closed) (hands : HandsBack old between) (looks : Looks asked between found r) (begins : Begins found new) where
  pub seen_anew : (version : LogVersion) → r ≡ Ok version → new.version ≡ version → IsSeenAnew asked old new
  seen_anew version is named =
      let looks = subst (Looks asked between found) is looks in
      record {
        found = found;
        looked = record { closed = closed; between = between; hands = hands; same = looks.same; rises = looks.rises };
        steady = looks.steady;
        chosen = subst (IsVersionFor asked between.disk) (sym named) looks.chosen;
        free = subst (IsFree between.disk) (sym named) looks.free;
        begins = begins;
      }

  pub turned_away : (why : LogFault) → r ≡ Err why → new.version ≡ old.version → IsTurnedAway asked old new why
  turned_away why is named =
      let looks = subst (Looks asked between found) is looks in
      record {
        found = found;
        looked = record { closed = closed; between = between; hands = hands; same = looks.same; rises = looks.rises };
        begins = begins;
        version = named;
        reason = looks.refusals;
      }

pub is_told : (asked : Option LogVersion) (old new : Seen) (between found : FolderView) (r : Result (List Entry) LogFault)
    → old.view.mode ≡ Closed → HandsBack old between → Distrusts asked between found r → Begins found new → new.version ≡ old.version
    → IsTold asked old new r
is_told asked old new between found r closed hands distrusts begins named = record {
  found = found;
  looked = record { closed = closed; between = between; hands = hands; same = distrusts.same; rises = distrusts.rises };
  begins = begins;
  version = named;
  distrusts = distrusts;
}

-- its bytes tell what can't be trusted, or what is wrong with them
pub distrusts_read : {asked : Option LogVersion} {old new : FolderView} {bytes : Vec ℕ} → ReadsWhole old new (Ok bytes)
    → (r : Result (List Entry) LogFault) → IfOk r (AreDistrusted asked bytes.items)
    → (IsErrOf r refusal.NotALog → log_for asked bytes.items ≡ NotALog)
    → (IsErrOf r refusal.OtherVersion → log_for asked bytes.items ≡ OtherVersion)
    → IfErr r (λ why. (why ≡ refusal.NotALog) ⊎ (why ≡ refusal.OtherVersion) ⊎ (why ≡ refusal.OutOfMemory)) → Distrusts asked old new r
distrusts_read {asked} reads (Ok es) found none other refusals = record {
  same = reads.same;
  rises = reads.rises;
  found = λ d is. subst (λ (bs : List ℕ). AreDistrusted asked bs es) (sym (reads.value d is)) found;
  refusals = tt;
}
distrusts_read {asked} {old} {new} reads (Err why) found none other refusals = record {
  same = reads.same;
  rises = reads.rises;
  found = tt;
  refusals = elim refusals [
    | inl is ↦ subst (IsUntold asked old.disk old.failures new.failures) (sym is) (λ d at. ap (log_for asked) (reads.value d at) ∙ none (ap Err is))
    | inr rest ↦ elim rest [
      | inl is ↦ subst (IsUntold asked old.disk old.failures new.failures) (sym is) (λ d at. ap (log_for asked) (reads.value d at) ∙ other (ap Err is))
      | inr is ↦ subst (IsUntold asked old.disk old.failures new.failures) (sym is) tt
    ]
  ];
}

-- the log wasn't read
pub distrusts_refused : {asked : Option LogVersion} {old new : FolderView} {read : Result (Vec ℕ) ToolFault} (why : LogFault)
    → ReadsWhole old new read → IsUntold asked old.disk old.failures new.failures why → Distrusts asked old new (Err why)
distrusts_refused why reads untold = record { same = reads.same; rises = reads.rises; found = tt; refusals = untold }
