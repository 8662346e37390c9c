use Rattle.std.proofs.Common.{◌≡◌, [], List, ℕ, Err, refl, subst, sym}
use Rattle.nl_tool_texts.specs.declared.fault.ToolFault.{ToolFault}
use Rattle.nl_tool_change.specs.Calls.{ChangesLogFor, keeping_all}
use Rattle.nl_tool_change.specs.Faults.{IsRecordFault}
use Rattle.nl_tool_change.specs.Mending.{MendsLogAs, MendsLogFor}
use Rattle.nl_folder.specs.FolderView.{folder_view}
use Rattle.nl_tool_change.proofs.KeepAllLemmas.{kept_as}
use Rattle.nl_tool_change.proofs.MendLemmas.{mended_for, unmended_for}
use Rattle.nl_tool_change.proofs.RepairLemmas.{repairs_for}
use Rattle.nl_tool_change.proofs.SeenLemmas.{looked_at, reason_fault, turned_back}
use Rattle.nl_tool_change.proofs.place.AskedFolderLogPlace.mend.Goals as goal

pub of_log_fault-requires : goal.of_log_fault-requires
of_log_fault-requires g c = (reason_fault _ _ _ _ _ c.in-Err.is c.look_for-folder.ensures.looks).0

pub returns-in-Ok : goal.returns-in-Ok
returns-in-Ok g c =
    let view = folder_view g.F.Folder in
    let asked = c.args.self.asked in
    let looks = c.look_for-folder.ensures.looks in
    let left = c.mend_on-folder in
    let honest = g.met.F.Folder.is_disk left.result.0 in
    let kept : c.args.names.now ≡ [] → ChangesLogFor asked (λ _. keeping_all) left.result.1 (view c.args.self.folder) (view left.result.0) =
    λ none. looked_at asked (λ _. keeping_all) _ _ _ _ _ c.in-Ok.version c.in-Ok.is looks (λ free. kept_as free honest
    (subst (λ (names : List (List ℕ)). MendsLogAs c.in-Ok.version names left.result.1 (view c.look_for-folder.result.0) (view left.result.0)) none
    (left.ensures.call free))) in
    record {
      call = mended_for asked _ _ _ _ _ _ c.in-Ok.version c.in-Ok.is looks left.ensures.call;
      keeps = kept;
      repairs = λ none. repairs_for asked refl honest (kept none);
      faults = left.ensures.faults;
    }

pub returns-in-Err : goal.returns-in-Err
returns-in-Err g c =
    let view = folder_view g.F.Folder in
    let asked = c.args.self.asked in
    let looks = c.look_for-folder.ensures.looks in
    let left = c.look_for-folder.result.0 in
    let why = reason_fault _ _ _ _ _ c.in-Err.is looks in
    let kept = subst (λ (fault : ToolFault). ChangesLogFor asked (λ _. keeping_all) (Err fault) (view c.args.self.folder) (view left))
    (sym c.of_log_fault.ensures.value) (turned_back asked (λ _. keeping_all) _ _ _ c.in-Err.fault c.in-Err.is looks) in
    record {
      call = subst (λ (fault : ToolFault). MendsLogFor asked c.args.names.now (Err fault) (view c.args.self.folder) (view left))
          (sym c.of_log_fault.ensures.value) (unmended_for asked c.args.names.now _ _ _ c.in-Err.fault c.in-Err.is looks);
      keeps = λ none. kept;
      repairs = λ none. repairs_for asked refl (g.met.F.Folder.is_disk left) kept;
      faults = subst IsRecordFault (sym c.of_log_fault.ensures.value) why.1;
    }
