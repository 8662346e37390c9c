use Rattle.std.proofs.Common.{Err, subst, sym}
use Rattle.nl_tool_texts.specs.declared.fault.ToolFault.{ToolFault}
use Rattle.nl_tool_change.specs.Calls.{ChangesLogFor, IsFaultBy}
use Rattle.nl_folder.specs.FolderView.{folder_view}
use Rattle.nl_tool_change.proofs.RepairLemmas.{repairs_for}
use Rattle.nl_tool_change.proofs.SeenLemmas.{looked_at, reason_by, reason_fault, turned_back}
use Rattle.nl_tool_change.proofs.place.AskedFolderLogPlace.change.Goals as goal

pub of_log_fault-requires : goal.of_log_fault-requires
of_log_fault-requires g c = (reason_fault _ _ _ _ _ c.in-Err.is c.look_for-folder.ensures.looks).0

pub returns-in-Ok : goal.returns-in-Ok
returns-in-Ok g c =
    let call = looked_at _ _ _ _ _ _ _ c.in-Ok.version c.in-Ok.is c.look_for-folder.ensures.looks c.change_found-folder.ensures.call in
    record {
      call = call;
      repairs = λ all. repairs_for _ all (g.met.F.Folder.is_disk c.change_found-folder.result.0) call;
      faults = c.change_found-folder.ensures.faults;
    }

pub returns-in-Err : goal.returns-in-Err
returns-in-Err g c =
    let m = g.C.Change.meaning c.args.change.now in
    let why = reason_fault _ _ _ _ _ c.in-Err.is c.look_for-folder.ensures.looks in
    let call = subst (λ (fault : ToolFault). ChangesLogFor c.args.self.asked (λ version. m) (Err fault)
    (folder_view g.F.Folder c.args.self.folder) (folder_view g.F.Folder c.look_for-folder.result.0)) (sym c.of_log_fault.ensures.value)
    (turned_back c.args.self.asked (λ version. m) _ _ _ c.in-Err.fault c.in-Err.is c.look_for-folder.ensures.looks) in
    record {
      call = call;
      repairs = λ all. repairs_for _ all (g.met.F.Folder.is_disk c.look_for-folder.result.0) call;
      faults = subst (IsFaultBy m) (sym c.of_log_fault.ensures.value) (reason_by m c.in-Err.fault why);
    }
