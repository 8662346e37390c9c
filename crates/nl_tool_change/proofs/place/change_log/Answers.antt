use Rattle.nl_folder.specs.FolderView.{folder_view}
use Rattle.nl_tool_change.proofs.ChangeLemmas.{open_refused, make_refused, sync_refused, all_done, by_residual, by_stop}
use Rattle.nl_tool_change.proofs.place.change_log.Goals as goal

pub returns-in_err-open-clause-call : goal.returns-in_err-open-clause-call
returns-in_err-open-clause-call g c =
    by_residual _ _ c.from_residual.ensures.1 (open_refused _ c.requires.closed _ c.in_err-open.ensures.call c.in_err-open.ensures.step)

pub returns-in_err-make-clause-call : goal.returns-in_err-make-clause-call
returns-in_err-make-clause-call g c =
    by_residual _ _ c.from_residual-in_err-make.ensures.1
    (make_refused _ c.requires.closed c.in_ok-open.ensures.call c.in_ok-open.ensures.step _ c.in_err-make.ensures.call)

pub returns-in_err-sync-clause-call : goal.returns-in_err-sync-clause-call
returns-in_err-sync-clause-call g c =
    let opened = c.in_ok-open.ensures in
    by_residual _ _ c.from_residual-in_err-sync.ensures.1
    (sync_refused _ c.requires.closed opened.call opened.step c.in_ok-make.ensures.call _ c.in_err-sync.ensures.call
    c.in_err-sync.ensures.step)

pub returns-clause-call : goal.returns-clause-call
returns-clause-call g c =
    let opened = c.in_ok-open.ensures in
    let synced = c.in_ok-sync.ensures in
    by_stop c.stop.result c.stop.ensures.call synced.call.mode.stays_open (λ i. folder_view g.F.Folder (c.stop.ensures.folder i).folder)
    (all_done _ c.requires.closed opened.call opened.step c.in_ok-make.ensures.call
    (c.sync.new.self.ready synced.call.mode.stays_open) synced.call synced.step)
