use Rattle.std.proofs.Common.{◌≡◌, [], List, ℕ, refl, subst}
use Rattle.nl_folder.specs.FolderView.{folder_view}
use Rattle.nl_tool_change.specs.Mending.{MendsLog}
use Rattle.nl_tool_change.proofs.KeepAllLemmas.{kept_log}
use Rattle.nl_tool_change.proofs.RepairLemmas.{repairs_plain}
use Rattle.nl_tool_change.proofs.place.AnyLogPlace.mend.Goals as goal

pub returns : goal.returns
returns g c =
    let view = folder_view g.F.Folder in
    let honest = g.met.F.Folder.is_disk c.mend_on.result.0 in
    let call = (c.mend_on.ensures.call (λ d is. refl)).five refl in
    let kept = λ (none : c.args.names.now ≡ []). kept_log honest
    (subst (λ (names : List (List ℕ)). MendsLog names c.mend_on.result.1 (view c.args.self) (view c.mend_on.result.0)) none call) in
    record {
      call = call;
      keeps = kept;
      repairs = λ none. repairs_plain refl honest (kept none);
      faults = c.mend_on.ensures.faults;
    }
