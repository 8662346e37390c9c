use Rattle.std.proofs.Common.{refl}
use Rattle.nl_tool_change.proofs.RepairLemmas.{repairs_plain}
use Rattle.nl_tool_change.proofs.place.AnyLogPlace.change.Goals as goal

pub returns : goal.returns
returns g c =
    let call = (c.change_found.ensures.call (λ d is. refl)).five refl in
    record {
      call = call;
      repairs = λ all. repairs_plain all (g.met.F.Folder.is_disk c.change_found.result.0) call;
      faults = c.change_found.ensures.faults;
    }
