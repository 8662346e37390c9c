use Rattle.std.proofs.Common.{◌<◌, ◌∙◌, ap, sym, arith, length}
use Rattle.nl_tool_print.proofs.OutputLemmas.{entry_there}
use Rattle.nl_tool_doubt.proofs.TableLemmas.{one_looked}
use Rattle.nl_tool_doubt.proofs.files.look_all.Goals as goal
use Rattle.nl_tool_doubt.proofs.files.look_all.Goals.{in-Some+in_ok-push, in_default}

pub loop-place-preserved : goal.loop-place-preserved
loop-place-preserved g c =
    let table = c.args.table.now in
    let place = c.loop-place.place in
    let states = g.F.OutputFiles.states c.args.files.now in
    elim c.match-at.branch [
      | in-Some+in_ok-push w ↦
          one_looked table place (record { entry = w.in-Some.entry; file = w.look-file.result }) states c.loop-place.looked.items c.match-at.looked.items (sym w.in-Some.ensures)
          c.loop-place.invariant (rw w.name.ensures.value at w.look-file.ensures.known) (ap (λ v. v.items) w.looked-is ∙ w.in_ok-push.ensures.items)
      | in_default w ↦
          let there : place < length table = omega (arith, c.len-place-end.ensures.count) in
          absurd (entry_there table place there (sym w.in_default.ensures))
    ]
