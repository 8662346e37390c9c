use Rattle.std.proofs.Common.{◌≡◌, ◌∙◌, ap, arith, subst, sym}
use Rattle.std.proofs.lemmas.List.{take_all}
use Rattle.nl_table.specs.Table.{each_once}
use Rattle.nl_table.specs.declared.log_user.KeepList.{KeepList}
use Rattle.nl_tool_change.specs.Deeds.{IsDeadBut}
use Rattle.nl_tool_change.proofs.DeedLemmas.{same_dead}
use Rattle.nl_tool_change.proofs.asked.kept_by.Goals as goal

pub returns-clause-value : goal.returns-clause-value
returns-clause-value c =
    let set = c.loop-name.set in
    let items = c.deref-name-items.result.now in
    let all : set ≡ each_once items = c.loop-name.invariant ∙ ap each_once (take_all c.loop-name.name-index items (omega arith)) in
    subst (λ (keep : KeepList). IsDeadBut set keep) (sym c.in-Only.is)
    (same_dead set c.in-Only.names.items (all ∙ ap each_once c.deref-name-items.ensures.value))
