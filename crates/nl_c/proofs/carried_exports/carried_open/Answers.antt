-- What was taken is what was loaded.
use Rattle.std.proofs.Common.{◌≡◌, rules, subst}
use Rattle.std.specs.Prelude.{Option, Some, IsSomeAnd}
use Rattle.nl_c.specs.Held.{loaded_in}
use Rattle.nl_c.specs.LoadedLogs.{IsLoadedAs}
use Rattle.nl_c.specs.declared.loaded_log.LoadedLog.{LoadedLog}
use Rattle.nl_c.proofs.carried_exports.carried_open.Goals.{in-Carried, in_default-as_mut}
use Rattle.nl_c.proofs.carried_exports.carried_open.Goals as goal

pub returns-clause-call : goal.returns-clause-call
returns-clause-call c asked bytes is =
    let kept = c.args.found.now.kept.log in
    let there : loaded_in kept ≡ Some c.in-Some-Loaded.log = search rules in
    let loaded : IsLoadedAs asked bytes c.in-Some-Loaded.log = subst (λ (o : Option LoadedLog). IsSomeAnd o (IsLoadedAs asked bytes)) there is in
    elim c.match-as_mut.branch [
      | in_default-as_mut w ↦ search rules
      | in-Carried w ↦ search (rules, w.open-answer.ensures asked bytes loaded)
    ]
