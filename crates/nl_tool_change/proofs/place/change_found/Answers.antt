use Rattle.std.proofs.Common.{subst}
use Rattle.std.specs.Prelude.{Result}
use Rattle.nl_tool_texts.specs.declared.fault.ToolFault.{ToolFault}
use Rattle.nl_tool_change.specs.Calls.{ChangesLog}
use Rattle.nl_tool_change.specs.Seen.{seen_of}
use Rattle.nl_tool_change.proofs.SeenLemmas.{answered_so, changed_as}
use Rattle.nl_tool_change.proofs.place.change_found.Goals as goal

pub returns-clause-call : goal.returns-clause-call
returns-clause-call g c = λ free.
    let from = seen_of c.new-log.result in
    let to = seen_of c.change.new.self in
    changed_as from to c.new-log.ensures.version c.change.ensures.version c.new-log.ensures.begins c.into_parts.ensures.hands free
    (subst (λ (r : Result (Unit {0}) ToolFault). ChangesLog (g.C.Change.meaning c.args.change.now) r from.view.folder to.view.folder)
    (answered_so c.change.result c.map_err-result.result c.map_err-result.ensures.cases) c.change.ensures.call)
