use Rattle.std.proofs.Common.{subst}
use Rattle.std.specs.Prelude.{Result}
use Rattle.nl_tool_texts.specs.declared.fault.ToolFault.{ToolFault}
use Rattle.nl_tool_change.specs.Mending.{MendsLog}
use Rattle.nl_tool_change.specs.Seen.{seen_of}
use Rattle.nl_tool_change.proofs.SeenLemmas.{answered_so}
use Rattle.nl_tool_change.proofs.MendLemmas.{mended_as, mended_so}
use Rattle.nl_tool_change.proofs.place.mend_on.Goals as goal

pub returns-clause-call : goal.returns-clause-call
returns-clause-call g c = λ free.
    let from = seen_of c.new-seen.result in
    let to = seen_of c.mend.new.self in
    mended_as from to c.new-seen.ensures.version c.mend.ensures.version c.new-seen.ensures.begins c.into_parts.ensures.hands free
    (subst (λ (r : Result (Unit {0}) ToolFault). MendsLog c.args.names.now r from.view.folder to.view.folder)
    (answered_so c.mend.result c.map_err-result.result c.map_err-result.ensures.cases)
    (mended_so c.mend.result c.new-seen.ensures.begins.closed c.mend.ensures.call))
