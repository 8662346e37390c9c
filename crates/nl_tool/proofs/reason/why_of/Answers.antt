use Rattle.std.proofs.Common.{◌∙◌, refl, sym}
use Rattle.std.proofs.lemmas.Option.{IfSome_then}
use Rattle.nl_tool.proofs.reason.why_of.Goals as goal

pub returns-in-BadLine-clause-why : goal.returns-in-BadLine-clause-why
returns-in-BadLine-clause-why c =
    rw c.in-BadLine.is (IfSome_then c.at.result c.at.ensures.value
    (λ why is. (sym c.read_place.ensures ∙ is.0, rw is.1 (refl, refl))))
