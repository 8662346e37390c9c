use Rattle.nl_lines.proofs.LinesLemmas.{TakesLine-text_left, TakesRest-text_left}
use Rattle.nl_lines.proofs.laws.lines_are_given_in_order.Goals as goal

pub returns-clause-line : goal.returns-clause-line
returns-clause-line c old a new b line text takes is =
    let left = TakesLine-text_left old a new b line takes text is in
    (left.0, left.1, left.3, left.4)

pub returns-clause-rest : goal.returns-clause-rest
returns-clause-rest c old a new b rest text takes is =
    let left = TakesRest-text_left old a new b rest takes text is in
    (left.1, left.2)
