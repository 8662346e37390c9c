use Rattle.nl_builds.proofs.LawLemmas.{borders_sure, builds_modest, falls_sure, same_sure}
use Rattle.nl_builds.proofs.laws.a_sure_build_has_sure_borders.Goals as goal

pub returns-clause-borders : goal.returns-clause-borders
returns-clause-borders c = borders_sure

pub returns-clause-again : goal.returns-clause-again
returns-clause-again c = builds_modest

pub returns-clause-falls : goal.returns-clause-falls
returns-clause-falls c = falls_sure

pub returns-clause-same : goal.returns-clause-same
returns-clause-same c = same_sure
