use Rattle.nl_c.specs.Changes.{file_steps, replace}
use Rattle.nl_c.proofs.StepLemmas.{unlocked}
use Rattle.nl_c.proofs.RewritingLemmas.{old_or_text, end_left}
use Rattle.nl_c.proofs.laws.a_rewriting_leaves_the_old_or_the_new.Goals as goal

pub returns-clause-rewriting : goal.returns-clause-rewriting
returns-clause-rewriting c = λ old new text bs honest left image.
    old_or_text text old honest new (unlocked (file_steps replace old.visible text) old new left) bs image

pub returns-clause-end : goal.returns-clause-end
returns-clause-end c = λ ending is_shared old new left. end_left ending is_shared old new left
