use Rattle.nl_folder.proofs.ImageLemmas.{log_grown-IsPrefixImage}
use Rattle.nl_folder.proofs.laws.a_prefix_image_after_a_call.Goals as goal

pub returns-clause-goes_on : goal.returns-clause-goes_on
returns-clause-goes_on c = log_grown-IsPrefixImage
