use Rattle.nl_files.proofs.ImageLemmas.{system_image}
use Rattle.nl_files.proofs.laws.a_crash_leaves_an_image_of_the_record.Goals as goal

pub returns : goal.returns
returns c = λ m h settled bs covers image. system_image m h bs covers.known image
