use Rattle.nl_folder.proofs.ImageLemmas.{one_prefix_image, prefix-IsImage, whole_lines, durable_disk_unique}
use Rattle.nl_folder.proofs.laws.images_of_a_disk.Goals as goal

pub returns-clause-lines : goal.returns-clause-lines
returns-clause-lines c = whole_lines

pub returns-clause-prefix : goal.returns-clause-prefix
returns-clause-prefix c = prefix-IsImage

pub returns-clause-one : goal.returns-clause-one
returns-clause-one c = one_prefix_image

pub returns-clause-durable : goal.returns-clause-durable
returns-clause-durable c = durable_disk_unique
