use Rattle.machine_image.specs.ImageLaws.{images_judged, image_faults_one, images_one}
use Rattle.machine_image.proofs.laws.law_of_images.Goals as goal

pub returns-clause-judged : goal.returns-clause-judged
returns-clause-judged c = images_judged

pub returns-clause-faults : goal.returns-clause-faults
returns-clause-faults c = image_faults_one

pub returns-clause-images : goal.returns-clause-images
returns-clause-images c = images_one
