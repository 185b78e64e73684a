use Rattle.pause_image.specs.SliceLaws.{lends_same}
use Rattle.pause_image.proofs.laws.law_of_lenders.Goals as goal

pub returns : goal.returns
returns c = lends_same
