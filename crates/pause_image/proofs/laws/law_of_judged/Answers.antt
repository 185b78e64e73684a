use Rattle.pause_image.specs.JudgedLaws.{judged_goes_on}
use Rattle.pause_image.proofs.laws.law_of_judged.Goals as goal

pub returns : goal.returns
returns c = judged_goes_on
