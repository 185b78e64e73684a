use Rattle.pause_image.specs.KeptLaws.{same_again}
use Rattle.pause_image.specs.KeepingLaws.{kept_goes_on, kept_agrees}
use Rattle.pause_image.proofs.laws.law_of_kept.Goals as goal

pub returns-clause-same : goal.returns-clause-same
returns-clause-same c = same_again

pub returns-clause-goes_on : goal.returns-clause-goes_on
returns-clause-goes_on c = kept_goes_on

pub returns-clause-agrees : goal.returns-clause-agrees
returns-clause-agrees c = kept_agrees
