use Rattle.pause_image.specs.OneFault.{saved_one, no_fault, one_fault}
use Rattle.pause_image.proofs.laws.law_of_faults.Goals as goal

pub returns-clause-one : goal.returns-clause-one
returns-clause-one c = one_fault

pub returns-clause-none : goal.returns-clause-none
returns-clause-none c = no_fault

pub returns-clause-image : goal.returns-clause-image
returns-clause-image c = saved_one
