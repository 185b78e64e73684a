use Rattle.licence.specs.PotentialLaws.{run_paid}
use Rattle.licence.proofs.laws.law_of_potential.Goals as goal

pub returns : goal.returns
returns c = run_paid
