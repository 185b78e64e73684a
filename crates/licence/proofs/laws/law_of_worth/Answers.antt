use Rattle.licence.specs.PotentialLaws.{place_paid}
use Rattle.licence.proofs.laws.law_of_worth.Goals as goal

pub returns : goal.returns
returns c = place_paid
