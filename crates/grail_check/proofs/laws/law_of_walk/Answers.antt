use Rattle.grail_check.proofs.WalkLaws.{well_formed_passes}
use Rattle.grail_check.proofs.laws.law_of_walk.Goals as goal

pub returns-clause-passes : goal.returns-clause-passes
returns-clause-passes c = well_formed_passes
