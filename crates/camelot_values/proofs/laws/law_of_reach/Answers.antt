use Rattle.camelot_values.specs.ReachLaws.{reached_ascends}
use Rattle.camelot_values.proofs.laws.law_of_reach.Goals as goal

pub returns-clause-ascends : goal.returns-clause-ascends
returns-clause-ascends c = reached_ascends
