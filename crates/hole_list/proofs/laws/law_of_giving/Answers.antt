use Rattle.hole_list.specs.PlacingLaws.{give_times, give_total}
use Rattle.hole_list.proofs.laws.law_of_giving.Goals as goal

pub returns-clause-cells : goal.returns-clause-cells
returns-clause-cells c = give_times

pub returns-clause-sum : goal.returns-clause-sum
returns-clause-sum c = give_total
