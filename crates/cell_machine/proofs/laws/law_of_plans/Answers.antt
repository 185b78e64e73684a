use Rattle.cell_machine.specs.PlanLaws.{runs_as_planned}
use Rattle.cell_machine.proofs.laws.law_of_plans.Goals as goal

pub returns : goal.returns
returns c = runs_as_planned
