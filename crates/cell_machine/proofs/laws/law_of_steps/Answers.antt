use Rattle.cell_machine.specs.MachineLaws.{step_goes, begins_on_course}
use Rattle.cell_machine.specs.theory.Stepping.{few_counters}
use Rattle.cell_machine.proofs.laws.law_of_steps.Goals as goal

pub returns-clause-step : goal.returns-clause-step
returns-clause-step c = step_goes

pub returns-clause-begun : goal.returns-clause-begun
returns-clause-begun c = begins_on_course

pub returns-clause-counters : goal.returns-clause-counters
returns-clause-counters c = few_counters
