use Rattle.cell_machine.specs.MachineLaws.{step_wide}
use Rattle.cell_machine.proofs.laws.law_of_longer_lists.Goals as goal

pub returns : goal.returns
returns c = step_wide
