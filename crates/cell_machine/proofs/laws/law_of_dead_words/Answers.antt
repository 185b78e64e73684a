use Rattle.cell_machine.specs.MachineLaws.{step_live}
use Rattle.cell_machine.proofs.laws.law_of_dead_words.Goals as goal

pub returns : goal.returns
returns c = step_live
