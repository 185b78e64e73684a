use Rattle.cell_machine.specs.theory.Balanced.{balanced_step}
use Rattle.cell_machine.proofs.laws.law_of_balanced_steps.Goals as goal

pub returns : goal.returns
returns c = balanced_step
