use Rattle.cell_machine.specs.theory.Begun.{begun_fit}
use Rattle.cell_machine.proofs.laws.law_of_beginnings.Goals as goal

pub returns : goal.returns
returns c = begun_fit
