use Rattle.cell_machine.specs.theory.Reading.{one_value, cells_few, items_few}
use Rattle.cell_machine.specs.theory.Laying.{argument_cells}
use Rattle.cell_machine.proofs.laws.law_of_words.Goals as goal

pub returns-clause-one_value : goal.returns-clause-one_value
returns-clause-one_value c = λ types cells kind v other word few limits fits fit s t. one_value types cells few limits.each kind v other word fits fit s t

pub returns-clause-few_cells : goal.returns-clause-few_cells
returns-clause-few_cells c = cells_few

pub returns-clause-few_nodes : goal.returns-clause-few_nodes
returns-clause-few_nodes c = λ types cells kind v word limits fits s once. items_few types cells limits.each kind v word fits s once

pub returns-clause-argument_cells : goal.returns-clause-argument_cells
returns-clause-argument_cells c = λ types kinds args limits fits. argument_cells types kinds args limits.each fits
