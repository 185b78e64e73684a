use Rattle.cell_machine.specs.Ahead.{licensed_annotated, balanced_within, balanced_on_course}
use Rattle.cell_machine.proofs.laws.law_of_balance.Goals as goal

pub returns-clause-licensed : goal.returns-clause-licensed
returns-clause-licensed c = licensed_annotated

pub returns-clause-within : goal.returns-clause-within
returns-clause-within c = balanced_within

pub returns-clause-course : goal.returns-clause-course
returns-clause-course c = balanced_on_course
