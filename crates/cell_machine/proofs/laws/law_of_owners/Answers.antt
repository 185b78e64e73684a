use Rattle.cell_machine.proofs.OwnerLaws.{never_two, never_twice, never_free, never_lent}
use Rattle.cell_machine.proofs.laws.law_of_owners.Goals as goal

pub returns-clause-two : goal.returns-clause-two
returns-clause-two c = λ program s types two sound. never_two program s types.each two sound

pub returns-clause-twice : goal.returns-clause-twice
returns-clause-twice c = λ program s types twice sound. never_twice program s types.each twice sound

pub returns-clause-free : goal.returns-clause-free
returns-clause-free c = λ program s types free sound. never_free program s types.each free sound

pub returns-clause-loans : goal.returns-clause-loans
returns-clause-loans c = λ program s types loan sound. never_lent program s types.each loan sound
