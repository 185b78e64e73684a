-- The machine answers what the definitions say.
use Rattle.camelot_grammar.proofs.Place.{yes_is_program, program_yes}
use Rattle.camelot_grammar.proofs.AnswerLemmas.{answer_among, among_answer}
use Rattle.camelot_grammar.proofs.laws.answers_of_the_machine.Goals as goal

pub returns-clause-program : goal.returns-clause-program
returns-clause-program c = yes_is_program

pub returns-clause-takes : goal.returns-clause-takes
returns-clause-takes c = program_yes

pub returns-clause-fault : goal.returns-clause-fault
returns-clause-fault c = answer_among

pub returns-clause-refuses : goal.returns-clause-refuses
returns-clause-refuses c = among_answer
