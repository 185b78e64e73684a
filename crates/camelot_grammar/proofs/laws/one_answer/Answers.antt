-- Tokens have one answer.
use Rattle.camelot_grammar.proofs.LawLemmas.{each_has_one, not_both, one_program, one_fault}
use Rattle.camelot_grammar.proofs.laws.one_answer.Goals as goal

pub returns-clause-some : goal.returns-clause-some
returns-clause-some c = each_has_one

pub returns-clause-not_both : goal.returns-clause-not_both
returns-clause-not_both c = not_both

pub returns-clause-program : goal.returns-clause-program
returns-clause-program c = one_program

pub returns-clause-fault : goal.returns-clause-fault
returns-clause-fault c = one_fault
