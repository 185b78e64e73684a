-- A tree of the grammar stands for a program of this form.
use Rattle.camelot_grammar.proofs.ShapeLemmas.{program_whole}
use Rattle.camelot_grammar.proofs.TokenLemmas.{program_named, program_ints}
use Rattle.camelot_grammar.proofs.laws.tokens_give_form.Goals as goal

pub returns-clause-whole : goal.returns-clause-whole
returns-clause-whole c = program_whole

pub returns-clause-named : goal.returns-clause-named
returns-clause-named c = program_named

pub returns-clause-ints : goal.returns-clause-ints
returns-clause-ints c = program_ints
