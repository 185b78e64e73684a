use Rattle.camelot_typing.specs.TypingLaws.{eval_fits, all_fit, calls_fit}
use Rattle.camelot_typing.proofs.laws.law_of_expressions.Goals as goal

pub returns-clause-expression : goal.returns-clause-expression
returns-clause-expression c = λ p sigs enter e s k fuel waits tail env funs entry h i kind. eval_fits p sigs enter funs entry e s k fuel waits tail env h i kind

pub returns-clause-arguments : goal.returns-clause-arguments
returns-clause-arguments c = λ p sigs enter es s kinds fuel waits env funs entry h i kind. all_fit p sigs enter funs entry es s kinds fuel waits env h i kind

pub returns-clause-calls : goal.returns-clause-calls
returns-clause-calls c = λ p sigs limit clock funs ints. calls_fit p sigs funs ints limit clock
