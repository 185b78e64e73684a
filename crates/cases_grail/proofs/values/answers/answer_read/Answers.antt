use Rattle.grail_code.specs.Code.{code_of}
use Rattle.cases_grail.proofs.Named.{code_named}
use Rattle.cases_grail.proofs.values.answers.answer_read.Goals as goal

pub answer_text-requires-clause-named : goal.answer_text-requires-clause-named
answer_text-requires-clause-named c = code_named (code_of c.in-Ok.code) c.in-Ok.ensures.found.fits

pub answer_fronts-requires-clause-named : goal.answer_fronts-requires-clause-named
answer_fronts-requires-clause-named c = code_named (code_of c.in-Ok.code) c.in-Ok.ensures.found.fits

pub answer_text-requires-in_default-clause-named : goal.answer_text-requires-in_default-clause-named
answer_text-requires-in_default-clause-named c = code_named (code_of c.in-Ok.code) c.in-Ok.ensures.found.fits
