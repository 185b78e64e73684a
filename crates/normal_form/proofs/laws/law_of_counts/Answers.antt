use Rattle.std.proofs.Common.{length}
use Rattle.camelot_typing.specs.Kinds.{numbered}
use Rattle.camelot_typing.specs.Typing.{params_scope}
use Rattle.normal_form.proofs.Lengths.{blocks_counted, locals_counted}
use Rattle.normal_form.proofs.laws.law_of_counts.Goals as goal

pub returns-clause-locals : goal.returns-clause-locals
returns-clause-locals c = λ t f s fit. locals_counted t.source t.signatures (params_scope f.params s.params) f.body s.result fit.body

pub returns-clause-blocks : goal.returns-clause-blocks
returns-clause-blocks c = λ t f s. blocks_counted t.source f.body (params_scope f.params (numbered 0 f.params)) (length f.params) 0
