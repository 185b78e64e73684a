use Rattle.grail_code.specs.Code.{code_of}
use Rattle.certificate_fit.proofs.Functions.{RightBelow}
use Rattle.certificate_fit.proofs.fit.find_misfit.Given as goal

abbrev pub invariant-funcs : goal.invariant-funcs
invariant-funcs l = RightBelow (code_of l.code) l.cert l.func
