use Rattle.std.proofs.Common.{length, map}
use Rattle.grail_code.specs.Code.{code_of, func_of}
use Rattle.certificate.specs.Words.{make_of}
use Rattle.certificate_fit.proofs.Walking.{Looked}
use Rattle.certificate_fit.proofs.lines.makes_fit.Given as goal

abbrev pub invariant-makes : goal.invariant-makes
invariant-makes l = Looked (code_of l.code) (func_of l.func) l.number (map make_of l.rest) (map make_of l.makes)

abbrev pub decreases-makes : goal.decreases-makes
decreases-makes l = length l.rest
