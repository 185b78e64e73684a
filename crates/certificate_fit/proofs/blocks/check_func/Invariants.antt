use Rattle.std.proofs.Common.{map}
use Rattle.grail_code.specs.Code.{code_of, func_of}
use Rattle.certificate.specs.Words as words
use Rattle.certificate_fit.proofs.Order.{Walked}
use Rattle.certificate_fit.proofs.blocks.check_func.Given as goal

abbrev pub invariant-walk : goal.invariant-walk
invariant-walk l = Walked (code_of l.code) (func_of l.func) (words.func_of l.cert) l.number (map words.block_of l.lines) (map words.make_of l.makes)
