use Rattle.std.proofs.Common.{map, refl}
use Rattle.grail_code.specs.Code.{code_of, func_of}
use Rattle.certificate.specs.Words.{make_of}
use Rattle.certificate_fit.proofs.Walking.{stop_exit}
use Rattle.certificate_fit.proofs.lines.makes_fit.Goals as goal

pub returns-then-line-number : goal.returns-then-line-number
returns-then-line-number c =
    (λ e. stop_exit make_of (code_of c.args.code.now) (func_of c.args.func.now) c.args.number c.makes.rest.now c.line-item.result (map make_of c.args.makes.now) c.makes.invariant c.in-len1-up.len_at_least c.line-item.is c.if-line-number.true, λ h. refl)
