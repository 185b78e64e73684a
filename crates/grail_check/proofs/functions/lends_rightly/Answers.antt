use Rattle.std.proofs.Common.{sym, ◌∙◌, arith}
use Rattle.grail_code.specs.Code.{func_of}
use Rattle.grail_check.specs.Faulting.{lends_rightly}
use Rattle.grail_check.proofs.LentLaws.{params_fail}
use Rattle.grail_check.proofs.functions.lends_rightly.Goals as goal

pub returns-then-not-param_lends : goal.returns-then-not-param_lends
returns-then-not-param_lends c = params_fail c.args.types.now (func_of c.args.func.now) c.params.number (lends_rightly c.args.types.now (func_of c.args.func.now))
    (omega (arith, c.params-test.true, c.params.auto.number-end, c.len-number-end.ensures)) (sym c.param_lends.ensures ∙ c.if-not-param_lends.true) c.params.invariant
