use Rattle.std.proofs.Common.{arith}
use Rattle.grail_code.specs.Code.{func_of}
use Rattle.lp_system.proofs.Looks.{looked_all}
use Rattle.lp_system.proofs.lent.looked_in.Goals as goal

pub returns : goal.returns
returns c = looked_all (func_of c.args.func.now) c.mark_looked.new.reads (omega (arith, c.args.func.now.few_params, c.args.func.now.params.ok.0))
    (omega (arith, c.args.func.now.few_locals, c.args.func.now.locals.ok.0)) c.mark_looked.ensures.marked
