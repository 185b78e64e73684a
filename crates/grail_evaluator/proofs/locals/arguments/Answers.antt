use Rattle.std.proofs.Common.{arith}
use Rattle.grail_evaluator.proofs.LocalLaws.{one_argument_more}
use Rattle.grail_evaluator.proofs.locals.arguments.Goals as goal

pub args-2-preserved : goal.args-2-preserved
args-2-preserved c =
    one_argument_more c.args-2.all.items c.push.new.self.items c.args.args.items c.args-2.place c.in_ok-value.value c.index.result.now (omega arith) c.index.ensures c.in_ok-value.ensures c.in_ok-push.ensures.items c.args-2.invariant
