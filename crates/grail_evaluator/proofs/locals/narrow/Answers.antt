use Rattle.std.proofs.Common.{arith}
use Rattle.grail_evaluator.proofs.LocalLaws.{kept_more, kept_end}
use Rattle.grail_evaluator.proofs.locals.narrow.Goals as goal

pub locals-preserved : goal.locals-preserved
locals-preserved c = kept_more c.args.params.now c.args.env.now c.locals.all.items c.keep.new.all.items c.locals.bound-index c.bound-item.result _ (omega arith) c.bound-item.is c.in_ok-keep.ensures c.locals.invariant

pub returns : goal.returns
returns c = kept_end c.args.params.now c.args.env.now c.locals.all.items c.locals.bound-index (omega arith) c.locals.invariant
