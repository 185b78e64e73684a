use Rattle.std.proofs.Common.{arith, ap}
use Rattle.camelot_values.specs.Search.{passes}
use Rattle.camelot_values.proofs.ReachSteps.{one_type_more, few_cons}
use Rattle.camelot_values.proofs.kinds.Types.passing.Goals as goal

pub loop-number-preserved : goal.loop-number-preserved
loop-number-preserved c = record {
  all = one_type_more (passes c.args.self.now c.args.first) c.defs-def-items.result.now c.loop-number.number c.loop-number.next c.len-count.result c.def-item.result c.passes.result c.loop-number.found.items
      c.push_where.new.found.items _ c.loop-number-test.true c.def-item.is c.len-count.ensures c.passes.ensures c.in_ok-push_where.ensures c.loop-number.invariant.all;
  few =
      let k = few_cons c.defs-def-items.result.now c.args.self.now c.loop-number.number c.def-item.result c.loop-number-test.true c.defs-def-items.ensures c.limits.ensures in
      omega (arith, k, c.len-count.ensures, ap (λ t. t.cons.len) c.def-item.is, c.loop-number.invariant.few);
}
