use Rattle.std.proofs.Common.{arith}
use Rattle.grail_code.specs.Code.{func_of}
use Rattle.lp_size.proofs.Further.{params_more}
use Rattle.lp_size.proofs.unknowns.params_count.Goals as goal

pub kinds-preserved : goal.kinds-preserved
kinds-preserved c = record {
  number = omega (arith, c.kinds.invariant.number);
  total = params_more c.args.books.code.now.types (func_of c.args.body.now) c.args.kinds.now c.kinds._kind-index c.kinds.number c.kinds.total _ c.local_count.result c.saturating_add-total.result
      c.kinds-test.true c.kinds.invariant.total c.local_count.ensures c.saturating_add-total.ensures;
}
