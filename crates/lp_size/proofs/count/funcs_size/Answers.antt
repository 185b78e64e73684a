use Rattle.std.proofs.Common.{arith}
use Rattle.grail_code.specs.Code.{code_of}
use Rattle.lp_size.proofs.Further.{count_more, rows_more}
use Rattle.lp_size.proofs.count.funcs_size.Goals as goal

pub walk-preserved : goal.walk-preserved
walk-preserved c = record {
  number = omega (arith, c.walk.invariant.number);
  unknowns =
      count_more c.args.books.code.now.types c.args.funcs.now c.walk.func-index c.walk.unknowns _ c.func-item.result c.func_count.result c.saturating_add-unknowns.result
      c.walk-test.true c.func-item.is c.walk.invariant.unknowns c.func_count.ensures c.saturating_add-unknowns.ensures;
  rows =
      rows_more (code_of c.args.books.code.now) c.args.funcs.now c.walk.func-index c.walk.number c.walk.rows _ c.func-item.result c.func_rows.result c.saturating_add-rows.result
      c.walk-test.true c.func-item.is c.walk.invariant.rows c.func_rows.ensures c.saturating_add-rows.ensures;
}
