use Rattle.std.proofs.Common.{map, arith}
use Rattle.lp_rows.specs.Plain.{plain}
use Rattle.lp_rows.proofs.Turns.{func_turn}
use Rattle.lp_rows.proofs.listing.unknowns.Goals as goal

pub funcs-preserved : goal.funcs-preserved
funcs-preserved c = record {
  number = omega (arith, c.funcs.invariant.number);
  all = func_turn c.args.code.now.types c.deref-func-items.result.now c.args.code.now.funcs.items c.funcs.func-index c.funcs.number c.func-item.result (map plain c.funcs.list.items) (map plain c.push_func.new.list.items) _ c.deref-func-items.ensures.value c.funcs-test.true c.func-item.is
      c.funcs.invariant.all c.in_ok-push_func.ensures;
}
