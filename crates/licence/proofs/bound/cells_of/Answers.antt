use Rattle.std.proofs.Common.{arith}
use Rattle.licence.proofs.Vectors.{cells_fit, item_got}
use Rattle.licence.proofs.bound.cells_of.Goals as goal

pub overflow_add-total : goal.overflow_add-total
overflow_add-total c =
    let at = item_got c.args.args.now c.each.argument-index c.argument-item.result c.argument-item.result c.each-test.true c.argument-item.is in
    let fit = cells_fit c.args.types.now c.each.total c.each.argument-index c.args.args.now c.argument-item.result at c.each.invariant c.requires.few in
    omega (arith, fit, c.cells-total.ensures)
