use Rattle.std.proofs.Common.{to_z-of_z, arith}
use Rattle.dual_simplex.proofs.Wide.{wider, product_wide, abs_product, small_abs}
use Rattle.dual_simplex.proofs.arithmetic.product.Goals as goal

pub returns-clause-value : goal.returns-clause-value
returns-clause-value c =
    let fa = c.ranges.a in
    let fb = c.ranges.b in
    let ga = wider c.args.a fa in
    let gb = wider c.args.b fb in
    let p = product_wide c.args.a c.args.b fa fb in
    simp to_z-of_z

pub returns-clause-bound : goal.returns-clause-bound
returns-clause-bound c =
    let fa = c.ranges.a in
    let fb = c.ranges.b in
    let ga = wider c.args.a fa in
    let gb = wider c.args.b fb in
    let p = product_wide c.args.a c.args.b fa fb in
    simp to_z-of_z (omega (arith, abs_product c.args.a c.args.b (small_abs c.args.a c.requires) fb))
