use Rattle.std.proofs.Common.{◌≤◌, refl, arith}
use Rattle.value_text.proofs.PartSteps.{below_kept}
use Rattle.value_text.proofs.ints.front_minus.Goals as goal

pub returns-then-ends : goal.returns-then-ends
returns-then-ends c =
    let small : c.in-Some.found.0 ≤ 2147483648 = omega (arith, c.if-value-gt2147483648.false) in
    below_kept c.args.digits.now _ c.in-Some.found.0 c.in-Some.found.1 c.negated.result c.in-Some.ensures small refl (c.ends.ensures c.if-ends.true) c.negated.ensures
