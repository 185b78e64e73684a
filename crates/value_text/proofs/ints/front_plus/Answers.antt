use Rattle.std.proofs.Common.{◌≡◌, ◌≤◌, refl, arith, rules, to_z, w32}
use Rattle.std.specs.Prelude.{pos}
use Rattle.value_text.proofs.Digits.{front_digits}
use Rattle.value_text.proofs.ints.front_plus.Goals as goal

pub returns-then-ends : goal.returns-then-ends
returns-then-ends c =
    let small : c.in-Some.found.0 ≤ 2147483647 = omega (arith, c.if-value-gt2147483647.false) in
    let same : to_z w32 c.in-Some.found.0 ≡ pos c.in-Some.found.0 = search rules in
    front_digits c.args.text.now _ c.in-Some.found.0 c.in-Some.found.1 _ c.in-Some.ensures small refl (c.ends.ensures c.if-ends.true) same
