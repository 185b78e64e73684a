use Rattle.std.proofs.Common.{◌≡◌, ◌≤◌, refl, arith, rules, to_z, w32}
use Rattle.std.specs.Prelude.{pos}
use Rattle.value_text.proofs.PartSteps.{plain_here}
use Rattle.value_text.proofs.ints.plain_part.Goals as goal

pub returns-then-first-eq44 : goal.returns-then-first-eq44
returns-then-first-eq44 c =
    let small : c.in-Some.found.0 ≤ 2147483647 = omega (arith, c.if-value-gt2147483647.false) in
    let same : to_z w32 c.in-Some.found.0 ≡ pos c.in-Some.found.0 = search rules in
    plain_here c.args.text.now _ _ c.in-Some.found.0 c.in-Some.found.1 _ _ c.in-Some.ensures small refl c.in-len1-up.len_at_least refl c.if-first-eq44.true refl same
