use Rattle.std.proofs.Common.{to_z-of_z, w64, FitsSigned, ◌≡◌, rules, ◌∙◌}
use Rattle.std.specs.Prelude.{pos, ◌*ℤ◌}
use Rattle.dual_simplex.proofs.Exact.{exact_is}
use Rattle.dual_simplex.proofs.narrow.quotient.Goals as goal

pub returns-in-Some : goal.returns-in-Some
returns-in-Some c =
    let fg : FitsSigned w64 c.in-Some.guess = search rules in
    let fn = c.ranges.number in
    let e : c.in-Some.guess *ℤ pos c.args.shared ≡ c.args.number = simp to_z-of_z at c.in-Some.ensures in
    to_z-of_z fg ∙ exact_is c.args.shared c.in-Some.guess c.args.number c.requires.positive e
