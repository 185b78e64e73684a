use Rattle.std.proofs.Common.{to_z-of_z, FitsSigned, pos, ◌≡◌, subst, MatchResult, false, true}
use Rattle.std.specs.Prelude.{int_div}
use Rattle.dual_simplex.specs.Equation.{is_small, mixed}
use mir.Syntax.{w128}
use Rattle.dual_simplex.proofs.arithmetic.mixed_by.Goals as goal

pub returns : goal.returns
returns c =
    let fs = c.ranges.scale in
    let ft = c.ranges.times in
    let fo = c.ranges.own in
    let fu = c.ranges.other in
    let fm : FitsSigned w128 c.mix.result = record { sfits = c.mix.type_inv } in
    let value : c.mix.result ≡ mixed c.args.scale c.args.times c.args.own c.args.other = simp to_z-of_z at c.mix.ensures.value in
    let got = simp to_z-of_z at c.narrowed_by.ensures in
    subst (λ x. MatchResult c.narrowed_by.result (λ n. (n ≡ int_div x (pos c.args.shared)) × (is_small n ≡ true)) (λ _. is_small (int_div x (pos c.args.shared)) ≡ false)) value got
