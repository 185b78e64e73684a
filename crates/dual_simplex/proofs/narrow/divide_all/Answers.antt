use Rattle.std.proofs.Common.{to_z-of_z, w64, FitsSigned, pos, get_or, ◌≡◌, rules, arith}
use Rattle.std.specs.Prelude.{int_div}
use Rattle.dual_simplex.proofs.Cut.{divided_turn}
use Rattle.dual_simplex.proofs.narrow.divide_all.Goals as goal

pub loop-place-preserved : goal.loop-place-preserved
loop-place-preserved c =
    let i = c.loop-place.place in
    let xs = c.loop-place.numbers in
    let fx : FitsSigned w64 (get_or xs i (pos 0)) = search rules in
    let fv : FitsSigned w64 c.quotient.result = record { sfits = c.quotient.type_inv } in
    let e : c.quotient.result ≡ int_div (get_or xs i (pos 0)) (pos c.args.shared) = simp to_z-of_z at c.quotient.ensures in
    simp to_z-of_z (divided_turn c.args.shared xs _ i c.quotient.result (omega arith) e c.loop-place.invariant)
