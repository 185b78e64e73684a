use Rattle.std.proofs.Common.{◌≤◌, to_z-of_z, pos, get_or, unsigned_abs, w64, FitsSigned, rules, arith}
use Rattle.std.proofs.lemmas.Nat.{le_or_l, le_or_r}
use Rattle.dual_simplex.proofs.Cut.{bound_turn}
use Rattle.dual_simplex.proofs.Loops.{all_done}
use Rattle.dual_simplex.proofs.narrow.bound_of.Goals as goal

pub loop-number-preserved : goal.loop-number-preserved
loop-number-preserved c =
    let i = c.loop-number.number-index in
    let xs = c.args.numbers.now in
    let fx : FitsSigned w64 (get_or xs i (pos 0)) = search rules in
    let size = simp to_z-of_z at c.unsigned_abs-bits.ensures.value in
    let high = le_or_r c.loop-number.bits c.unsigned_abs-bits.result in
    bound_turn xs i c.loop-number.bits _ c.loop-number-test.true (le_or_l c.loop-number.bits c.unsigned_abs-bits.result) (omega (arith, size, high)) c.loop-number.invariant

pub returns : goal.returns
returns c = all_done (λ x. unsigned_abs x ≤ c.loop-number.bits) c.args.numbers.now c.loop-number.number-index c.loop-number-test.false c.loop-number.invariant
