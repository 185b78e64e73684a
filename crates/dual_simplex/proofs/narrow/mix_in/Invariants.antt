use Rattle.std.proofs.Common.{◌≡◌, drop, take, ◌++◌}
use Rattle.dual_simplex.specs.Equation.{mixed_all}
use Rattle.dual_simplex.proofs.narrow.mix_in.Given as goal

abbrev pub invariant-loop-place : goal.invariant-loop-place
invariant-loop-place l = take l.place l.owns ++ mixed_all l.scale l.times (drop l.place l.owns) (drop l.place l.others) ≡ mixed_all l.scale l.times l.initial.owns l.others
