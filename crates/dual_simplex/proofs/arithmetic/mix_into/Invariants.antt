use Rattle.std.proofs.Common.{◌≡◌, drop, take, ◌++◌, true}
use Rattle.std.specs.List.{list_all}
use Rattle.dual_simplex.specs.Equation.{is_small}
use Rattle.dual_simplex.proofs.Loops.{mixed_divided}
use Rattle.dual_simplex.proofs.arithmetic.mix_into.Given as goal

abbrev pub invariant-loop-place : goal.invariant-loop-place
invariant-loop-place l = record {
  value : take l.place l.owns ++ mixed_divided l.scale l.times l.shared (drop l.place l.owns) (drop l.place l.others) ≡ mixed_divided l.scale l.times l.shared l.initial.owns l.others;
  small : list_all is_small (take l.place l.owns) ≡ true;
}
