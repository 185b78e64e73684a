use Rattle.std.proofs.Common.{◌≡◌, drop, take, map, ◌++◌}
use Rattle.std.specs.Prelude.{int_div, pos}
use Rattle.dual_simplex.proofs.narrow.divide_all.Given as goal

abbrev pub invariant-loop-place : goal.invariant-loop-place
invariant-loop-place l = take l.place l.numbers ++ map (λ x. int_div x (pos l.shared)) (drop l.place l.numbers) ≡ map (λ x. int_div x (pos l.shared)) l.initial.numbers
