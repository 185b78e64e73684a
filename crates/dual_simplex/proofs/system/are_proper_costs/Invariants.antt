use Rattle.std.proofs.Common.{take, ◌≤◌, ◌^◌, pos, unsigned_abs}
use Rattle.std.specs.Prelude.{All, ◌≤ℤ◌}
use Rattle.dual_simplex.proofs.system.are_proper_costs.Given as goal

abbrev pub invariant-loop-cost : goal.invariant-loop-cost
invariant-loop-cost l = All (λ cost. (pos 0 ≤ℤ cost) × (unsigned_abs cost ≤ 2 ^ 31)) (take l.cost-index l.costs)
