use Rattle.std.proofs.Common.{◌≡◌, ◌++◌, length}
use Rattle.lp_solution.specs.Taking.{vector_from, behind}
use Rattle.lp_solution.proofs.values.Values.vector.Given as goal

abbrev pub invariant-cons : goal.invariant-cons
invariant-cons l = record {
  value : l.pairs.items ++ vector_from l.rest l.self ≡ vector_from l.fn.cons l.fn.self;
  left : behind l.rest l.self ≡ behind l.fn.cons l.fn.self;
}

abbrev pub decreases-cons : goal.decreases-cons
decreases-cons l = length l.rest
