use Rattle.std.proofs.Common.{◌≡◌, ◌++◌, length}
use Rattle.linear_use.proofs.spent.Spent.put_back.Given as goal

abbrev pub invariant-loop-number : goal.invariant-loop-number
invariant-loop-number l = l.self ++ l.held ≡ l.initial.self ++ l.initial.held

abbrev pub decreases-loop-number : goal.decreases-loop-number
decreases-loop-number l = length l.held
