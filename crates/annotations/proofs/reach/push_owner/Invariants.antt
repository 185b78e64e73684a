use Rattle.std.proofs.Common.{◌≡◌, ◌++◌, replicate}
use Rattle.annotations.proofs.reach.push_owner.Given as goal

abbrev pub invariant-cons : goal.invariant-cons
invariant-cons l = l.owners.items ≡ l.initial.owners.items ++ replicate l._con l.number
