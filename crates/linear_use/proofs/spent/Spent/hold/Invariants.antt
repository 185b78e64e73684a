use Rattle.std.proofs.Common.{◌≡◌, ◌++◌, length, take, drop}
use Rattle.linear_use.proofs.spent.Spent.hold.Given as goal

abbrev pub invariant-loop-self : goal.invariant-loop-self
invariant-loop-self l = record {
  left : take l.len l.self ≡ take l.len l.initial.self;
  taken : drop l.len l.self ++ l.held ≡ drop l.len l.initial.self ++ l.initial.held;
}

abbrev pub decreases-loop-self : goal.decreases-loop-self
decreases-loop-self l = length l.self
