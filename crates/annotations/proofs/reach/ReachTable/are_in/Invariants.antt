use Rattle.std.proofs.Common.{◌↔◌, length}
use Rattle.annotations.specs.Tables.{AreIn}
use Rattle.annotations.proofs.reach.ReachTable.are_in.Given as goal

abbrev pub invariant-pairs : goal.invariant-pairs
invariant-pairs l = AreIn l.fn.self l.kind l.rest ↔ AreIn l.fn.self l.kind l.vector

abbrev pub decreases-pairs : goal.decreases-pairs
decreases-pairs l = length l.rest
