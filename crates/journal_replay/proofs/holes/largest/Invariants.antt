use Rattle.std.proofs.Common.{◌≡◌, length}
use Rattle.std.specs.Prelude.{max}
use Rattle.hole_list.specs.Placing.{largest}
use Rattle.journal_replay.proofs.holes.largest.Given as goal

abbrev pub invariant-holes : goal.invariant-holes
invariant-holes l = max l.most (largest l.rest) ≡ largest l.holes

abbrev pub decreases-holes : goal.decreases-holes
decreases-holes l = length l.rest
