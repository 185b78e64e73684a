use Rattle.std.proofs.Common.{◌≡◌, length}
use Rattle.annotations.specs.Steps.{pairs_from}
use Rattle.annotations.proofs.compare.pairs_from.Given as goal

abbrev pub invariant-pairs : goal.invariant-pairs
invariant-pairs l = pairs_from l.con l.rest ≡ pairs_from l.con l.pairs

abbrev pub decreases-pairs : goal.decreases-pairs
decreases-pairs l = length l.rest
