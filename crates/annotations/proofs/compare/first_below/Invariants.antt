use Rattle.std.proofs.Common.{◌≡◌, drop}
use Rattle.annotations.specs.Steps.{first_below, wants}
use Rattle.annotations.proofs.compare.first_below.Given as goal

abbrev pub invariant-pairs : goal.invariant-pairs
invariant-pairs l = first_below (wants l.types l.kind) l.rest (drop l.con-index l.con-items) ≡ first_below (wants l.types l.kind) l.left l.right
