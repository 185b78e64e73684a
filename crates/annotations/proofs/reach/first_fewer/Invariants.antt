use Rattle.std.proofs.Common.{◌≡◌, drop}
use Rattle.annotations.specs.Steps.{first_below}
use Rattle.annotations.specs.Tables.{is_in}
use Rattle.annotations.proofs.reach.first_fewer.Given as goal

abbrev pub invariant-pairs : goal.invariant-pairs
invariant-pairs l = first_below (is_in l.table l.kind) l.rest (drop l.con-index l.con-items) ≡ first_below (is_in l.table l.kind) l.left l.right
