use Rattle.std.proofs.Common.{◌≡◌, ◌++◌, drop}
use Rattle.grail_code.specs.WellFormed.{kept_diamond}
use Rattle.grail_check.specs.Faulting.{are_distinct}
use Rattle.grail_check.proofs.arms.binds_once.Given as goal

abbrev pub invariant-fields : goal.invariant-fields
invariant-fields l = are_distinct (drop l.index l.fields ++ kept_diamond l.cell) ≡ are_distinct (l.fields ++ kept_diamond l.cell)
