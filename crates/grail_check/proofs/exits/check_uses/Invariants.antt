use Rattle.std.proofs.Common.{◌≡◌, ◌++◌, drop}
use Rattle.grail_code.specs.WellFormed.{kept_diamond}
use Rattle.grail_check.specs.Faulting.{uses_fault}
use Rattle.grail_check.proofs.exits.check_uses.Given as goal

abbrev pub invariant-locals : goal.invariant-locals
invariant-locals l = uses_fault l.marks (l.fields ++ kept_diamond l.cell) (drop l.local-index l.locals) ≡ uses_fault l.marks (l.fields ++ kept_diamond l.cell) l.locals
