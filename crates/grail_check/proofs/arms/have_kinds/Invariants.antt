use Rattle.std.proofs.Common.{◌≡◌, drop}
use Rattle.grail_check.specs.Faulting.{have_kinds}
use Rattle.grail_check.proofs.arms.have_kinds.Given as goal

abbrev pub invariant-fields : goal.invariant-fields
invariant-fields l = have_kinds l.locals (drop l.index l.fields) (drop l.index l.kinds) ≡ have_kinds l.locals l.fields l.kinds
