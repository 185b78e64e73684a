use Rattle.std.proofs.Common.{◌≡◌, drop, map}
use Rattle.camelot_values.specs.Kinds.{constructor_of}
use Rattle.grail_code.specs.Code.{arm_of}
use Rattle.grail_check.specs.Faulting.{arms_have_kinds}
use Rattle.grail_check.proofs.arms.arms_have_kinds.Given as goal

abbrev pub invariant-arms : goal.invariant-arms
invariant-arms l = arms_have_kinds l.locals (map arm_of (drop l.index l.arms)) (map constructor_of (drop l.index l.cons)) ≡ arms_have_kinds l.locals (map arm_of l.arms) (map constructor_of l.cons)
