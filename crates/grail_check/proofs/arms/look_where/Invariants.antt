use Rattle.std.proofs.Common.{◌≡◌, drop, map}
use Rattle.camelot_values.specs.Kinds.{constructor_of}
use Rattle.grail_code.specs.Code.{arm_of}
use Rattle.grail_check.specs.Faulting.{look_where}
use Rattle.grail_check.proofs.arms.look_where.Given as goal

abbrev pub invariant-arms : goal.invariant-arms
invariant-arms l = look_where l.lent (map arm_of (drop l.index l.arms)) (map constructor_of (drop l.index l.cons)) ≡ look_where l.lent (map arm_of l.arms) (map constructor_of l.cons)
