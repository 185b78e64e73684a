use Rattle.std.proofs.Common.{◌≡◌, drop, map}
use Rattle.camelot_values.specs.Kinds.{constructor_of}
use Rattle.grail_code.specs.Code.{arm_of}
use Rattle.grail_check.specs.Faulting.{fields_count}
use Rattle.grail_check.proofs.arms.fields_count.Given as goal

abbrev pub invariant-arms : goal.invariant-arms
invariant-arms l = fields_count (map arm_of (drop l.index l.arms)) (map constructor_of (drop l.index l.cons)) ≡ fields_count (map arm_of l.arms) (map constructor_of l.cons)
