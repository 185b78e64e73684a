use Rattle.std.proofs.Common.{◌≡◌, drop, map}
use Rattle.std.specs.List.{list_all}
use Rattle.grail_code.specs.Code.{arm_of, func_of}
use Rattle.grail_check.specs.Faulting.{arm_is_there}
use Rattle.grail_check.proofs.arms.arms_are_there.Given as goal

abbrev pub invariant-arms : goal.invariant-arms
invariant-arms l = list_all (arm_is_there (func_of l.func) l.locals) (map arm_of (drop l.arm-index l.arms)) ≡ list_all (arm_is_there (func_of l.func) l.locals) (map arm_of l.arms)
