use Rattle.std.proofs.Common.{◌≡◌, drop, map}
use Rattle.grail_code.specs.Code.{arm_of, func_of}
use Rattle.grail_check.specs.Faulting.{arms_jump_fault}
use Rattle.grail_check.proofs.exits.check_arm_jumps.Given as goal

abbrev pub invariant-arms : goal.invariant-arms
invariant-arms l = arms_jump_fault (func_of l.body.func.now) l.marks (map arm_of (drop l.arm-index l.arms)) ≡ arms_jump_fault (func_of l.body.func.now) l.marks (map arm_of l.arms)
