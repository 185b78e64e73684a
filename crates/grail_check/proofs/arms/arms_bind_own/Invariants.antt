use Rattle.std.proofs.Common.{◌≡◌, drop, map}
use Rattle.std.specs.List.{list_all}
use Rattle.grail_code.specs.Code.{arm_of}
use Rattle.grail_code.specs.WellFormed.{bound_anew, bound_by}
use Rattle.grail_check.specs.Faulting.{are_not_lent}
use Rattle.grail_check.proofs.arms.arms_bind_own.Given as goal

abbrev pub invariant-arms : goal.invariant-arms
invariant-arms l = list_all (λ a. are_not_lent l.locals (bound_anew a.cell (bound_by a))) (map arm_of (drop l.arm-index l.arms)) ≡ list_all (λ a. are_not_lent l.locals (bound_anew a.cell (bound_by a))) (map arm_of l.arms)
