use Rattle.std.proofs.Common.{◌≡◌, drop, map}
use Rattle.std.specs.Prelude.{nat_lt}
use Rattle.std.specs.List.{list_all}
use Rattle.grail_code.specs.Code.{arm_of}
use Rattle.grail_check.proofs.arms.arms_go_on.Given as goal

abbrev pub invariant-arms : goal.invariant-arms
invariant-arms l = list_all (λ a. nat_lt l.number a.target) (map arm_of (drop l.arm-index l.arms)) ≡ list_all (λ a. nat_lt l.number a.target) (map arm_of l.arms)
