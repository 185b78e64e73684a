use Rattle.std.proofs.Common.{◌≡◌, take, map}
use Rattle.std.specs.Prelude.{flat_map}
use Rattle.grail_code.specs.Code.{arm_of}
use Rattle.grail_code.specs.WellFormed.{looked_by}
use Rattle.grail_check.specs.Marked.{mark_all}
use Rattle.grail_check.proofs.lent.mark_arms.Given as goal

abbrev pub invariant-arms : goal.invariant-arms
invariant-arms l = l.reads ≡ mark_all l.initial.reads (flat_map (λ a. looked_by a.cell a.fields) (map arm_of (take l.arm-index l.arms)))
