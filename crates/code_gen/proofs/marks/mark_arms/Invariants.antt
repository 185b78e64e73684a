use Rattle.std.proofs.Common.{◌≤◌, length, map, drop}
use Rattle.grail_blocks.specs.Blocks.{arm_of}
use Rattle.normal_form.specs.Live.{Marks}
use Rattle.code_gen.specs.Marked.{IsMarked, arms_live, either_live, told}
use Rattle.code_gen.proofs.marks.mark_arms.Given as goal

abbrev pub invariant-loop-left : goal.invariant-loop-left
invariant-loop-left l = record {
  within : l.left ≤ length l.arms;
  marked : (live : Marks) → IsMarked l.initial.marks live
      → IsMarked l.marks (either_live (arms_live (told l.later l.count) (map arm_of (drop l.left l.arms))) live);
}

abbrev pub decreases-loop-left : goal.decreases-loop-left
decreases-loop-left l = l.left
