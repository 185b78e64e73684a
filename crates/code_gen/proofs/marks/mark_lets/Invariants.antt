use Rattle.std.proofs.Common.{◌≤◌, length, map, drop}
use Rattle.grail_blocks.specs.Blocks.{let_of}
use Rattle.normal_form.specs.Live.{Marks, lets_live}
use Rattle.code_gen.specs.Marked.{IsMarked}
use Rattle.code_gen.proofs.marks.mark_lets.Given as goal

abbrev pub invariant-loop-left : goal.invariant-loop-left
invariant-loop-left l = record {
  within : l.left ≤ length l.lets;
  marked : (live : Marks) → IsMarked l.initial.marks live → IsMarked l.marks (lets_live (map let_of (drop l.left l.lets)) live);
}

abbrev pub decreases-loop-left : goal.decreases-loop-left
decreases-loop-left l = l.left
