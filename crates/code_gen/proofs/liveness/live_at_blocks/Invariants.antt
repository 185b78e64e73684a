use Rattle.std.proofs.Common.{◌≤◌, length, map}
use Rattle.normal_form.specs.Programs.{block_of}
use Rattle.code_gen.specs.Marked.{AreSeen}
use Rattle.code_gen.proofs.liveness.live_at_blocks.Given as goal

abbrev pub invariant-loop-left : goal.invariant-loop-left
invariant-loop-left l = record {
  within : l.left ≤ length l.blocks;
  seen : AreSeen (map block_of l.blocks) l.left l.seen.items;
}

abbrev pub decreases-loop-left : goal.decreases-loop-left
decreases-loop-left l = l.left
