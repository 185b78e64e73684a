use Rattle.std.proofs.Common.{◌-◌, ◌≤◌, length}
use Rattle.text_scan.proofs.CommentLemmas.{CommentSoFar}
use Rattle.text_scan.proofs.comment.comment_size.Given as goal

abbrev pub invariant-loop-depth : goal.invariant-loop-depth
invariant-loop-depth l = record { far : CommentSoFar l.bytes l.at l.depth; within : l.at ≤ length l.bytes; deep : l.depth ≤ l.at }

abbrev pub decreases-loop-depth : goal.decreases-loop-depth
decreases-loop-depth l = length l.bytes - l.at
