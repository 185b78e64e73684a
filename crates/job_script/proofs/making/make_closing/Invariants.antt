use Rattle.std.proofs.Common.{◌≡◌, ◌++◌, replicate}
use Rattle.job_script.proofs.making.make_closing.Given as goal

abbrev pub decreases-ends : goal.decreases-ends
decreases-ends l = l.left

abbrev pub invariant-ends : goal.invariant-ends
invariant-ends l = l.out.items ++ replicate l.left 41 ≡ replicate l.count 41
