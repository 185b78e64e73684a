use Rattle.std.proofs.Common.{◌≡◌, ◌≤◌, ◌+◌, ◌++◌, map}
use Rattle.job_script.specs.Made.{made_jobs}
use Rattle.job_script.specs.Words.{entry_of}
use Rattle.job_script.proofs.making.push_jobs.Given as goal

abbrev pub decreases-jobs : goal.decreases-jobs
decreases-jobs l = l.left

abbrev pub invariant-jobs : goal.invariant-jobs
invariant-jobs l = record {
  items : map entry_of l.items.items ++ made_jobs l.left l.number ≡ map entry_of l.initial.items.items ++ made_jobs l.count 1;
  sum : l.left + l.number ≡ l.count + 1;
  least : 1 ≤ l.number;
}
