use Rattle.std.proofs.Common.{◌≡◌, ◌≤◌, ◌+◌, ◌++◌, map}
use Rattle.job_script.specs.Made.{counted, made_list}
use Rattle.job_script.specs.Words.{text_of}
use Rattle.job_script.proofs.making.make_lists.Given as goal

abbrev pub decreases-lists : goal.decreases-lists
decreases-lists l = l.left

abbrev pub invariant-lists : goal.invariant-lists
invariant-lists l = record { made : map text_of l.lists.items ++ counted made_list l.left l.number ≡ counted made_list l.count 1; few : l.left + l.number ≤ 1001 }
