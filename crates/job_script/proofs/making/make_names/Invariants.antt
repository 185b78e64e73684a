use Rattle.std.proofs.Common.{◌≡◌, ◌≤◌, ◌+◌, ◌++◌}
use Rattle.job_script.specs.Made.{counted, made_name}
use Rattle.job_script.proofs.making.make_names.Given as goal

abbrev pub decreases-names : goal.decreases-names
decreases-names l = l.left

abbrev pub invariant-names : goal.invariant-names
invariant-names l = record { made : l.names.items ++ counted made_name l.left l.number ≡ counted made_name l.count 1; few : l.left + l.number ≤ 4097 }
