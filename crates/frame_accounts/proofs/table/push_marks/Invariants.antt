use Rattle.std.proofs.Common.{◌≡◌, ◌++◌, replicate}
use Rattle.frame_accounts.proofs.table.push_marks.Given as goal

abbrev pub invariant-marks : goal.invariant-marks
invariant-marks l = l.marks.items ≡ l.initial.marks.items ++ replicate l._mark l.mark
