use Rattle.std.proofs.Common.{◌≡◌, ◌++◌, ◌≤◌, length, take, reverse}
use Rattle.camelot_values.proofs.fits.push_all.Given as goal

abbrev pub invariant-kinds : goal.invariant-kinds
invariant-kinds l = record {
  all : l.due.items ++ reverse (take l.left l.kinds) ≡ l.initial.due.items ++ reverse l.kinds;
  within : l.left ≤ length l.kinds;
}

abbrev pub decreases-kinds : goal.decreases-kinds
decreases-kinds l = l.left
