use Rattle.std.proofs.Common.{length}
use Rattle.cases_cells.proofs.machines.taken.+in_lets.Given as goal

abbrev pub decreases-in_lets : goal.decreases-in_lets
decreases-in_lets l = length l.lets.now
