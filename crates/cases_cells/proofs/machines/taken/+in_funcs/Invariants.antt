use Rattle.std.proofs.Common.{length}
use Rattle.cases_cells.proofs.machines.taken.+in_funcs.Given as goal

abbrev pub decreases-in_funcs : goal.decreases-in_funcs
decreases-in_funcs l = length l.funcs.now
