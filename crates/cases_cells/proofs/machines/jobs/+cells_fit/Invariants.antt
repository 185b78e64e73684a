use Rattle.std.proofs.Common.{length}
use Rattle.cases_cells.proofs.machines.jobs.+cells_fit.Given as goal

abbrev pub decreases-cells_fit : goal.decreases-cells_fit
decreases-cells_fit l = length l.args.now
