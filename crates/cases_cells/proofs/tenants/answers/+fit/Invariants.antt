use Rattle.std.proofs.Common.{length}
use Rattle.cases_cells.proofs.tenants.answers.+fit.Given as goal

abbrev pub decreases-fit : goal.decreases-fit
decreases-fit l = length l.budgets.now
