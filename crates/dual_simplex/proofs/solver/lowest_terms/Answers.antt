use Rattle.dual_simplex.proofs.LowestTerms.{first_reduced, stays_reduced}
use Rattle.dual_simplex.proofs.solver.lowest_terms.Goals as goal

pub returns-clause-first : goal.returns-clause-first
returns-clause-first c = first_reduced

pub returns-clause-pivots : goal.returns-clause-pivots
returns-clause-pivots c = stays_reduced
