use Rattle.std.proofs.Common.{List, [], ◌∷◌, ◌++◌, length}
use Rattle.tenant_service.specs.declared.holding.Holding.{Holding as DeclaredHolding}
use Rattle.tenant_service.specs.Closing.{AllOut}
use Rattle.tenant_service.proofs.holdings.give_all.Given as goal

abbrev pub invariant-jobs : goal.invariant-jobs
invariant-jobs l = (before : List (List DeclaredHolding)) → AllOut l.fn.desk (before ++ l.fn.jobs.items ∷ []) → AllOut l.desk (before ++ l.jobs.items ∷ [])

abbrev pub decreases-jobs : goal.decreases-jobs
decreases-jobs l = length l.jobs.items
