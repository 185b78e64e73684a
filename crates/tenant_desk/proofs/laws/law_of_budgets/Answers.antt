use Rattle.tenant_desk.proofs.Asking.{holds_more, budget_stays, holds_less}
use Rattle.tenant_desk.proofs.Cutting.{same_budgets}
use Rattle.tenant_desk.proofs.laws.law_of_budgets.Goals as goal

pub returns-clause-first : goal.returns-clause-first
returns-clause-first c = same_budgets

pub returns-clause-granted : goal.returns-clause-granted
returns-clause-granted c = holds_more

pub returns-clause-same : goal.returns-clause-same
returns-clause-same c = budget_stays

pub returns-clause-given : goal.returns-clause-given
returns-clause-given c = holds_less
