use Rattle.tenant_desk.proofs.Shifting.{shift_take, shift_give, shift_largest, shift_total}
use Rattle.tenant_desk.proofs.laws.law_of_shifts.Goals as goal

pub returns-clause-taken : goal.returns-clause-taken
returns-clause-taken c = shift_take

pub returns-clause-given : goal.returns-clause-given
returns-clause-given c = shift_give

pub returns-clause-largest : goal.returns-clause-largest
returns-clause-largest c = shift_largest

pub returns-clause-total : goal.returns-clause-total
returns-clause-total c = shift_total
