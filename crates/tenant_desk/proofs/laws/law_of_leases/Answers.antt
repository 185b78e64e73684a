use Rattle.tenant_desk.proofs.Holding.{granted_held, beside_held, given_held}
use Rattle.tenant_desk.proofs.laws.law_of_leases.Goals as goal

pub returns-clause-granted : goal.returns-clause-granted
returns-clause-granted c = granted_held

pub returns-clause-beside : goal.returns-clause-beside
returns-clause-beside c = beside_held

pub returns-clause-given : goal.returns-clause-given
returns-clause-given c = given_held
