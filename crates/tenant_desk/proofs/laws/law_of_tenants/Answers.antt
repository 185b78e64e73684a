use Rattle.tenant_desk.proofs.Shifting.{set_other}
use Rattle.tenant_desk.proofs.laws.law_of_tenants.Goals as goal

pub returns : goal.returns
returns c = λ d tenant other h n. set_other d.pieces tenant other h n
