use Rattle.camelot_host.proofs.Granting.{within_bound}
use Rattle.camelot_host.proofs.laws.law_of_verify.Goals as goal

pub returns : goal.returns
returns c = record { within = within_bound }
