use Rattle.camelot_host.proofs.Migrating.{accepted_behind, accepted_before}
use Rattle.camelot_host.proofs.laws.law_of_migrate.Goals as goal

pub returns-clause-accepted : goal.returns-clause-accepted
returns-clause-accepted c = accepted_behind c.one_meaning.ensures.one

pub returns-clause-back : goal.returns-clause-back
returns-clause-back c = accepted_before c.one_meaning.ensures.one
