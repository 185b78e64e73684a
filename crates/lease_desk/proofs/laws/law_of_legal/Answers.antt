use Rattle.lease_desk.specs.JournalLaws.{fronts_replayed, legal_fronts, legal_each, legal_within}
use Rattle.lease_desk.proofs.laws.law_of_legal.Goals as goal

pub returns-clause-fronts : goal.returns-clause-fronts
returns-clause-fronts c = fronts_replayed

pub returns-clause-legal : goal.returns-clause-legal
returns-clause-legal c = legal_fronts

pub returns-clause-each : goal.returns-clause-each
returns-clause-each c = legal_each

pub returns-clause-within : goal.returns-clause-within
returns-clause-within c = legal_within
