use Rattle.lease_desk.specs.JournalLaws.{behind_each, parts_behind, took_behind, gave_behind}
use Rattle.lease_desk.proofs.laws.law_of_journals.Goals as goal

pub returns-clause-sound : goal.returns-clause-sound
returns-clause-sound c = behind_each

pub returns-clause-parts : goal.returns-clause-parts
returns-clause-parts c = parts_behind

pub returns-clause-took : goal.returns-clause-took
returns-clause-took c = took_behind

pub returns-clause-gave : goal.returns-clause-gave
returns-clause-gave c = gave_behind
