use Rattle.frame_locals.specs.LendingLaws.{runs, waits}
use Rattle.frame_locals.proofs.laws.law_of_lending.Goals as goal

pub returns-clause-runs : goal.returns-clause-runs
returns-clause-runs c = runs

pub returns-clause-waits : goal.returns-clause-waits
returns-clause-waits c = waits
