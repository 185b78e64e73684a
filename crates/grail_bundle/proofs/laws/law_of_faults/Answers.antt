use Rattle.grail_bundle.proofs.Judging.{faults_one, fault_there, no_fault}
use Rattle.grail_bundle.proofs.laws.law_of_faults.Goals as goal

pub returns-clause-one : goal.returns-clause-one
returns-clause-one c = faults_one

pub returns-clause-there : goal.returns-clause-there
returns-clause-there c = fault_there

pub returns-clause-apart : goal.returns-clause-apart
returns-clause-apart c = no_fault
