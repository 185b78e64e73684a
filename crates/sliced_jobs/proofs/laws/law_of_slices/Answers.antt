use Rattle.sliced_jobs.proofs.OneNumber.{one_number, one_sum}
use Rattle.sliced_jobs.proofs.SomeNumber.{some_sum}
use Rattle.sliced_jobs.proofs.laws.law_of_slices.Goals as goal

pub returns-clause-one : goal.returns-clause-one
returns-clause-one c = one_number

pub returns-clause-all : goal.returns-clause-all
returns-clause-all c = one_sum

pub returns-clause-there : goal.returns-clause-there
returns-clause-there c = some_sum
