use Rattle.job_script.proofs.Lengths.{script_short, entries_count, entries_few}
use Rattle.job_script.proofs.laws.law_of_lengths.Goals as goal

pub returns-clause-short : goal.returns-clause-short
returns-clause-short c = script_short

pub returns-clause-few : goal.returns-clause-few
returns-clause-few c = entries_few

pub returns-clause-entries : goal.returns-clause-entries
returns-clause-entries c = λ s. entries_count s.items
