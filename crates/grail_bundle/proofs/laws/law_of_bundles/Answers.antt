use Rattle.grail_bundle.proofs.Judging.{bundles_one}
use Rattle.grail_bundle.proofs.Answering.{written_read, read_written}
use Rattle.grail_bundle.proofs.laws.law_of_bundles.Goals as goal

pub returns-clause-one : goal.returns-clause-one
returns-clause-one c = bundles_one

pub returns-clause-back : goal.returns-clause-back
returns-clause-back c = written_read

pub returns-clause-again : goal.returns-clause-again
returns-clause-again c = read_written
