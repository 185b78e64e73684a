use Rattle.camelot_values.specs.RunLaws as runs
use Rattle.grail_code.specs.Meaning.{bodies}
use Rattle.grail_code.specs.MeaningLaws.{bodies_respect}
use Rattle.grail_code.proofs.meaning.law_of_clock.Goals as goal

pub returns-clause-clock : goal.returns-clause-clock
returns-clause-clock c = λ p limit clock fuel waits tail func args h. runs.clock_is (bodies p) (bodies_respect p) limit clock fuel waits tail func args h

pub returns-clause-unfolds : goal.returns-clause-unfolds
returns-clause-unfolds c = λ p limit fuel waits func tail args. runs.unfolds (bodies p) (bodies_respect p) limit fuel waits tail func args
