use Rattle.camelot_values.specs.RunLaws as runs
use Rattle.camelot_tree.specs.Meaning.{bodies}
use Rattle.camelot_tree.specs.MeaningLaws.{bodies_respect}
use Rattle.camelot_tree.proofs.laws.law_of_clock.Goals as goal

pub returns-clause-clock : goal.returns-clause-clock
returns-clause-clock c = λ p limit clock fuel waits tail func args h. runs.clock_is (bodies p) (bodies_respect p) limit clock fuel waits tail func args h

pub returns-clause-unfolds : goal.returns-clause-unfolds
returns-clause-unfolds c = λ p limit fuel waits func tail args. runs.unfolds (bodies p) (bodies_respect p) limit fuel waits tail func args
