use Rattle.camelot_values.specs.RunLaws as runs
use Rattle.grail_code.specs.Meaning.{bodies}
use Rattle.grail_code.specs.MeaningLaws.{bodies_respect}
use Rattle.grail_code.proofs.meaning.law_of_fuel.Goals as goal

pub returns-clause-used : goal.returns-clause-used
returns-clause-used c = λ p limit func fuel calls peak args e. runs.used_is (bodies p) (bodies_respect p) limit func fuel calls peak args e

pub returns-clause-within : goal.returns-clause-within
returns-clause-within c = λ p limit func fuel args v calls peak low e. runs.within_is (bodies p) (bodies_respect p) limit func fuel args v calls peak low e

pub returns-clause-enough : goal.returns-clause-enough
returns-clause-enough c = λ p limit func fuel other args v calls peak low e h. runs.enough_is (bodies p) (bodies_respect p) limit func fuel other args v calls peak low e h

pub returns-clause-short : goal.returns-clause-short
returns-clause-short c = λ p limit func fuel other args v calls peak low e h. runs.short_is (bodies p) (bodies_respect p) limit func fuel other args v calls peak low e h

pub returns-clause-deep : goal.returns-clause-deep
returns-clause-deep c = λ p limit func fuel other args peak e h. runs.deep_is (bodies p) (bodies_respect p) limit func fuel other args peak e h

pub returns-clause-trap : goal.returns-clause-trap
returns-clause-trap c = λ p limit func fuel other args peak e h. runs.trap_is (bodies p) (bodies_respect p) limit func fuel other args peak e h
