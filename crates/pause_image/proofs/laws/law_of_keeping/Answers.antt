use Rattle.pause_image.specs.KeepingLaws.{begun_keepable, steps_keepable, kept_keepable}
use Rattle.pause_image.proofs.laws.law_of_keeping.Goals as goal

pub returns-clause-begins : goal.returns-clause-begins
returns-clause-begins c = begun_keepable

pub returns-clause-stays : goal.returns-clause-stays
returns-clause-stays c = steps_keepable

pub returns-clause-again : goal.returns-clause-again
returns-clause-again c = kept_keepable
