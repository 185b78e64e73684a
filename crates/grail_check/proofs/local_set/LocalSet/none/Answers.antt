use Rattle.grail_check.proofs.SetLaws.{none_has}
use Rattle.grail_check.proofs.local_set.LocalSet.none.Goals as goal

pub returns : goal.returns
returns c = none_has
