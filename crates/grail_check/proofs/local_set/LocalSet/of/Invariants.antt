use Rattle.std.proofs.Common.{take}
use Rattle.grail_check.specs.Sets.{HasAll}
use Rattle.grail_check.proofs.local_set.LocalSet.of.Given as goal

abbrev pub invariant-numbers : goal.invariant-numbers
invariant-numbers l = HasAll l.set.words (take l.number-index l.numbers)
