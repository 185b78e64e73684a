use Rattle.std.proofs.Common.{◌≡◌, drop}
use Rattle.grail_check.specs.Faulting.{ascends_from}
use Rattle.grail_check.proofs.blocks.ascends.Given as goal

abbrev pub invariant-numbers : goal.invariant-numbers
invariant-numbers l = ascends_from l.least (drop l.number-index l.numbers) ≡ ascends_from 0 l.numbers
