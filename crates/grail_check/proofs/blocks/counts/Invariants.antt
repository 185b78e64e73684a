use Rattle.std.proofs.Common.{◌≡◌, drop}
use Rattle.grail_check.specs.Faulting.{counts_from}
use Rattle.grail_check.proofs.blocks.counts.Given as goal

abbrev pub invariant-numbers : goal.invariant-numbers
invariant-numbers l = counts_from l.index l.count (drop l.index l.numbers) ≡ counts_from 0 l.count l.numbers
