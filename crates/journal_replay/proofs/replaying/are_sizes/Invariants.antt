use Rattle.std.proofs.Common.{◌≡◌, length}
use Rattle.journal_replay.specs.Replaying.{are_sizes}
use Rattle.journal_replay.proofs.replaying.are_sizes.Given as goal

abbrev pub invariant-sizes : goal.invariant-sizes
invariant-sizes l = are_sizes l.arena l.rest ≡ are_sizes l.arena l.sizes

abbrev pub decreases-sizes : goal.decreases-sizes
decreases-sizes l = length l.rest
