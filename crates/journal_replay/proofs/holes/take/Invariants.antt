use Rattle.std.specs.Vec.Iter.{into_iter_items}
use Rattle.journal_replay.specs.Within.{AreWithin}
use Rattle.journal_replay.proofs.Taking.{IsTaken}
use Rattle.journal_replay.proofs.holes.take.Given as goal

abbrev pub invariant-holes : goal.invariant-holes
invariant-holes l = record {
  taken : IsTaken l.fn.holes.items l.size l.left.items l.found (into_iter_items l.hole-iterator);
  within : AreWithin (into_iter_items l.hole-iterator);
}
