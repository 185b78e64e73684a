use Rattle.std.specs.Vec.Iter.{into_iter_items}
use Rattle.journal_replay.specs.Within.{AreWithin, IsLeaseWithin}
use Rattle.journal_replay.proofs.Taking.{IsGiven}
use Rattle.journal_replay.proofs.holes.give.Given as goal

abbrev pub invariant-holes : goal.invariant-holes
invariant-holes l = record {
  given : IsGiven l.fn.holes.items l.fn.run l.all.items l.more (into_iter_items l.hole-iterator);
  within : AreWithin (into_iter_items l.hole-iterator);
  more_within : IsLeaseWithin l.more;
}
