use Rattle.std.proofs.Common.{◌≡◌, ◌≤◌, [], length}
use Rattle.value_text.specs.Due.{Reading, first_due}
use Rattle.value_text.specs.Later.{later_due}
use Rattle.value_text.proofs.reading.close.Given as goal

abbrev pub invariant-closed : goal.invariant-closed
invariant-closed l = record {
  reading : Reading l.types (first_due l.kinds) l.text l.items.items (later_due l.later.inner.now l.closed l.later.frames.items l.later.others.now) l.after;
  inner : l.later.inner.now ≡ [];
  shorter : length l.after ≤ length l.rest;
}

abbrev pub decreases-closed : goal.decreases-closed
decreases-closed l = l.closed
