use Rattle.std.proofs.Common.{◌∷◌, length}
use Rattle.value_text.specs.Dues.{Value}
use Rattle.value_text.specs.Due.{Reading, first_due}
use Rattle.value_text.specs.Later.{later_due}
use Rattle.value_text.proofs.reading.read_items.Given as goal

abbrev pub invariant-values : goal.invariant-values
invariant-values l = Reading l.types (first_due l.kinds) l.text l.items.items (Value l.kind ∷ later_due l.later.inner.now l.later.closed l.later.frames.items l.later.others.now) l.rest

abbrev pub decreases-values : goal.decreases-values
decreases-values l = length l.rest
