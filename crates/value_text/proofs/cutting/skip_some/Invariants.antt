use Rattle.std.proofs.Common.{◌≡◌, ◌-◌, drop, length}
use Rattle.value_text.specs.Splitting.{skip}
use Rattle.value_text.proofs.cutting.skip_some.Given as goal

abbrev pub invariant-spaces : goal.invariant-spaces
invariant-spaces l = skip (drop l.at l.text) ≡ skip l.text

abbrev pub decreases-spaces : goal.decreases-spaces
decreases-spaces l = length l.text - l.at
