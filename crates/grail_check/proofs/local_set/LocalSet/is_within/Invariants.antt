use Rattle.std.proofs.Common.{◌≡◌, ℕ, ◌<◌, get_or}
use Rattle.std.specs.Prelude.{bit_or}
use Rattle.grail_check.proofs.local_set.LocalSet.is_within.Given as goal

abbrev pub invariant-words : goal.invariant-words
invariant-words l = (k : ℕ) → k < l.place → bit_or (get_or l.self.words k 0) (get_or l.other.words k 0) ≡ get_or l.other.words k 0
