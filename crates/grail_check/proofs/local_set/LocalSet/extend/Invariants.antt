use Rattle.std.proofs.Common.{◌≡◌, ℕ, true, ◌⊎◌}
use Rattle.grail_check.specs.Faulting.{is_among}
use Rattle.grail_check.specs.Sets.{Has}
use Rattle.grail_check.proofs.local_set.LocalSet.extend.Given as goal

abbrev pub invariant-numbers : goal.invariant-numbers
invariant-numbers l = (x : ℕ) → Has l.self.words x → (is_among l.numbers x ≡ true) ⊎ Has l.initial.self.words x
