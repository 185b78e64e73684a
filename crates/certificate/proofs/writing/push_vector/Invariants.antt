use Rattle.std.proofs.Common.{◌≡◌, ◌++◌, drop}
use Rattle.std.specs.Prelude.{flat_map}
use Rattle.certificate.specs.Writing.{pair_text}
use Rattle.certificate.proofs.writing.push_vector.Given as goal

abbrev pub invariant-pairs : goal.invariant-pairs
invariant-pairs l = l.out.items ++ flat_map pair_text (drop l.pair-index l.pair-items) ≡ l.initial.out.items ++ flat_map pair_text l.pair-items
