use Rattle.std.proofs.Common.{◌≡◌, map, length}
use Rattle.camelot_values.specs.Kinds.{data_type_of}
use Rattle.value_text.specs.Finite.{Sound}
use Rattle.value_text.proofs.Finiteness.{left_of}
use Rattle.value_text.proofs.finite.mark_all.Given as goal

abbrev pub invariant-marking : goal.invariant-marking
invariant-marking l = record {
  size : length l.marks ≡ 64;
  sound : Sound (map data_type_of l.types) l.marks;
}

abbrev pub decreases-marking : goal.decreases-marking
decreases-marking l = left_of l.marks
