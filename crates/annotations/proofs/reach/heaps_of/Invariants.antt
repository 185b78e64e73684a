use Rattle.std.proofs.Common.{◌≡◌, map}
use Rattle.std.specs.List.{range_with_len}
use Rattle.camelot_values.specs.Heap.{is_heap_type}
use Rattle.annotations.proofs.reach.heaps_of.Given as goal

abbrev pub invariant-types : goal.invariant-types
invariant-types l = l.heaps.items ≡ map (is_heap_type l.types) (range_with_len 0 l.number)
