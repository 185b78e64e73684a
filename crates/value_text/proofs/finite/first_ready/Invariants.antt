use Rattle.std.proofs.Common.{map}
use Rattle.camelot_values.specs.Kinds.{data_type_of}
use Rattle.value_text.proofs.FinitySteps.{NoneBefore}
use Rattle.value_text.proofs.finite.first_ready.Given as goal

abbrev pub invariant-loop-number : goal.invariant-loop-number
invariant-loop-number l = NoneBefore (map data_type_of l.types) l.marks l.number
