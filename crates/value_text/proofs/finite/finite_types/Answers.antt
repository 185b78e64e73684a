use Rattle.std.proofs.Common.{map}
use Rattle.camelot_values.specs.Kinds.{data_type_of}
use Rattle.value_text.proofs.FinitySteps.{no_marks}
use Rattle.value_text.proofs.finite.finite_types.Goals as goal

pub mark_all-requires-clause-sound : goal.mark_all-requires-clause-sound
mark_all-requires-clause-sound c = no_marks (map data_type_of c.defs.result.now) 64
