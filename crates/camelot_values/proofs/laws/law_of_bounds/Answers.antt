use Rattle.camelot_values.specs.BoundLaws.{paid_then}
use Rattle.camelot_values.proofs.laws.law_of_bounds.Goals as goal

pub returns-clause-paid : goal.returns-clause-paid
returns-clause-paid c = λ unit units fuel between left first next h go. paid_then unit units between left fuel first next h go
