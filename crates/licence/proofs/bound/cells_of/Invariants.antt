use Rattle.std.proofs.Common.{◌≡◌, ◌+◌, drop}
use Rattle.camelot_values.specs.Counts.{cells_among}
use Rattle.licence.proofs.bound.cells_of.Given as goal

abbrev pub invariant-each : goal.invariant-each
invariant-each l = l.total + cells_among l.types (drop l.argument-index l.args) ≡ cells_among l.types l.args
