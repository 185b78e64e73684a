use Rattle.std.proofs.Common.{take}
use Rattle.std.specs.Prelude.{All}
use Rattle.dual_simplex.specs.Systems.{plain_row, IsProperRow}
use Rattle.dual_simplex.proofs.system.are_proper_rows.Given as goal

abbrev pub invariant-loop-row : goal.invariant-loop-row
invariant-loop-row l = All (λ row. IsProperRow l.unknowns (plain_row row)) (take l.row-index l.rows)
