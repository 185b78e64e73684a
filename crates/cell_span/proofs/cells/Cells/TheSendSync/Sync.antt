use denote.RattleType.{RattleType}
use denote.Param.Send.{IsSync}
use Rattle.cell_span.proofs.Crossing.{Cells-sync}
use Rattle.cell_span.specs.contracts.cells.Cells.{the_row}

pub sync : (R : RattleType) → IsSync R → IsSync (the_row R)
sync = Cells-sync
