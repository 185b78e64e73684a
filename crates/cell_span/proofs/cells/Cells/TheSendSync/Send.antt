use denote.RattleType.{RattleType}
use denote.Param.Send.{IsSend}
use Rattle.cell_span.proofs.Crossing.{Cells-send}
use Rattle.cell_span.specs.contracts.cells.Cells.{the_row}

pub send : (R : RattleType) → IsSend R → IsSend (the_row R)
send = Cells-send
