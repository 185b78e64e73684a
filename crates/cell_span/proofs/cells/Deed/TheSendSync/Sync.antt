use denote.RattleType.{RattleType}
use denote.Param.Send.{IsSync}
use Rattle.std.specs.declared.alloc.Allocator.{Ghosts}
use Rattle.cell_span.proofs.Crossing.{Deed-sync}
use Rattle.cell_span.specs.contracts.cells.Deed.{the_row}

pub sync : (R A : RattleType) (ghosts : Ghosts A.Denot) → IsSync (the_row R A ghosts)
sync = Deed-sync
