use denote.RattleType.{RattleType}
use denote.Param.Send.{IsSend, Frees}
use Rattle.std.specs.declared.alloc.Allocator.{Ghosts}
use Rattle.cell_span.proofs.Crossing.{Deed-send}
use Rattle.cell_span.specs.contracts.cells.Deed.{the_row}

pub send : (R A : RattleType) (ghosts : Ghosts A.Denot) → IsSend A → Frees ghosts ghosts.dealloc_token → IsSend (the_row R A ghosts)
send R A ghosts handle token = Deed-send R A ghosts token
