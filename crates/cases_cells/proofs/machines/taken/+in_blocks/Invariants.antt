use Rattle.std.proofs.Common.{length}
use Rattle.cases_cells.proofs.machines.taken.+in_blocks.Given as goal

abbrev pub decreases-in_blocks : goal.decreases-in_blocks
decreases-in_blocks l = length l.blocks.now
