use Rattle.grail_blocks.specs.RunningLaws.{later_is_block, back_is_stuck}
use Rattle.grail_blocks.proofs.laws.law_of_jumps.Goals as goal

pub returns-clause-later : goal.returns-clause-later
returns-clause-later c = later_is_block

pub returns-clause-back : goal.returns-clause-back
returns-clause-back c = back_is_stuck
