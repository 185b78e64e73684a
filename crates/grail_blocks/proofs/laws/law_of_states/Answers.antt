use Rattle.grail_blocks.specs.StateLaws.{uses_affinely, affinely_used}
use Rattle.grail_blocks.proofs.laws.law_of_states.Goals as goal

pub returns : goal.returns
returns c = λ reads h blocks block. (uses_affinely reads h blocks block, affinely_used reads h blocks block)
