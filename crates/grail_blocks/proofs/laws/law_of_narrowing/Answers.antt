use Rattle.grail_blocks.specs.NarrowLaws.{narrowing_is_free}
use Rattle.grail_blocks.proofs.laws.law_of_narrowing.Goals as goal

pub returns : goal.returns
returns c = narrowing_is_free
