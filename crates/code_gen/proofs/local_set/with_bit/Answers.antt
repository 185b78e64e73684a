use Rattle.code_gen.proofs.Bits.{bit_added}
use Rattle.code_gen.proofs.local_set.with_bit.Goals as goal

pub returns : goal.returns
returns c y = bit_added c.args.word c.args.at y c.requires
