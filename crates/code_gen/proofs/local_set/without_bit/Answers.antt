use Rattle.code_gen.proofs.Bits.{bit_taken}
use Rattle.code_gen.proofs.local_set.without_bit.Goals as goal

pub returns : goal.returns
returns c y h = bit_taken c.args.word c.args.at y c.requires h
