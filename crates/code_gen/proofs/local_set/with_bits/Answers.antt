use Rattle.code_gen.proofs.Bits.{bits_joined}
use Rattle.code_gen.proofs.local_set.with_bits.Goals as goal

pub returns : goal.returns
returns c y = bits_joined c.args.word c.args.other y
