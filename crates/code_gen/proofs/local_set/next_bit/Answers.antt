use Rattle.std.proofs.Common.{arith}
use Rattle.code_gen.proofs.Bits.{next_none, next_some}
use Rattle.code_gen.proofs.local_set.next_bit.Goals as goal

pub returns-then-rest-eq0 : goal.returns-then-rest-eq0
returns-then-rest-eq0 c = next_none c.args.word c.args.from c.requires c.if-rest-eq0.true

pub returns : goal.returns
returns c = let some = c.if-rest-eq0.false in next_some c.args.word c.args.from c.ranges.word.fits (omega (arith, some))
