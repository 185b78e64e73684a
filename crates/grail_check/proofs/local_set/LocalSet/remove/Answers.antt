use Rattle.std.proofs.Common.{arith}
use Rattle.grail_check.proofs.SetLaws.{removed, untouched}
use Rattle.grail_check.proofs.local_set.LocalSet.remove.Goals as goal

pub returns-then-place-lt4 : goal.returns-then-place-lt4
returns-then-place-lt4 c = removed c.args.self.now.words c.args.number c.without_bit.result (omega arith) c.without_bit.ensures.same c.without_bit.ensures.other

pub returns-else-place-lt4 : goal.returns-else-place-lt4
returns-else-place-lt4 c = untouched c.args.self.now.words c.args.number (omega arith)
