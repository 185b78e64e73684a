use Rattle.std.proofs.Common.{arith}
use Rattle.grail_check.proofs.SetLaws.{kept, added, only}
use Rattle.grail_check.proofs.local_set.LocalSet.insert.Goals as goal

pub returns-then-place-lt4-clause-keeps : goal.returns-then-place-lt4-clause-keeps
returns-then-place-lt4-clause-keeps c = kept c.args.self.now.words c.args.number c.with_bit.result (omega arith) c.with_bit.ensures.same c.with_bit.ensures.other

pub returns-then-place-lt4-clause-adds : goal.returns-then-place-lt4-clause-adds
returns-then-place-lt4-clause-adds c done = added c.args.self.now.words c.args.number c.with_bit.result (omega arith) c.with_bit.ensures.same

pub returns-then-place-lt4-clause-only : goal.returns-then-place-lt4-clause-only
returns-then-place-lt4-clause-only c = only c.args.self.now.words c.args.number c.with_bit.result (omega arith) c.with_bit.ensures.other
