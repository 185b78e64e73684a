use Rattle.std.proofs.Common.{arith}
use Rattle.grail_check.proofs.SetLaws.{within}
use Rattle.grail_check.proofs.local_set.LocalSet.is_within.Goals as goal

pub returns : goal.returns
returns c done = within c.args.self.now.words c.args.other.now.words (λ k less. c.words.invariant k (omega arith))
