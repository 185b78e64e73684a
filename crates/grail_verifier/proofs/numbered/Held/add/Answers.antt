use Rattle.std.proofs.Common.{sym}
use Rattle.grail_verifier.proofs.Keeping.{kept_pushed}
use Rattle.grail_verifier.proofs.numbered.Held.add.Goals as goal

pub returns-clause-keeps : goal.returns-clause-keeps
returns-clause-keeps c = kept_pushed (λ v. v.now) c.args.self.now c.self.inside.vectors.items c.push.new.self.items c.args.vector (sym c.self.view_is) c.in_ok-push.ensures.items
