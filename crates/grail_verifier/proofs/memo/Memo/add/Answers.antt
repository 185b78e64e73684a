use Rattle.std.proofs.Common.{sym}
use Rattle.grail_verifier.proofs.Remembering.{sound_behind}
use Rattle.grail_verifier.proofs.memo.Memo.add.Goals as goal

pub returns : goal.returns
returns c types all sound passed = sound_behind c.insert-known.result types all c.args.self.now c.self.inside.last.items c.self.inside.passed.keys c.insert-known.new.self.keys ((c.args.have, c.args.need), c.args.number)
    c.insert-known.ensures.keys c.insert-known.ensures.err (sym c.self.view_is) sound passed
