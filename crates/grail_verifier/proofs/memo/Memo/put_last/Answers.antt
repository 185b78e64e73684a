use Rattle.std.proofs.Common.{sym}
use Rattle.grail_verifier.proofs.Remembering.{put_sound}
use Rattle.grail_verifier.proofs.memo.Memo.put_last.Goals as goal

pub returns-then-need-len : goal.returns-then-need-len
returns-then-need-len c types all sound passed =
    put_sound types all c.args.self.now c.self.inside.last.items c.self.inside.passed.keys c.args.need ((c.args.have, c.args.need), c.args.number) (sym c.self.view_is) sound passed
