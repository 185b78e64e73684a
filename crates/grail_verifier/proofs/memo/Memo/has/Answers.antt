use Rattle.std.proofs.Common.{sym, ◌∙◌, subst}
use Rattle.grail_verifier.specs.Remembered.{IsSound}
use Rattle.grail_verifier.proofs.Remembering.{passed_before, kept_sound}
use Rattle.grail_verifier.proofs.memo.Memo.has.Goals as goal

pub returns : goal.returns
returns c types all sound is =
    passed_before types all c.self.inside.passed.keys ((c.args.have, c.args.need), c.args.number) (kept_sound types all c.self.inside.last.items c.self.inside.passed.keys (subst (IsSound types all) (sym c.self.view_is) sound)) (sym c.contains.ensures ∙ is)
