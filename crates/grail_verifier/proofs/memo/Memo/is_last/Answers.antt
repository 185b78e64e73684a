use Rattle.std.proofs.Common.{sym, ◌∙◌}
use Rattle.grail_verifier.proofs.Remembering.{last_passed}
use Rattle.grail_verifier.proofs.memo.Memo.is_last.Goals as goal

pub returns-in-Some : goal.returns-in-Some
returns-in-Some c types all sound is =
    last_passed types all c.args.self.now c.self.inside.last.items c.self.inside.passed.keys c.deref.result.now c.args.need c.in-Some.last.now c.args.have c.args.need c.args.number (sym c.self.view_is) sound c.deref.ensures.value c.in-Some.ensures.lookup.0 c.in-Some.ensures.lookup.1
    (sym c.is_pair.ensures ∙ is)
