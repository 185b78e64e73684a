use Rattle.value_text.proofs.LaterSteps.{next_of_inner}
use Rattle.value_text.proofs.behind.Later.next_inner.Goals as goal

pub returns-in-len1-up : goal.returns-in-len1-up
returns-in-len1-up c =
    next_of_inner c.args.self.now.closed c.args.self.now.frames.items c.args.self.now.others.now c.args.self.now.inner.now c.in-len1-up.len_at_least
