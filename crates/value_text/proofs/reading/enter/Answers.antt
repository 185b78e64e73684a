use Rattle.std.proofs.Common.{◌∷◌, ◌++◌}
use Rattle.value_text.specs.Dues.{Value}
use Rattle.value_text.specs.Due.{further_due}
use Rattle.value_text.specs.Later.{later_due}
use Rattle.value_text.proofs.reading.enter.Goals as goal

pub returns-in-Err-clause-reading : goal.returns-in-Err-clause-reading
returns-in-Err-clause-reading c =
    c.in-Err.ensures.reading c.args.items.now.items (Value c.args.kind ∷ (further_due c.args.others.now ++ later_due c.args.later.now.inner.now c.args.later.now.closed c.args.later.now.frames.items c.args.later.now.others.now)) c.requires.reading
