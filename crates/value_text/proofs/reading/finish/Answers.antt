use Rattle.std.proofs.Common.{sym, ◌∙◌}
use Rattle.value_text.specs.Due.{first_due}
use Rattle.value_text.proofs.Following.{end_here, end_there}
use Rattle.value_text.proofs.reading.finish.Goals as goal

pub returns-then-is_empty : goal.returns-then-is_empty
returns-then-is_empty c =
    end_here c.args.types.now (first_due c.args.kinds.now) c.args.text.now c.args.items.items c.args.rest.now c.skip_spaces-rest.result.now c.requires.reading c.skip_spaces-rest.ensures (sym c.is_empty.ensures ∙ c.if-is_empty.true)

pub returns-else-is_empty : goal.returns-else-is_empty
returns-else-is_empty c =
    end_there c.args.types.now (first_due c.args.kinds.now) c.args.text.now c.args.items.items c.args.rest.now c.skip_spaces-rest.result.now c.saturating_sub.result c.requires.named c.requires.reading c.skip_spaces-rest.ensures
    (sym c.is_empty.ensures ∙ c.if-is_empty.false) c.saturating_sub.ensures
