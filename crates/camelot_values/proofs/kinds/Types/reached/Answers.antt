use Rattle.std.proofs.Common.{sym, ◌∙◌}
use Rattle.camelot_values.proofs.ReachSteps.{reached_bare, reached_beyond}
use Rattle.camelot_values.proofs.kinds.Types.reached.Goals as goal

pub returns-in-Int : goal.returns-in-Int
returns-in-Int c = c.new.ensures.items ∙ sym (reached_bare c.args.self.now c.args.kind c.in-Int.is)

pub returns-then-first-ge-MOST_TYPES : goal.returns-then-first-ge-MOST_TYPES
returns-then-first-ge-MOST_TYPES c =
    c.new-then-first-ge-MOST_TYPES.ensures.items ∙ sym (reached_beyond c.args.self.now c.args.kind c.in-Of.number c.in-Of.is c.limits.ensures.few_types c.if-first-ge-MOST_TYPES.true)
