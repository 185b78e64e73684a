use Rattle.std.proofs.Common.{sym, ◌∙◌}
use Rattle.camelot_types.proofs.Looping.{same_already}
use Rattle.camelot_types.proofs.table.make_same.Goals as goal

pub returns-in-Unknown-Unknown : goal.returns-in-Unknown-Unknown
returns-in-Unknown-Unknown c =
    same_already c.args.types.now c.args.table.now c.args.left c.args.right c.args.line c.in-Unknown-Unknown.number c.in-Unknown-Unknown.other (sym c.looked_up.ensures ∙ c.in-Unknown-Unknown.is-0) (sym c.looked_up-2.ensures ∙ c.in-Unknown-Unknown.is-1) c.if-number-other.true
