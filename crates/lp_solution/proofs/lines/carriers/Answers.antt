use Rattle.std.proofs.Common.{sym, subst}
use Rattle.camelot_values.specs.Lists.{Ascend}
use Rattle.camelot_values.specs.ReachLaws.{reached_ascends}
use Rattle.lp_solution.proofs.lines.carriers.Goals as goal

pub returns-in-Some-clause-ascend : goal.returns-in-Some-clause-ascend
returns-in-Some-clause-ascend c = subst Ascend (sym (c.reached.ensures c.args.typed.types.now c.args.typed.same)) (reached_ascends c.args.typed.types.now c.in-Some.kind)
