use Rattle.std.proofs.Common.{◌≡◌, Some, rules}
use Rattle.grail_code.specs.Code.{func_of}
use Rattle.grail_code.specs.WellFormed.{kind_of}
use Rattle.lp_system.proofs.Looks.{all_of_kind, all_ascend}
use Rattle.lp_system.proofs.lent.local_carriers.Goals as goal

pub returns-else-is_lent-clause-is : goal.returns-else-is_lent-clause-is
returns-else-is_lent-clause-is c =
    let kind : kind_of (func_of c.args.func.now) c.args.local ≡ Some c.in-Some.kind = search rules in
    all_of_kind c.args.types.now (func_of c.args.func.now) c.args.local c.in-Some.kind c.is_lent.result c.reached.result.now kind c.is_lent.ensures c.if-is_lent.false
    (c.reached.ensures c.args.types.now c.requires.table)

pub returns-else-is_lent-clause-ascend : goal.returns-else-is_lent-clause-ascend
returns-else-is_lent-clause-ascend c = all_ascend c.args.types.now (func_of c.args.func.now) c.args.local c.reached.result.now (returns-else-is_lent-clause-is c)
