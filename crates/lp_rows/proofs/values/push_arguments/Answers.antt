use Rattle.std.proofs.Common.{map, arith}
use Rattle.grail_code.specs.Code.{func_of}
use Rattle.std.proofs.Common.{◌<◌}
use Rattle.dual_simplex.specs.Systems.{plain_row}
use Rattle.lp_rows.specs.Plain.{plain, names}
use Rattle.lp_rows.proofs.Turns.{argument_turn}
use Rattle.lp_rows.proofs.values.push_arguments.Goals as goal

pub arguments-preserved : goal.arguments-preserved
arguments-preserved c =
    let less : c.arguments.var < c.len-count.result = omega (arith, c.if-var-count.false) in
    argument_turn c.args.books.code.now.types (map plain c.args.books.unknowns.now) (func_of c.args.here.func.now) (names c.args.here.site.func c.args.here.site.block c.args.slots.now) c.args.callee (func_of c.args.called.now) c.arguments.rest.now
    (map plain_row c.arguments.rows.items) (map plain_row c.push_argument.new.rows.items) _ c.arguments.var c.len-count.result less c.in-len1-up.len_at_least
    c.arguments.invariant c.in_ok-push_argument.ensures
