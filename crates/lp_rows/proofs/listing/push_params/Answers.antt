use Rattle.std.proofs.Common.{◌≡◌, ◌<◌, ◌++◌, length, map, ap, ◌∙◌, arith, rules}
use Rattle.grail_code.specs.Code.{func_of}
use Rattle.lp_system.specs.Unknowns.{Param}
use Rattle.lp_rows.specs.Plain.{plain}
use Rattle.lp_rows.proofs.Turns.{one_param}
use Rattle.lp_rows.proofs.listing.push_params.Goals as goal

pub params-preserved : goal.params-preserved
params-preserved c =
    let count : c.len-var-end.result ≡ length c.args.body.now.params.items = search rules in
    let less : c.params.var < length c.args.body.now.params.items = omega (arith, count, c.params-test.true) in
    one_param c.args.reach.types.now (func_of c.args.body.now) c.args.func (map plain c.params.list.items) (map plain c.push_units.new.list.items) _ c.params.var (length c.args.body.now.params.items) less c.params.invariant
    (c.in_ok-push_units.ensures ∙ ap (λ cons. map plain c.params.list.items ++ map (Param c.args.func c.params.var) cons) c.local_carriers-cons.ensures.is)
