use Rattle.std.proofs.Common.{ap, arith}
use Rattle.tenant_desk.specs.Desk.{Tenants}
use Rattle.cases_cells.proofs.Leasing.{first_out}
use Rattle.cases_cells.proofs.tenants.session.Session.open.Goals as goal

pub invariant_of-result : goal.invariant_of-result
invariant_of-result c = (
  first_out c.args.span c.args.budgets.items c.args.most c.len.result c.in-Ok-new.desk c.in-Ok.outs.items c.new-in-Ok-new.result.items
      c.in-Ok-new.ensures (c.in-Ok.ensures.items_if_clones_equal (λ y e. e)) (omega (arith, c.len.ensures, c.args.budgets.ok.0)) c.new-in-Ok-new.ensures.items,
  ap (λ (d : Tenants). d.most) c.in-Ok-new.ensures,
)
