use Rattle.std.proofs.Common.{List, [], ◌∷◌, ◌++◌, ◌∙◌, ap, refl, arith}
use Rattle.tenant_desk.specs.Leases.{LeaseView}
use Rattle.tenant_desk.specs.Desk.{Tenants}
use Rattle.cases_cells.proofs.Leasing.{granted_out}
use Rattle.cases_cells.proofs.tenants.session.Session.ask.Goals as goal

pub invariant_of-self-in-Granted : goal.invariant_of-self-in-Granted
invariant_of-self-in-Granted c = (
  granted_out c.law_of_leases.ensures.granted c.law_of_leases.ensures.beside c.self.inside.leases.items c.push_reserved.new.self.items c.self.inside.desk
      c.ask.new.self c.args.tenant c.args.size c.in-Granted.lease c.self.inside.outs.items _ c.index_mut.result.now _ c.kept.ensures c.kept-in-Granted.ensures
      (omega (arith, c.if-size-lt1.false)) c.in-Granted.ensures c.self.invariant.0 c.index_mut.ensures.value refl refl
      (c.push_reserved.ensures.items ∙ ap (λ (ls : List LeaseView). ls ++ c.in-Granted.lease ∷ []) c.reserve.ensures.items),
  ap (λ (d : Tenants). d.most) c.in-Granted.ensures.becomes ∙ c.self.invariant.1,
)
