use Rattle.cases_cells.proofs.Leasing.{like_out}
use Rattle.cases_cells.proofs.tenants.session.Session.mark.Goals as goal

pub invariant_of-self : goal.invariant_of-self
invariant_of-self c = (
  like_out c.self.inside.leases.items c.take.new.leases.items c.push_reserved.new.self.items c.in-Some.lease c.mark-lease.result.0 c.self.inside.desk
      c.self.inside.outs.items c.self.invariant.0 c.in-Some.ensures.some c.mark-lease.ensures c.push_reserved.ensures.items,
  c.self.invariant.1,
)
