use Rattle.std.proofs.Common.{◌∙◌, ap}
use Rattle.tenant_desk.specs.Desk.{Tenants}
use Rattle.cases_cells.proofs.Leasing.{first_held, given_out}
use Rattle.cases_cells.proofs.tenants.session.Session.give.Goals as goal

pub give_back-requires-clause-held : goal.give_back-requires-clause-held
give_back-requires-clause-held c = first_held c.self.inside.leases.items c.take.new.leases.items c.in-Some.lease c.self.inside.desk c.self.inside.outs.items
    c.self.invariant.0 c.in-Some.ensures.some

pub invariant_of-self : goal.invariant_of-self
invariant_of-self c = (
  given_out c.law_of_leases.ensures.given c.self.inside.leases.items c.take.new.leases.items c.in-Some.lease c.self.inside.desk c.give_back.new.desk
      c.self.inside.outs.items c.give_back.new.outs.items c.self.invariant.0 c.in-Some.ensures.some c.give_back.ensures.given c.give_back.ensures.counts
      c.give_back.ensures.all,
  ap (λ (d : Tenants). d.most) c.give_back.ensures.given.becomes ∙ c.self.invariant.1,
)
