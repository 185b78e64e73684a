use Rattle.cases_cells.proofs.Holding.{is_known, given_held}
use Rattle.cases_cells.proofs.desks.session.Session.withdraw.Goals as goal

pub withdraw-requires : goal.withdraw-requires
withdraw-requires g c = is_known c.self.inside.held.items c.self.inside.desk c.self.invariant c.args.job c.in-Some.lease c.in-Some.ensures.some.0

pub invariant_of-self : goal.invariant_of-self
invariant_of-self g c = given_held c.self.inside.held.items c.self.inside.desk c.self.invariant c.args.job c.in-Some.lease c.in-Some.ensures.some.0 _ _ c.take.new.held.items c.withdraw.new.self c.in-Some.ensures.some.1 c.withdraw.ensures
