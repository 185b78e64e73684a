use Rattle.cases_cells.proofs.Holding.{taken_held}
use Rattle.cases_cells.proofs.desks.session.Session.ask_left.Goals as goal

pub invariant_of-self : goal.invariant_of-self
invariant_of-self g c = taken_held c.self.inside.held.items c.self.inside.desk c.self.invariant _ c.next_left.new.self c.in-Some.lease c.granted.new.held.items c.in-Some.ensures c.granted.ensures
