use Rattle.cases_cells.proofs.Holding.{back_held}
use Rattle.cases_cells.proofs.desks.session.Session.mark.Goals as goal

pub invariant_of-self : goal.invariant_of-self
invariant_of-self g c =
    back_held c.self.inside.held.items c.self.inside.desk c.self.invariant c.args.job c.in-Some.lease c.in-Some.ensures.some.0
    c.mark.result c.take.new.held.items c.mark.ensures.job c.in-Some.ensures.some.1 c.mark.ensures.run c.keep.new.held.items c.keep.ensures
