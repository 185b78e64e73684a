use Rattle.std.proofs.Common.{length}
use Rattle.cases_cells.specs.Held.{FrontHeld}
use Rattle.cases_cells.proofs.desks.session.Session.finish.Given as goal

abbrev pub invariant-places : goal.invariant-places
invariant-places g l = FrontHeld l.held.items l.desk

abbrev pub decreases-places : goal.decreases-places
decreases-places g l = length l.held.items
