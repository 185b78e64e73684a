use Rattle.std.proofs.Common.{ap, ◌∙◌, ◌++◌, [], ◌∷◌, Option}
use Rattle.lease_desk.specs.Lease.{LeaseView}
use Rattle.cases_cells.proofs.Holding.{empty_front, last_known, last_front}
use Rattle.cases_cells.proofs.desks.session.Session.finish.Goals as goal

pub withdraw-requires : goal.withdraw-requires
withdraw-requires g c = last_known c.places.held.items c.pop.new.self.items c.in-Some-place.lease c.places.desk c.places.invariant (c.in-Some.ensures.items ∙ ap (λ (x : Option LeaseView). c.pop.new.self.items ++ x ∷ []) c.in-Some-place.is)

pub places-preserved-in-Some-place : goal.places-preserved-in-Some-place
places-preserved-in-Some-place g c = last_front c.places.held.items c.pop.new.self.items c.in-Some-place.lease c.places.desk c.places.invariant (c.in-Some.ensures.items ∙ ap (λ (x : Option LeaseView). c.pop.new.self.items ++ x ∷ []) c.in-Some-place.is) _ _ c.withdraw.new.self c.withdraw.ensures

pub places-preserved : goal.places-preserved
places-preserved g c = empty_front c.places.held.items c.pop.new.self.items c.places.desk c.places.invariant (c.in-Some.ensures.items ∙ ap (λ (x : Option LeaseView). c.pop.new.self.items ++ x ∷ []) c.in-None.is)
