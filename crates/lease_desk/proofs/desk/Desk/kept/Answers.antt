use Rattle.lease_desk.proofs.Steps.{sound_now, parts_now, returned_now}
use Rattle.lease_desk.proofs.desk.Desk.kept.Goals as goal

pub returns-clause-sound : goal.returns-clause-sound
returns-clause-sound g c = sound_now _ _ _ _ _ _ c.self.invariant.0 _ c.self.view_is

pub returns-clause-parts : goal.returns-clause-parts
returns-clause-parts g c = parts_now _ _ _ _ _ _ c.self.invariant.0 _ c.self.view_is

pub returns-clause-filed : goal.returns-clause-filed
returns-clause-filed g c = returned_now _ _ _ _ _ _ c.self.invariant.0 _ c.self.view_is
