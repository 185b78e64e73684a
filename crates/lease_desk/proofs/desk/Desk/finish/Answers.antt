use Rattle.lease_desk.proofs.Keeping.{whole_of}
use Rattle.lease_desk.proofs.Steps.{filed_now}
use Rattle.lease_desk.proofs.desk.Desk.finish.Goals as goal

pub returns-clause-whole : goal.returns-clause-whole
returns-clause-whole g c = whole_of _ _ _ _ _ _ c.self.invariant.0 c.finish.result c.finish.ensures.base c.finish.ensures.arena

pub returns-clause-filed : goal.returns-clause-filed
returns-clause-filed g c = filed_now _ _ _ _ _ _ c.self.invariant.0 _ c.self.view_is c.requires
