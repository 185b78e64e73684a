use Rattle.linear_use.proofs.Counts.{contained, absent}
use Rattle.linear_use.proofs.spent.Spent.contains.Goals as goal

pub returns-in-Some : goal.returns-in-Some
returns-in-Some c =
    contained c.self.inside.counts.items c.self.inside.log.items c.args.self.now c.deref.result.now c.args.number c.in-Some.count.now c.self.invariant c.self.view_is c.deref.ensures.value (c.in-Some.ensures.lookup.3.1 0)

pub returns-in-None : goal.returns-in-None
returns-in-None c =
    absent c.self.inside.counts.items c.self.inside.log.items c.args.self.now c.deref.result.now c.args.number c.self.invariant c.self.view_is c.deref.ensures.value c.in-None.ensures.lookup.3
