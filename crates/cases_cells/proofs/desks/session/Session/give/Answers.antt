use Rattle.std.proofs.Common.{refl}
use Rattle.cases_cells.proofs.Holding.{is_known, given_held, is_back, back_held}
use Rattle.cases_cells.proofs.desks.session.Session.give.Goals as goal

pub give-requires-clause-known : goal.give-requires-clause-known
give-requires-clause-known g c = is_known c.self.inside.held.items c.self.inside.desk c.self.invariant c.args.job c.in-Some.lease c.in-Some.ensures.some.0

pub invariant_of-self-in-Ok : goal.invariant_of-self-in-Ok
invariant_of-self-in-Ok g c = given_held c.self.inside.held.items c.self.inside.desk c.self.invariant c.args.job c.in-Some.lease c.in-Some.ensures.some.0 _ _ c.take.new.held.items c.give.new.self c.in-Some.ensures.some.1 c.give.ensures

pub keep-requires : goal.keep-requires
keep-requires g c = is_back c.self.inside.held.items c.self.inside.desk c.self.invariant c.args.job c.in-Some.lease c.in-Some.ensures.some.0 c.in-Some.lease c.take.new.held.items refl c.in-Some.ensures.some.1

pub invariant_of-self-in-Err : goal.invariant_of-self-in-Err
invariant_of-self-in-Err g c =
    back_held c.self.inside.held.items c.self.inside.desk c.self.invariant c.args.job c.in-Some.lease c.in-Some.ensures.some.0
    c.in-Some.lease c.take.new.held.items refl c.in-Some.ensures.some.1 refl c.keep.new.held.items c.keep.ensures
