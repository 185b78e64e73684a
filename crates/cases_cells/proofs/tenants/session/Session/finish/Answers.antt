use Rattle.std.proofs.Common.{arith, ◌≡◌, length}
use Rattle.cases_cells.proofs.Leasing.{popped, given_out, none_out}
use Rattle.cases_cells.proofs.tenants.session.Session.finish.Goals as goal

pub leases-preserved : goal.leases-preserved
leases-preserved c = given_out c.law_of_leases.ensures.given c.leases.leases.items c.pop.new.self.items c.in-Some.lease c.leases.desk c.give_back.new.desk
    c.leases.outs.items c.give_back.new.outs.items c.leases.invariant (popped c.leases.leases.items c.pop.new.self.items c.in-Some.lease c.in-Some.ensures.items)
    c.give_back.ensures.given c.give_back.ensures.counts c.give_back.ensures.all

pub finish-requires : goal.finish-requires
finish-requires c =
    let none : length c.leases.leases.items ≡ 0 = grind (arith, c.in_default.ensures.cases, c.leases.leases.ok) in
    none_out c.leases.leases.items c.leases.desk c.leases.outs.items c.leases.invariant none
