use Rattle.std.proofs.Common.{arith, ◌≡◌, length}
use Rattle.tenant_service.proofs.Closing.{turn_held, turn_given, turn_end}
use Rattle.tenant_service.proofs.holdings.give_all.Goals as goal

pub give-requires : goal.give-requires
give-requires c = turn_held c.args.desk.now c.jobs.desk c.args.jobs.items c.jobs.jobs.items c.pop.new.self.items c.in-Some.job c.kept.ensures c.requires.last c.jobs.invariant
    c.in-Some.ensures.items

pub jobs-preserved : goal.jobs-preserved
jobs-preserved c = turn_given c.args.desk.now c.jobs.desk c.give.new.self c.args.jobs.items c.jobs.jobs.items c.pop.new.self.items c.in-Some.job c.jobs.invariant
    c.in-Some.ensures.items c.give.ensures

pub returns : goal.returns
returns c =
    let none : length c.jobs.jobs.items ≡ 0 = grind (arith, c.in_default.ensures.cases, c.jobs.jobs.ok) in
    turn_end c.args.desk.now c.jobs.desk c.args.jobs.items c.jobs.jobs.items c.jobs.invariant none
