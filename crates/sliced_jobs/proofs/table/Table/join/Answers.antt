use Rattle.std.proofs.Common.{refl, ◌+◌, ◌-◌}
use Rattle.job_world.specs.Words.{plan_of}
use Rattle.sliced_jobs.specs.declared.table.Table.{Table}
use Rattle.sliced_jobs.proofs.Tables.{joined_is, joined_less}
use Rattle.sliced_jobs.proofs.table.Table.join.Goals as goal

pub returns-clause-table : goal.returns-clause-table
returns-clause-table c asked arena h = joined_is asked arena c.args.jobs.now c.args.self.now _ (plan_of c.plan.result.now) c.kept.ensures c.requires.fuels h c.plan.ensures.is c.requires.fits
    (record { g = _; job = refl; made = refl; image = refl; going = c.in_ok-push_back.ensures.items; next = refl; free = refl; endings = refl; numbers = refl; kits = refl })

pub returns-clause-less : goal.returns-clause-less
returns-clause-less c =
    let t = c.args.self.now in
    let u : Table = record {
      going = c.push_back.new.self;
      next = t.next + 1;
      free = t.free - c.plan.result.now.lease;
      endings = t.endings;
      numbers = t.numbers;
      kits = t.kits;
    } in
    joined_less c.args.jobs.now t u (plan_of c.plan.result.now) c.plan.ensures.is
    (record { g = _; job = refl; made = refl; image = refl; going = c.in_ok-push_back.ensures.items; next = refl; free = refl; endings = refl; numbers = refl; kits = refl })
