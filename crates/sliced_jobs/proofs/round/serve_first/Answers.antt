use Rattle.std.proofs.Common.{length, refl, sym, arith}
use Rattle.job_world.specs.Words.{plan_of}
use Rattle.sliced_jobs.specs.declared.table.Table.{Table}
use Rattle.sliced_jobs.proofs.Filing.{Turned, turned}
use Rattle.sliced_jobs.proofs.Tables.{made_few, lease_is, first_of}
use Rattle.sliced_jobs.proofs.round.serve_first.Goals as goal

-- the table without the job whose turn it is
abbrev without : goal.In-Ok → Table
without c =
    let t = c.args.table.now in record {
      going = c.pop_front.new.self;
      next = t.next;
      free = t.free;
      endings = t.endings;
      numbers = t.numbers;
      kits = c.take_turn-span.new.kits;
    }

turned_here : (c : goal.In-Ok) → Turned c.args.steps (length c.args.span.cells) c.args.jobs.now c.args.table.now c.file_turn.new.table c.plan.result.now.lease
turned_here c = turned c.args.steps (length c.args.span.cells) c.args.jobs.now c.args.table.now (without c) c.file_turn.new.table c.in-Some.going c.plan.result.now.lease
    c.take_turn-span.result.went c.requires.table c.in-Some.ensures.items (record { next = refl; free = refl; endings = refl; numbers = refl }) c.take_turn-span.ensures.kits
    c.take_turn-span.ensures.many c.take_turn-span.ensures.went (sym (lease_is c.args.jobs.now c.in-Some.going.job (plan_of c.plan.result.now) c.plan.ensures.is)) c.in-Ok.ensures.filed

pub file_turn-requires-clause-few : goal.file_turn-requires-clause-few
file_turn-requires-clause-few c = made_few c.args.steps c.args.jobs.now c.args.table.now.next c.in-Some.going
    (first_of c.args.steps c.args.jobs.now c.args.table.now.next c.in-Some.going c.pop_front.new.self.items c.args.table.now.going.items c.in-Some.ensures.items c.requires.table.going)

pub returns-in-Ok-clause-table : goal.returns-in-Ok-clause-table
returns-in-Ok-clause-table c = (turned_here c).table

pub returns-in-Ok-clause-less : goal.returns-in-Ok-clause-less
returns-in-Ok-clause-less c = (turned_here c).less

pub returns-in-Ok-clause-place : goal.returns-in-Ok-clause-place
returns-in-Ok-clause-place c k some few room = omega (arith, room, (turned_here c).rest k some few)
