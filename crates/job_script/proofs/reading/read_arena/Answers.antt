use Rattle.job_script.proofs.Growing.{arena_early, arena_stopped, arena_read}
use Rattle.job_script.proofs.reading.read_arena.Goals as goal

pub returns-in_default : goal.returns-in_default
returns-in_default c = arena_early c.args.text.now c.in_default.ensures

pub returns-in-Ok : goal.returns-in-Ok
returns-in-Ok c = arena_read c.args.text.now c.in-Some.line.now c.in-Some.rest.now c.in-Ok.arena c.in-Some.ensures c.in-Ok.ensures.is c.in-Ok.ensures.fits

pub returns-in-Err : goal.returns-in-Err
returns-in-Err c = rw c.stop_at.ensures (arena_stopped c.in-Err.stop c.args.text.now c.in-Some.line.now c.in-Some.rest.now c.in-Some.ensures c.in-Err.ensures)
