use Rattle.job_script.proofs.Growing.{workers_early, workers_stopped, workers_read}
use Rattle.job_script.proofs.reading.read_workers.Goals as goal

pub returns-in_default : goal.returns-in_default
returns-in_default c = workers_early c.args.text.now c.args.arena c.args.rest.now c.requires c.in_default.ensures

pub returns-in-Ok : goal.returns-in-Ok
returns-in-Ok c = workers_read c.args.text.now c.args.arena c.args.rest.now c.in-Some.line.now c.in-Some.after.now c.in-Ok.workers c.requires c.in-Some.ensures c.in-Ok.ensures.is c.in-Ok.ensures.fits

pub returns-in-Err : goal.returns-in-Err
returns-in-Err c = rw c.stop_at.ensures (workers_stopped c.in-Err.stop c.args.text.now c.args.arena c.args.rest.now c.in-Some.line.now c.in-Some.after.now c.requires c.in-Some.ensures c.in-Err.ensures)
