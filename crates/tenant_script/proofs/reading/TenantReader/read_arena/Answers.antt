use Rattle.tenant_script.proofs.Taking.{arena_stopped, arena_taken}
use Rattle.tenant_script.proofs.reading.TenantReader.read_arena.Goals as goal

pub returns-in-Err : goal.returns-in-Err
returns-in-Err c = rw c.refused.ensures (arena_stopped c.in-Err.stop c.args.self.now c.args.line.now c.args.after.now c.requires.stage c.requires.before c.in-Err.ensures)

pub returns-in-Ok : goal.returns-in-Ok
returns-in-Ok c = arena_taken c.args.self.now c.args.line.now c.args.after.now c.in-Ok.arena c.requires.stage c.requires.before c.in-Ok.ensures.is c.in-Ok.ensures.fits
