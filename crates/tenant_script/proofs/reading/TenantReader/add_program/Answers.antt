use Rattle.tenant_script.proofs.Adding.{program_stopped}
use Rattle.tenant_script.proofs.reading.TenantReader.add_program.Goals as goal

pub returns-in-Err : goal.returns-in-Err
returns-in-Err c = rw c.refused.ensures (program_stopped c.in-Err.stop c.args.self.now c.args.line.now c.args.after.now c.args.rest.now c.requires.stage c.requires.head c.in-Err.ensures)
