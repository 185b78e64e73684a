use Rattle.tenant_script.proofs.Adding.{program_named, program_opened}
use Rattle.tenant_script.proofs.reading.TenantReader.open_program.Goals as goal

pub returns-in-Err : goal.returns-in-Err
returns-in-Err c = rw c.refused.ensures (program_named c.in-Err.stop c.args.self.now c.args.line.now c.args.after.now c.args.name.now c.args.language c.requires.stage c.requires.before c.requires.head c.in-Err.ensures)

pub returns : goal.returns
returns c = program_opened c.args.self.now c.add_name.new.names c.args.line.now c.args.after c.args.name c.args.language c.requires.stage c.requires.before c.requires.before.short c.requires.head c.in-Ok.ensures
