use Rattle.tenant_script.specs.Words.{tenant_view}
use Rattle.tenant_script.proofs.Taking.{tenant_stopped, tenant_large, tenant_named, tenant_taken}
use Rattle.tenant_script.proofs.Adding.{tenants_more}
use Rattle.tenant_script.proofs.reading.TenantReader.add_tenant.Goals as goal

pub returns-in-Err : goal.returns-in-Err
returns-in-Err c = rw c.refused.ensures (tenant_stopped c.in-Err.stop c.args.self.now c.args.line.now c.args.after.now c.args.rest.now c.requires.before c.requires.step c.in-Err.ensures)

pub returns-then-tenant-self : goal.returns-then-tenant-self
returns-then-tenant-self c = tenant_large c.args.self.now c.args.line.now c.args.after.now c.args.rest.now (tenant_view c.in-Ok.tenant) c.requires.before c.requires.step c.in-Ok.ensures.is c.if-tenant-self.true

pub returns-in-Err-add_name : goal.returns-in-Err-add_name
returns-in-Err-add_name c = rw c.refused-in-Err-add_name.ensures (tenant_named c.in-Err-add_name.stop c.args.self.now c.args.line.now c.args.after.now c.args.rest.now (tenant_view c.in-Ok.tenant) c.requires.before c.requires.tenants c.requires.step c.in-Ok.ensures.is c.in-Ok.ensures.fits c.if-tenant-self.false c.in-Err-add_name.ensures)

pub returns : goal.returns
returns c = tenant_taken c.args.self.now c.push.new.self c.add_name.new.names c.args.line.now c.args.after.now c.args.rest.now (tenant_view c.in-Ok.tenant) c.requires.before c.requires.tenants c.requires.step c.in-Ok.ensures.is c.in-Ok.ensures.fits c.if-tenant-self.false c.in-Ok-add_name.ensures (tenants_more c.args.self.now.tenants.items c.push.new.self.items c.in-Ok.tenant c.in-Ok-push.ensures.items)
