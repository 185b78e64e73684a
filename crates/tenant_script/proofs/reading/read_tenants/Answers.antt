use Rattle.tenant_script.specs.Words.{script_view}
use Rattle.tenant_script.specs.declared.fault.TenantFault.TheVariants as fault
use Rattle.tenant_script.proofs.Answering.{fault_script, script_stop, fault_due}
use Rattle.tenant_script.proofs.reading.read_tenants.Goals as goal

pub returns-in-Ok-clause-line : goal.returns-in-Ok-clause-line
returns-in-Ok-clause-line c = λ line h. fault_script c.args.bytes.now (fault.Line line) (script_view c.in-Ok.script) h c.in-Ok.ensures

pub returns-in-Ok-clause-count : goal.returns-in-Ok-clause-count
returns-in-Ok-clause-count c = λ line h. fault_script c.args.bytes.now (fault.Count line) (script_view c.in-Ok.script) h c.in-Ok.ensures

pub returns-in-Ok-clause-repeat : goal.returns-in-Ok-clause-repeat
returns-in-Ok-clause-repeat c = λ line h. fault_script c.args.bytes.now (fault.Repeat line) (script_view c.in-Ok.script) h c.in-Ok.ensures

pub returns-in-Err-clause-read : goal.returns-in-Err-clause-read
returns-in-Err-clause-read c = λ script h. script_stop c.args.bytes.now c.in-Err.stop script c.in-Err.ensures h

pub returns-in-Err-clause-line : goal.returns-in-Err-clause-line
returns-in-Err-clause-line c = λ line h. fault_due c.args.bytes.now c.in-Err.stop (fault.Line line) c.in-Err.ensures h

pub returns-in-Err-clause-count : goal.returns-in-Err-clause-count
returns-in-Err-clause-count c = λ line h. fault_due c.args.bytes.now c.in-Err.stop (fault.Count line) c.in-Err.ensures h

pub returns-in-Err-clause-repeat : goal.returns-in-Err-clause-repeat
returns-in-Err-clause-repeat c = λ line h. fault_due c.args.bytes.now c.in-Err.stop (fault.Repeat line) c.in-Err.ensures h

pub returns-in-Ok-clause-tenant : goal.returns-in-Ok-clause-tenant
returns-in-Ok-clause-tenant c = λ line h. fault_script c.args.bytes.now (fault.Tenant line) (script_view c.in-Ok.script) h c.in-Ok.ensures

pub returns-in-Err-clause-tenant : goal.returns-in-Err-clause-tenant
returns-in-Err-clause-tenant c = λ line h. fault_due c.args.bytes.now c.in-Err.stop (fault.Tenant line) c.in-Err.ensures h
