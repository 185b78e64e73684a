-- What is due for an input that is no script, and for a drill.
use Rattle.std.proofs.Common.{◌≡◌, ℕ, List}
use Rattle.job_script.specs.declared.reading.ScriptFault.{ScriptFault}
use Rattle.script_service.specs.Service.{IsScriptFault, IsRefusal, fault_text}
use Rattle.tenant_script.specs.Answers.{HasCause}
use Rattle.tenant_script.specs.declared.fault.TenantFault.{TenantFault}
use Rattle.tenant_service.specs.Service as tenants

pub no_script : (input output : List ℕ) (fault : ScriptFault) → IsScriptFault input fault → output ≡ fault_text fault → IsRefusal input output
no_script input output fault cause is = record { fault = fault; cause = cause; is = is }

pub no_tenants : (input output : List ℕ) (fault : TenantFault) → HasCause input fault → output ≡ tenants.fault_text fault → tenants.IsRefusal input output
no_tenants input output fault cause is = record { fault = fault; cause = cause; is = is }
