-- Cited by contracts.
-- What stands behind each answer of the reader.
use Rattle.std.specs.Prelude.{ℕ, List}
use Rattle.tenant_script.specs.Text.{IsLineFault, IsCountFault, IsRepeatFault, IsTenantFault}
use Rattle.tenant_script.specs.declared.fault.TenantFault.{TenantFault}
use Rattle.tenant_script.specs.declared.fault.TenantFault.TheVariants as fault

-- the cause of the fault
abbrev pub HasCause : List ℕ → TenantFault → Type 0
HasCause text (fault.Line line) = IsLineFault text line
HasCause text (fault.Count line) = IsCountFault text line
HasCause text (fault.Repeat line) = IsRepeatFault text line
HasCause text (fault.Tenant line) = IsTenantFault text line
