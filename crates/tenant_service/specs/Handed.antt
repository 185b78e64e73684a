-- Cited by contracts.
-- Why an input isn't answered.
use Rattle.std.specs.Prelude.{ℕ, List}
use Rattle.tenant_script.specs.Answers.{HasCause}
use Rattle.tenant_service.specs.declared.service.TenantsFault.{TenantsFault}
use Rattle.tenant_service.specs.declared.service.TenantsFault.TheVariants as fault

-- why an input is refused; nothing is said of want of memory
abbrev pub IsRefusedFor : List ℕ → TenantsFault → Type 0
IsRefusedFor input (fault.NoScript x) = HasCause input x
IsRefusedFor input fault.Memory = Unit {0}
