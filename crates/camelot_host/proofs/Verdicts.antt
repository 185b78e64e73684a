-- What is served, compiled or accepted isn't refused.
use Rattle.std.specs.Prelude.{codes}
use Rattle.std.proofs.Common.{◌≡◌, ℕ, List, sym, subst}
use Rattle.job_script.specs.Scripts.{Script}
use Rattle.job_script.specs.Text.{IsScriptText, IsLineFault, IsCountFault, IsRepeatFault}
use Rattle.job_script.specs.declared.reading.ScriptFault.{ScriptFault}
use Rattle.job_script.specs.declared.reading.ScriptFault.TheVariants as fault
use Rattle.lp_constraints.specs.declared.fault.NoCert.TheVariants.{NoBound}
use Rattle.cause_texts.specs.declared.cause.Cause.{Cause}
use Rattle.cause_texts.specs.declared.cause.Cause.TheVariants.{NoCert}
use Rattle.camelot_compiler.specs.Compiled.{Compiled, Bundled, IsCompiled, OfCode, NoneGrants}
use Rattle.camelot_compiler.specs.Licences.{IsCertifiedFor}
use Rattle.camelot_compiler.specs.Compiled as compiler
use Rattle.licence.specs.Licensed.{Licensed}
use Rattle.bundle_licence.specs.Bundled.{HasLicence, IsRefusedFor}
use Rattle.script_service.specs.Service.{IsScriptFault}
use Rattle.tenant_script.specs.Tenants.{TenantScript}
use Rattle.tenant_script.specs.Answers.{HasCause}
use Rattle.tenant_script.specs.Text as tenants
use Rattle.tenant_script.specs.declared.fault.TenantFault.{TenantFault}
use Rattle.tenant_script.specs.declared.fault.TenantFault.TheVariants as tenant_fault
use Rattle.camelot_host.specs.Commands.{Command, Serve, Compile, Verify, Migrate, Tenants, Sliced, Drill}
use Rattle.camelot_host.specs.Due.{Done, Refused, IsDue, IsMigrationOf, IsUnmigratedFor}
use Rattle.camelot_host.proofs.Telling.{bound_told}

-- a text that is a script of tenants has no fault of one
pub no_tenant_fault : ((text : List ℕ) (s : TenantScript) (n : ℕ) → tenants.IsTenantsText text s → tenants.IsLineFault text n → ⊥)
    → ((text : List ℕ) (s : TenantScript) (n : ℕ) → tenants.IsTenantsText text s → tenants.IsCountFault text n → ⊥)
    → ((text : List ℕ) (s : TenantScript) (n : ℕ) → tenants.IsTenantsText text s → tenants.IsRepeatFault text n → ⊥)
    → ((text : List ℕ) (s : TenantScript) (n : ℕ) → tenants.IsTenantsText text s → tenants.IsTenantFault text n → ⊥)
    → (text : List ℕ) (s : TenantScript) → tenants.IsTenantsText text s → (x : TenantFault) → HasCause text x → ⊥
no_tenant_fault line count repeat tenant text s h (tenant_fault.Line n) k = line text s n h k
no_tenant_fault line count repeat tenant text s h (tenant_fault.Count n) k = count text s n h k
no_tenant_fault line count repeat tenant text s h (tenant_fault.Repeat n) k = repeat text s n h k
no_tenant_fault line count repeat tenant text s h (tenant_fault.Tenant n) k = tenant text s n h k

pub one_verdict : ((text : List ℕ) (s : Script) (n : ℕ) → IsScriptText text s → IsLineFault text n → ⊥)
    → ((text : List ℕ) (s : Script) (n : ℕ) → IsScriptText text s → IsCountFault text n → ⊥)
    → ((text : List ℕ) (s : Script) (n : ℕ) → IsScriptText text s → IsRepeatFault text n → ⊥)
    → ((text : List ℕ) (first second : Compiled) → IsCompiled text first → IsCompiled text second → first ≡ second)
    → ((text : List ℕ) (l : Licensed) (c : Cause) → HasLicence text l → IsRefusedFor text c → ⊥)
    → ((input output : List ℕ) → IsMigrationOf input output → (c : Cause) → IsUnmigratedFor input c → ⊥)
    → ((text : List ℕ) (s : TenantScript) → tenants.IsTenantsText text s → (x : TenantFault) → HasCause text x → ⊥)
    → (command : Command) (input output other : List ℕ) → IsDue command input Done output → IsDue command input Refused other → ⊥
one_verdict line count repeat one apart migrating shared Serve input output other done refused = by_fault refused.fault refused.cause
  where
    by_fault : (x : ScriptFault) → IsScriptFault input x → ⊥
    by_fault (fault.Line n) h = line input done.service.script n done.served.text h
    by_fault (fault.Count n) h = count input done.service.script n done.served.text h
    by_fault (fault.Repeat n) h = repeat input done.service.script n done.served.text h
one_verdict line count repeat one apart migrating shared Compile input output other done refused = let e : Bundled done.code done.cert ≡ compiler.Refused refused.cause = one input (Bundled done.code done.cert) (compiler.Refused refused.cause) done.compiled refused.compiled in absurd cc
one_verdict line count repeat one apart migrating shared Verify input output other done refused = apart input done.licence refused.cause done.has refused.refused
one_verdict line count repeat one apart migrating shared Migrate input output other done refused = migrating input output done refused.cause refused.refused
one_verdict line count repeat one apart migrating shared Tenants input output other done refused = shared input done.served.script done.is_served.text refused.fault refused.cause
one_verdict line count repeat one apart migrating shared (Sliced steps) input output other done refused = by_fault refused.fault refused.cause
  where
    by_fault : (x : ScriptFault) → IsScriptFault input x → ⊥
    by_fault (fault.Line n) h = line input done.script n done.comes.text h
    by_fault (fault.Count n) h = count input done.script n done.comes.text h
    by_fault (fault.Repeat n) h = repeat input done.script n done.comes.text h
one_verdict line count repeat one apart migrating shared (Drill jobs workers) input output other done refused = refused

-- ---- what is told of a source

pub done_certified : ((text code cert : List ℕ) → IsCompiled text (Bundled code cert) → IsCertifiedFor text code cert)
    → (input output : List ℕ) (due : IsDue Compile input Done output) → IsCertifiedFor input due.code due.cert
done_certified law input output due = law input due.code due.cert due.compiled

pub refused_none : ((text : List ℕ) → IsCompiled text (compiler.Refused (NoCert NoBound)) → OfCode text NoneGrants)
    → (input output : List ℕ) (due : IsDue Compile input Refused output) → due.cause ≡ NoCert NoBound → OfCode input NoneGrants
refused_none law input output due e = law input (subst (λ x. IsCompiled input (compiler.Refused x)) e due.compiled)

pub told_none : ((text : List ℕ) → IsCompiled text (compiler.Refused (NoCert NoBound)) → OfCode text NoneGrants) → (input : List ℕ)
    → IsDue Compile input Refused (codes "refused no-bound\n") → OfCode input NoneGrants
told_none law input due = law input (subst (λ x. IsCompiled input (compiler.Refused x)) (bound_told due.cause (sym due.is)) due.compiled)
