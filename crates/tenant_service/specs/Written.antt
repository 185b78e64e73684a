-- Private: words for functions of this crate.
-- What is written for a script that was read.
use Rattle.std.specs.Prelude.{◌≡◌, ℕ, List, ◌++◌}
use Rattle.std.specs.List.{AllByRecursion}
use Rattle.run_reports.specs.declared.outcome.ProgramLine.{ProgramLine}
use Rattle.stops.specs.declared.stop.Stop.{Stop}
use Rattle.stops.specs.declared.stop.Stop.TheVariants as stop
use Rattle.script_plans.specs.Fates.{Fate}
use Rattle.tenant_script.specs.Tenants.{Tenant, Entry, TenantScript, IsTenantScript}
use Rattle.tenant_script.specs.declared.fault.TenantFault.{TenantFault}
use Rattle.tenant_service.specs.declared.service.TenantsFault.{TenantsFault}
use Rattle.tenant_service.specs.declared.service.TenantsFault.TheVariants as fault
use Rattle.tenant_service.specs.Texts.{answers_text, ends_text}
use Rattle.tenant_service.specs.Scripts.{Served, AreServed, AreFates, programs_text, first_rooms, served_text}
use Rattle.tenant_service.specs.Service.{all_answers}
use Rattle.tenant_service.specs.Running.{AreMeant, ItemIsShort, rooms_by, told_by}

-- this is written for these entries of these tenants, with these lines of programs
pub record IsWritten (ts : List Tenant) (items : List Entry) (lines : List ProgramLine) (output : List ℕ) : Type 0 where
  pub fates : List Fate
  pub are : AreFates items items fates
  pub meant : AreMeant (told_by ts (first_rooms ts) items fates)
  pub is : output ≡ programs_text items lines ++ answers_text (told_by ts (first_rooms ts) items fates) ++ ends_text ts (rooms_by ts (first_rooms ts) items fates)

-- a script with short texts
pub record CanBeServed (script : TenantScript) : Type 0 where
  pub right : IsTenantScript script
  pub short : AllByRecursion (ItemIsShort 4294967295) script.items

-- this is written for what comes of this script
pub record IsAnswerTo (script : TenantScript) (output : List ℕ) : Type 0 where
  pub served : Served
  pub same : served.script ≡ script
  pub are : AreServed served
  pub meant : AreMeant (all_answers served)
  pub is : output ≡ served_text served

abbrev pub tenants_fault : Stop TenantFault → TenantsFault
tenants_fault (stop.Fault x) = fault.NoScript x
tenants_fault stop.Memory = fault.Memory
