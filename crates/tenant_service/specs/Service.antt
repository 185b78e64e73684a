-- Cited by contracts.
-- What comes of an input, and what `tenants` writes for it.
use Rattle.std.specs.Prelude.{◌≡◌, ℕ, List, ◌++◌, codes, decimal}
use Rattle.std.specs.List.{AllByRecursion}
use Rattle.run_reports.specs.Told.{TellsMeaning}
use Rattle.tenant_script.specs.Tenants.{TenantScript}
use Rattle.tenant_script.specs.Text.{IsTenantsText}
use Rattle.tenant_script.specs.Answers.{HasCause}
use Rattle.tenant_script.specs.declared.fault.TenantFault.{TenantFault}
use Rattle.tenant_script.specs.declared.fault.TenantFault.TheVariants as tenant_fault
use Rattle.tenant_service.specs.Rooms.{Reply, Finished}
use Rattle.tenant_service.specs.Replies.{Answer, answers}
use Rattle.tenant_service.specs.Scripts.{Served, AreServed, served_text, budget_among, first_rooms, lines_from}

-- ---- what comes of a script

-- what is told of a run that is finished has a meaning
abbrev pub ReplyIsMeant : Reply → Type 0
ReplyIsMeant (Finished name line) = TellsMeaning line
ReplyIsMeant reply = Unit {0}

-- all that is told
abbrev pub all_answers : Served → List Answer
all_answers s = answers (budget_among s.script.tenants) (first_rooms s.script.tenants) (lines_from s.script.items s.fates)

-- The input is the text of the script, and of no other one. Each program has its own line, and each start its own fate,
-- by the programs of the script; and each run that is told of comes to something.
pub record IsServedFor (input : List ℕ) (s : Served) : Type 0 where
  pub text : IsTenantsText input s.script
  pub only : (t : TenantScript) → IsTenantsText input t → t ≡ s.script
  pub are : AreServed s
  pub meant : AllByRecursion (λ (a : Answer). ReplyIsMeant a.reply) (all_answers s)

-- The output is what is written for what comes of the input.
pub record IsReplied (input output : List ℕ) : Type 0 where
  pub served : Served
  pub is_served : IsServedFor input served
  pub is : output ≡ served_text served

-- ---- inputs that aren't served

-- what is told of the first wrong line of an input that is no script of tenants
unfoldable pub fault_text : TenantFault → List ℕ
fault_text (tenant_fault.Line line) = codes "refused script line " ++ decimal line ++ codes " line\n"
fault_text (tenant_fault.Count line) = codes "refused script line " ++ decimal line ++ codes " count\n"
fault_text (tenant_fault.Repeat line) = codes "refused script line " ++ decimal line ++ codes " repeat\n"
fault_text (tenant_fault.Tenant line) = codes "refused script line " ++ decimal line ++ codes " tenant\n"

-- the input is no script of tenants, and the output tells its first wrong line and what is wrong with it
pub record IsRefusal (input output : List ℕ) : Type 0 where
  pub fault : TenantFault
  pub cause : HasCause input fault
  pub is : output ≡ fault_text fault
