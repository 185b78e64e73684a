-- Private: words for functions of this crate.
-- A job that is granted its cells, and one whose cells go back.
use Rattle.std.specs.Prelude.{◌≡◌, ℕ, ◌-◌, List, [], ◌∷◌, ◌++◌, map}
use Rattle.tenant_desk.specs.Leases.{LeaseView}
use Rattle.tenant_desk.specs.Desk.{Tenants, IsGranted, IsOver, IsFull}
use Rattle.job_world.specs.declared.call.Call.{Call as DeclaredCall}
use Rattle.tenant_service.specs.declared.holding.Holding.{Holding as DeclaredHolding}
use Rattle.tenant_service.specs.declared.holding.Started.{Started}
use Rattle.tenant_service.specs.declared.holding.Started.TheVariants as started

-- the names of jobs that are held
abbrev pub names_of : List DeclaredHolding → List (List ℕ)
names_of ds = map (λ (d : DeclaredHolding). d.name.now) ds

-- the desk grants the cells, and the job is held in them behind the others
pub record IsHeldNow (old new : Tenants) (was now : List DeclaredHolding) (tenant : ℕ) (name : List ℕ) (call : DeclaredCall) (size first told : ℕ) : Type 0 where
  pub lease : LeaseView
  pub granted : IsGranted old new tenant size lease
  pub job : DeclaredHolding
  pub name_is : job.name.now ≡ name
  pub call_is : job.call ≡ call
  pub lease_is : job.lease ≡ lease
  pub held : now ≡ was ++ job ∷ []
  pub first_is : first ≡ lease.range.first - lease.piece
  pub size_is : told ≡ size

-- what comes of asking for so many cells for a job
abbrev pub GrantIs : (old new : Tenants) (was now : List DeclaredHolding) (tenant : ℕ) (name : List ℕ) (call : DeclaredCall) (size : ℕ) → Started → Type 0
GrantIs old new was now tenant name call size started.Held = ⊥
GrantIs old new was now tenant name call size (started.Refused cause) = ⊥
GrantIs old new was now tenant name call size (started.Over held asked limit) = IsOver old new tenant size held asked limit × (now ≡ was)
GrantIs old new was now tenant name call size (started.Full need most) = IsFull old new tenant size need most × (now ≡ was)
GrantIs old new was now tenant name call size (started.Granted first told) = IsHeldNow old new was now tenant name call size first told
