-- Cited by contracts.
-- What comes of a script, as a world in which its jobs run beside each other.
use Rattle.std.specs.Prelude.{◌≡◌, List}
use Rattle.job_world.specs.Plans.{Planned}
use Rattle.job_world.specs.World.{WorldEvent, world}
use Rattle.script_plans.specs.CallPlans.{ArePlansOf}
use Rattle.script_service.specs.Service.{Service}

-- There are plans that the arena can hold, those of the calls of the jobs that went to the desk, and events of their
-- world, behind which the world has the service's journal and the cells of its arena.
pub record IsOfWorld (s : Service) : Type 0 where
  pub planned : Planned
  pub are : ArePlansOf s.script.arena s.script.items s.fates planned
  pub events : List WorldEvent
  pub told : (world s.script.arena planned events).journal ≡ s.journal
  pub cells : s.arena.cells ≡ (world s.script.arena planned events).cells
