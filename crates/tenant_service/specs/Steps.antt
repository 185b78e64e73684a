-- Private: words for functions of this crate.
-- What the code does for one line of a tenant, against what the tenant's room says.
use Rattle.std.specs.Prelude.{◌≡◌, ℕ, ◌<◌, List, length, map, slice_get, slice_set, Option, Some, None}
use Rattle.licence.specs.Licensed.{Licensed}
use Rattle.cell_machine.specs.Endings.{EndsWith}
use Rattle.tenant_desk.specs.Desk.{budget}
use Rattle.run_reports.specs.Told.{JobLine, Ended, TellsMeaning, licence_types}
use Rattle.tenant_service.specs.declared.holding.Came.{Came}
use Rattle.tenant_service.specs.declared.holding.Shared.{Shared}
use Rattle.tenant_service.specs.declared.holding.Started.{Started}
use Rattle.tenant_service.specs.declared.holding.Started.TheVariants as started
use Rattle.tenant_service.specs.Rooms as rooms
use Rattle.tenant_service.specs.Rooms.{Own, Starts, Finishes, Reply, Room, step}
use Rattle.tenant_service.specs.Holding.{AreRooms}

-- what the code holds stands for some rooms
pub record StandsForRooms (licences : List Licensed) (s : Shared) : Type 0 where
  pub rs : List Room
  pub are : AreRooms licences s rs

-- the same by whatever licences
pub record StandsForAny (s : Shared) : Type 0 where
  pub licences : List Licensed
  pub stands : StandsForRooms licences s

-- the tenant of this number is there, and holds fewer than so many jobs
pub record HoldsFewer (s : Shared) (tenant most : ℕ) : Type 0 where
  pub there : tenant < length s.desk.pieces
  pub few : (n : ℕ) → slice_get (map (λ v. length v.items) s.held.items) tenant ≡ Some n → n < most

-- what the code tells of a start is this reply
abbrev pub StartedIs : (name : List ℕ) → Started → Reply → Type 0
StartedIs name started.Held reply = reply ≡ rooms.Holds name
StartedIs name (started.Refused cause) reply = reply ≡ rooms.Refuses name cause
StartedIs name (started.Over held size limit) reply = reply ≡ rooms.IsOver name held size limit
StartedIs name (started.Full need most) reply = reply ≡ rooms.IsFull name need most
StartedIs name (started.Granted first size) reply = reply ≡ rooms.Started name first size

-- what came of a run is this line, which has a meaning
abbrev pub CameTo : List Licensed → Came → JobLine → Type 0
CameTo licences c (Ended types outcome fuel bound) =
    (types ≡ licence_types (slice_get licences c.licence)) × EndsWith outcome c.ending × (fuel ≡ c.fuel) × (bound ≡ c.bound) × TellsMeaning (Ended types outcome fuel bound)
CameTo licences c line = ⊥

pub record TellsLine (licences : List Licensed) (name : List ℕ) (c : Came) (reply : Reply) : Type 0 where
  pub line : JobLine
  pub is : reply ≡ rooms.Finished name line
  pub came : CameTo licences c line

-- what the code tells of a finish is this reply
abbrev pub FinishedIs : List Licensed → (name : List ℕ) → Option Came → Reply → Type 0
FinishedIs licences name None reply = reply ≡ rooms.Absent name
FinishedIs licences name (Some c) reply = TellsLine licences name c reply

-- One line of the tenant of this number was done: by its budget and its room the reply is one of which this is said, and
-- its room is the one behind that line. The rooms of the others and all budgets stay.
pub record IsDone (licences : List Licensed) (old new : Shared) (rs : List Room) (tenant : ℕ) (own : Own) (Told : Reply → Type 0) : Type 0 where
  pub room : Room
  pub there : slice_get rs tenant ≡ Some room
  pub limit : ℕ
  pub budgeted : slice_get (map budget old.desk.pieces) tenant ≡ Some limit
  pub told : Told (step limit room own).reply
  pub becomes : AreRooms licences new (slice_set rs tenant (step limit room own).room)
  pub budgets : map budget new.desk.pieces ≡ map budget old.desk.pieces
