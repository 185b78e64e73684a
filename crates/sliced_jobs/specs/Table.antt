-- Private: words for functions of this crate.
-- The jobs that are served, between two slices.
use Rattle.std.specs.Prelude.{◌≡◌, ℕ, ◌+◌, ◌-◌, ◌*◌, ◌<◌, ◌≤◌, ◌⊎◌, List, [], ◌∷◌, ◌++◌, length, slice_get, slice_set, Option, Some}
use Rattle.std.specs.Option.{option_map_or}
use Rattle.std.specs.List.{AllByRecursion}
use Rattle.licence.specs.Licensed.{Licensed}
use Rattle.cell_machine.specs.declared.machine.Ending.{Ending}
use Rattle.job_world.specs.Plans.{Plan, Planned}
use Rattle.sliced_jobs.specs.Kits.{AreKits}
use Rattle.sliced_jobs.specs.Ready.{HasRun, HasEnded, image_in}
use Rattle.sliced_jobs.specs.declared.job.Went.{Went}
use Rattle.sliced_jobs.specs.declared.job.Went.TheVariants as went
use Rattle.sliced_jobs.specs.declared.table.Going.{Going}
use Rattle.sliced_jobs.specs.declared.table.Table.{Table}

-- the cells that a job is leased
abbrev pub lease_at : Planned → (job : ℕ) → ℕ
lease_at ps job = option_map_or (λ (p : Plan). p.lease) (slice_get ps.plans job) 0

-- what all of these are leased
abbrev pub leased : Planned → List Going → ℕ
leased ps [] = 0
leased ps (g ∷ gs) = lease_at ps g.job + leased ps gs

-- more slices than any run takes
abbrev pub most_slices : ℕ
most_slices = 65792 * 1099511627776

-- at most so many slices come for these
abbrev pub slices_left : List Going → ℕ
slices_left [] = 0
slices_left (g ∷ gs) = most_slices - g.made + slices_left gs

-- the plan of this number, and its licence
pub record IsPlanAt (ps : Planned) (job : ℕ) (p : Plan) (l : Licensed) : Type 0 where
  pub plan : slice_get ps.plans job ≡ Some p
  pub licence : slice_get ps.licences p.licence ≡ Some l

-- the job was asked for, and is under way
pub record IsGoingOn (asked : ℕ) (ps : Planned) (next : ℕ) (g : Going) : Type 0 where
  pub before : g.job < next
  pub p : Plan
  pub l : Licensed
  pub at : IsPlanAt ps g.job p l
  pub run : HasRun asked l p g.made (image_in g.image)

-- its ending and its number of slices are there
pub record IsDone (asked : ℕ) (ps : Planned) (job : ℕ) (found : Option (Option Ending)) (told : Option ℕ) : Type 0 where
  pub p : Plan
  pub l : Licensed
  pub at : IsPlanAt ps job p l
  pub ending : Ending
  pub number : ℕ
  pub is : found ≡ Some (Some ending)
  pub many : told ≡ Some number
  pub ended : HasEnded asked l p number ending

-- one of these is of the job
abbrev pub IsAmong : (job : ℕ) → List Going → Type 0
IsAmong job [] = ⊥
IsAmong job (g ∷ gs) = (g.job ≡ job) ⊎ IsAmong job gs

-- Where these are under way, each job that was asked for is done or one of them. What they are leased, and the free
-- cells, are the arena.
pub record IsHeld (asked : ℕ) (ps : Planned) (arena : ℕ) (gs : List Going) (t : Table) : Type 0 where
  pub next : t.next ≤ length ps.plans
  pub cells : t.free + leased ps gs ≡ arena
  pub endings : length t.endings.items ≡ length ps.plans
  pub numbers : length t.numbers.items ≡ length ps.plans
  pub kits : length t.kits.items ≡ length ps.licences
  pub own : AreKits ps.licences t.kits.items
  pub going : AllByRecursion (IsGoingOn asked ps t.next) gs
  pub each : (job : ℕ) → job < t.next → IsDone asked ps job (slice_get t.endings.items job) (slice_get t.numbers.items job) ⊎ IsAmong job gs

abbrev pub IsTable : (asked : ℕ) → Planned → (arena : ℕ) → Table → Type 0
IsTable asked ps arena t = IsHeld asked ps arena t.going.items t

-- a job isn't asked for, or is under way
abbrev pub IsLeft : Planned → Table → Type 0
IsLeft ps t = (t.next < length ps.plans) ⊎ (1 ≤ length t.going.items)

-- at most so many joins and slices come
abbrev pub left_of : Planned → Table → ℕ
left_of ps t = slices_left t.going.items + (length ps.plans - t.next) * (most_slices + 1)

-- ---- how a slice of a job went

-- all but what is under way and the kits
pub record IsSameBut (t u : Table) : Type 0 where
  pub next : u.next ≡ t.next
  pub free : u.free ≡ t.free
  pub endings : u.endings.items ≡ t.endings.items
  pub numbers : u.numbers.items ≡ t.numbers.items

-- its ending is put down, and its lease is free
pub record IsPutDown (t u : Table) (g : Going) (cells : ℕ) (ending : Ending) : Type 0 where
  pub endings : u.endings.items ≡ slice_set t.endings.items g.job (Some ending)
  pub numbers : u.numbers.items ≡ slice_set t.numbers.items g.job (g.made + 1)
  pub free : u.free ≡ t.free + cells
  pub next : u.next ≡ t.next
  pub going : u.going.items ≡ t.going.items
  pub kits : u.kits.items ≡ t.kits.items

-- it stands behind the others, with its text
pub record IsBehindAll (t u : Table) (g : Going) (text : List ℕ) : Type 0 where
  pub new : Going
  pub job : new.job ≡ g.job
  pub made : new.made ≡ g.made + 1
  pub image : image_in new.image ≡ Some text
  pub going : u.going.items ≡ t.going.items ++ new ∷ []
  pub same : IsSameBut t u
  pub kits : u.kits.items ≡ t.kits.items

abbrev pub IsFiled : (t u : Table) (g : Going) (cells : ℕ) → Went → Type 0
IsFiled t u g cells (went.Ended ending) = IsPutDown t u g cells ending
IsFiled t u g cells (went.Paused text) = IsBehindAll t u g text.items
IsFiled t u g cells went.Short = ⊥
