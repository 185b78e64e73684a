-- Private: words for functions of this crate.
-- What the code holds of each tenant, and the room that it stands for.
use Rattle.std.specs.Prelude.{◌≡◌, ℕ, suc, ◌≤◌, List, [], ◌∷◌, length, map, slice_get, Option, Some, None, Result, Ok, Err}
use Rattle.std.specs.List.{AllByRecursion}
use Rattle.grail_code.specs.Meaning.{run_of}
use Rattle.licence.specs.Licensed.{Licensed}
use Rattle.cell_machine.specs.State.{most_calls}
use Rattle.cell_machine.specs.Views.{IsStackFor}
use Rattle.hole_list.specs.Placing.{IsOut, total}
use Rattle.hole_list.specs.Holes.{Holed, run_of as place_of}
use Rattle.tenant_desk.specs.Kept.{AreTenants}
use Rattle.tenant_desk.specs.Shifts.{shift}
use Rattle.run_reports.specs.declared.outcome.JobCause.{JobCause}
use Rattle.job_world.specs.declared.call.Call.{Call as DeclaredCall}
use Rattle.script_plans.specs.Programs.{value_types}
use Rattle.script_plans.specs.Fates.{Call, Fate, Unfit, Calls, outcome_of, bound_of, lease_of}
use Rattle.script_plans.specs.CallPlans.{IsLicensedCall}
use Rattle.tenant_service.specs.declared.holding.Holding.{Holding as DeclaredHolding}
use Rattle.tenant_service.specs.declared.holding.Shared.{Shared}
use Rattle.tenant_service.specs.declared.holding.Spare.{Spare}
use Rattle.tenant_service.specs.Rooms.{Holding, Room, cells_held}

-- ---- calls

-- The code's call is this one: its licence has this number, and its function, arguments, bound and lease are the call's.
-- A run of its code is what the program means.
pub record IsCallOf (licences : List Licensed) (fuel : ℕ) (d : DeclaredCall) (c : Call) : Type 0 where
  pub licence : slice_get licences d.licence ≡ Some c.licence
  pub entry : d.entry ≡ c.entry
  pub args : d.args.items ≡ c.args
  pub bound : d.needs.bound ≡ bound_of c
  pub lease : d.needs.lease ≡ lease_of c
  pub fuelled : d.fuel ≡ fuel
  pub some_fuel : 1 ≤ fuel
  pub few_fuel : fuel ≤ 1099511627776
  pub licensed : IsLicensedCall c
  pub types : c.licence.code.types ≡ value_types c.meaning
  pub run : run_of c.licence.code most_calls c.entry fuel c.args ≡ outcome_of c fuel

-- what is asked for is the fate: this call, or this cause
abbrev pub IsFateOf : List Licensed → (fuel : ℕ) → Result DeclaredCall JobCause → Fate → Type 0
IsFateOf licences fuel (Ok d) (Calls c) = IsCallOf licences fuel d c
IsFateOf licences fuel (Ok d) (Unfit cause) = ⊥
IsFateOf licences fuel (Err cause) (Calls c) = ⊥
IsFateOf licences fuel (Err cause) (Unfit told) = told ≡ cause

-- ---- rooms

-- a job that is held: its lease is of this tenant and its piece, and lies where its place says, counted in the piece
pub record IsHolding (licences : List Licensed) (tenant : ℕ) (piece : Holed) (d : DeclaredHolding) (h : Holding) : Type 0 where
  pub name : d.name.now ≡ h.name
  pub call : IsCallOf licences h.fuel d.call h.call
  pub owner : d.lease.tenant ≡ tenant
  pub from : d.lease.piece ≡ piece.base.first
  pub place : place_of d.lease.range ≡ shift piece.base.first h.place
  pub size : h.place.size ≡ lease_of h.call
  pub out : IsOut piece.out (place_of d.lease.range)
  pub arena : d.lease.range.arena ≡ piece.arena

-- one for each
abbrev pub AreHolding : List Licensed → (tenant : ℕ) → Holed → List DeclaredHolding → List Holding → Type 0
AreHolding licences tenant piece [] [] = Unit {0}
AreHolding licences tenant piece (d ∷ ds) (h ∷ hs) = IsHolding licences tenant piece d h × AreHolding licences tenant piece ds hs
AreHolding licences tenant piece ds hs = ⊥

-- the first index of each is another one
abbrev pub BeginApart : List Holding → Type 0
BeginApart [] = Unit {0}
BeginApart (h ∷ hs) = AllByRecursion (λ (k : Holding). k.place.first ≡ h.place.first → ⊥) hs × BeginApart hs

-- The piece of this tenant and what it holds are the room: the holes are the room's, counted in the arena, and no cells
-- are out but those of the jobs that are held.
pub record IsRoom (licences : List Licensed) (tenant : ℕ) (piece : Holed) (ds : List DeclaredHolding) (room : Room) : Type 0 where
  pub holes : map place_of piece.holes ≡ map (shift piece.base.first) room.holes
  pub held : AreHolding licences tenant piece ds room.held
  pub apart : BeginApart room.held
  pub sum : total piece.out ≡ cells_held room.held
  pub count : length piece.out ≡ length room.held

-- the same of all tenants, the first of which has this number
abbrev pub AreRoomsFrom : List Licensed → (tenant : ℕ) → List Holed → List (List DeclaredHolding) → List Room → Type 0
AreRoomsFrom licences tenant [] [] [] = Unit {0}
AreRoomsFrom licences tenant (p ∷ ps) (h ∷ hs) (r ∷ rs) = IsRoom licences tenant p h r × AreRoomsFrom licences (suc tenant) ps hs rs
AreRoomsFrom licences tenant ps hs rs = ⊥

-- the stack that is kept is one for the runs of the licence of its number
abbrev pub IsSpare : List Licensed → Option Spare → Type 0
IsSpare licences None = Unit {0}
IsSpare licences (Some k) = (l : Licensed) → slice_get licences k.licence ≡ Some l → IsStackFor l.code k.stack

-- what the code holds is these rooms
pub record AreRooms (licences : List Licensed) (s : Shared) (rs : List Room) : Type 0 where
  pub tenants : AreTenants s.desk
  pub most : s.desk.most ≡ 4096
  pub spare : IsSpare licences s.spare
  pub rooms : AreRoomsFrom licences 0 s.desk.pieces (map (λ v. v.items) s.held.items) rs
