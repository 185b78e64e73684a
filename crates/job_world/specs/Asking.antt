-- Cited by contracts.
-- What a plan asks for, and when it isn't made.
use Rattle.std.specs.Prelude.{◌≡◌, ℕ, ◌<◌, ◌≤◌, List, slice_get, Some, IsSomeAnd}
use Rattle.camelot_values.specs.Value.{Value, parts}
use Rattle.camelot_values.specs.Counts.{size_all}
use Rattle.licence.specs.Bound.{bound, lease}
use Rattle.licence.specs.Licensed.{Licensed, FitsEntry}
use Rattle.job_world.specs.declared.call.Call.{Call}
use Rattle.job_world.specs.declared.fault.AddFault.{AddFault}
use Rattle.job_world.specs.declared.fault.AddFault.TheVariants as fault

-- what a lease is asked of: an entry of the licence of this number, and arguments of its kinds with at most 65,536
-- nodes
pub record NeedsOf (licences : List Licensed) (licence entry : ℕ) (args : List Value) : Type 0 where
  pub fits : IsSomeAnd (slice_get licences licence) (λ l. FitsEntry l entry args)
  pub few : size_all (parts args) ≤ 65536

-- and fuel
pub record CanPlan (licences : List Licensed) (licence entry : ℕ) (args : List Value) (fuel : ℕ) : Type 0 where
  pub needs : NeedsOf licences licence entry args
  pub some_fuel : 1 ≤ fuel

-- a call can be planned, and its bound and its lease are those of its licence
pub record IsCall (licences : List Licensed) (call : Call) : Type 0 where
  pub can : CanPlan licences call.licence call.entry call.args.items call.fuel
  pub bounded : (l : Licensed) → slice_get licences call.licence ≡ Some l → call.needs.bound ≡ bound l.code l.cert call.entry call.args.items
  pub leased : (l : Licensed) → slice_get licences call.licence ≡ Some l → call.needs.lease ≡ lease l.code l.cert call.entry call.args.items

-- the lease has so many cells, and the arena fewer; nothing is said of want of memory
abbrev pub IsLarger : List Licensed → (licence entry : ℕ) → List Value → (arena : ℕ) → AddFault → Type 0
IsLarger licences licence entry args arena (fault.Larger needs) = (l : Licensed) → slice_get licences licence ≡ Some l → (needs ≡ lease l.code l.cert entry args) × (arena < needs)
IsLarger licences licence entry args arena fault.Memory = Unit {0}
