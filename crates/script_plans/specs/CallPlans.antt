-- Cited by contracts.
-- The calls of a script's jobs as plans of runs.
use Rattle.std.specs.Prelude.{◌≡◌, ℕ, ◌≤◌, List, map}
use Rattle.camelot_values.specs.Value.{parts}
use Rattle.camelot_values.specs.Counts.{size_all}
use Rattle.licence.specs.Licensed.{IsLicensed, FitsEntry}
use Rattle.job_script.specs.Scripts.{Entry}
use Rattle.job_world.specs.Plans.{Planned}
use Rattle.job_world.specs.Plans as world
use Rattle.job_world.specs.Isolation.{CanHold}
use Rattle.script_plans.specs.Fates.{Call, Fate}
use Rattle.script_plans.specs.Lines.{run_of_plan, all_runs, sizes_of, all_left, planned_cells}

-- A call of licensed code: its entry is a function of it, and the arguments are of its kinds and have at most 65,536
-- nodes.
pub record IsLicensedCall (c : Call) : Type 0 where
  pub licensed : IsLicensed c.licence
  pub fits : FitsEntry c.licence c.entry c.args
  pub few : size_all (parts c.args) ≤ 65536

-- These plans are those of the calls of the jobs that go to the desk, in order, with their leases and the cells that
-- are left in them, and the arena can hold them.
pub record ArePlansOf (arena : ℕ) (entries : List Entry) (fates : List Fate) (ps : Planned) : Type 0 where
  pub can : CanHold arena ps
  pub runs : map (run_of_plan ps.licences) ps.plans ≡ all_runs arena entries fates
  pub leases : world.leases_of ps.plans ≡ sizes_of arena fates
  pub cells : planned_cells ps.licences ps.plans ≡ all_left arena entries fates

-- There are such plans.
pub record HavePlans (arena : ℕ) (entries : List Entry) (fates : List Fate) : Type 0 where
  pub planned : Planned
  pub are : ArePlansOf arena entries fates planned
