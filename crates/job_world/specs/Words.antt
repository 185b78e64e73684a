-- Cited by contracts.
-- The plain data of the code's types.
use Rattle.std.specs.Prelude.{◌≡◌, List, map, slice_get, Some}
use Rattle.std.specs.List.{AllByRecursion}
use Rattle.camelot_values.specs.Counts.{cells_among}
use Rattle.licence.specs.Licensed.{Licensed}
use Rattle.job_world.specs.Plans.{Plan, Planned}
use Rattle.job_world.specs.declared.plan.Plan.{Plan as DeclaredPlan}

abbrev pub plan_of : DeclaredPlan → Plan
plan_of p = record { licence = p.licence; entry = p.entry; args = p.args.items; fuel = p.fuel; lease = p.lease }

abbrev pub planned : List Licensed → List DeclaredPlan → Planned
planned licences plans = record { licences = licences; plans = map plan_of plans }

-- its number of cells is that of its arguments, by the types of its licence
abbrev pub IsCounted : List Licensed → DeclaredPlan → Type 0
IsCounted licences p = (l : Licensed) → slice_get licences p.licence ≡ Some l → p.cells ≡ cells_among l.code.types p.args.items

-- the same of all plans
abbrev pub AreCounted : List Licensed → List DeclaredPlan → Type 0
AreCounted licences plans = AllByRecursion (IsCounted licences) plans
