-- Cited by contracts.
-- The cells that the runs of jobs leave that are served.
use Rattle.std.specs.Prelude.{ℕ, List, slice_get, Option, Some, None}
use Rattle.cell_span.specs.declared.cell.Cell.{Cell}
use Rattle.job_world.specs.Plans.{Plan, Planned, job_cells}

-- the cells that a job leaves, where it has a plan
abbrev pub cells_for : Planned → (job : ℕ) → Option Plan → Option (List Cell)
cells_for ps job None = None
cells_for ps job (Some p) = Some (job_cells ps job)

-- the cells that each job leaves by the machine; there are no other jobs than those of the plans
abbrev pub all_cells : Planned → (job : ℕ) → Option (List Cell)
all_cells ps job = cells_for ps job (slice_get ps.plans job)
