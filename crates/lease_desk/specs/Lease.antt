-- Cited by contracts.
-- Leases, and the claims of leases whose spans are used.
use Rattle.std.specs.Prelude.{ℕ, length}
use Rattle.cell_span.specs.Arenas.{Arena}
use Rattle.cell_span.specs.Range.{Range}

-- a job, and the range that it has
pub record LeaseView : Type 0 where
  pub job : ℕ
  pub range : Range

abbrev pub lease : ℕ → Range → LeaseView
lease job range = record { job = job; range = range }

-- a job, and where its range lies, in which arena
pub record ClaimView : Type 0 where
  pub job : ℕ
  pub first : ℕ
  pub size : ℕ
  pub arena : Arena

abbrev pub claim_of : LeaseView → ClaimView
claim_of l = record { job = l.job; first = l.range.first; size = length l.range.cells; arena = l.range.arena }
