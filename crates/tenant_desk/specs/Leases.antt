-- Cited by contracts.
-- Leases of tenants, and the claims of leases whose spans are used.
use Rattle.std.specs.Prelude.{ℕ, length}
use Rattle.cell_span.specs.Arenas.{Arena}
use Rattle.cell_span.specs.Range.{Range}

-- a tenant, the index in the arena of its piece's first cell, and the range that it has
pub record LeaseView : Type 0 where
  pub tenant : ℕ
  pub piece : ℕ
  pub range : Range

abbrev pub lease : (tenant piece : ℕ) → Range → LeaseView
lease tenant piece range = record { tenant = tenant; piece = piece; range = range }

-- a tenant, where its piece begins, and where its range lies, in which arena
pub record ClaimView : Type 0 where
  pub tenant : ℕ
  pub piece : ℕ
  pub first : ℕ
  pub size : ℕ
  pub arena : Arena

abbrev pub claim_of : LeaseView → ClaimView
claim_of l = record {
  tenant = l.tenant;
  piece = l.piece;
  first = l.range.first;
  size = length l.range.cells;
  arena = l.range.arena;
}
