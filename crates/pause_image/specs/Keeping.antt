-- Cited by contracts.
-- States that can be put aside.
use Rattle.std.specs.Prelude.{◌+◌, ◌≤◌, length}
use Rattle.licence.specs.Books.{book_of}
use Rattle.licence.specs.Licensed.{Licensed}
use Rattle.cell_machine.specs.State.{Configuration, most_calls}
use Rattle.cell_machine.specs.Counted.{IsFit}

-- A fit state whose counters are within the ranges of an image.
pub record IsKeepable (l : Licensed) (s : Configuration) : Type 0 where
  pub fit : IsFit l.code (book_of l.cert) most_calls s
  pub peak : s.peak ≤ 1099511627776
  pub steps : s.calls + s.fuel ≤ 1099511627776
  -- net and free cells together are at most the cells
  pub within : length fit.sound.free + s.peak ≤ length s.cells + s.low
