-- Private: words for functions of this crate.
-- Runs that go on behind a slice.
use Rattle.std.specs.Prelude.{◌≡◌}
use Rattle.cell_machine.specs.Running.{IsRunning}
use Rattle.cell_machine.specs.Views.{range_of}
use Rattle.cell_span.specs.Range.{IsWhole}
use Rattle.licence.specs.Licensed.{Licensed}
use Rattle.cases_cells.specs.declared.images.slices.Behind.{Behind}
use Rattle.cases_cells.specs.declared.images.slices.Behind.TheVariants as behind

-- where a run goes on, it is one of the licence's code, in a whole arena
abbrev pub GoesOn : Licensed → Behind → Type 0
GoesOn l (behind.Runs m) = IsRunning m × (m.code ≡ l.code) × IsWhole (range_of m)
GoesOn l (behind.Over ending) = Unit {0}
GoesOn l (behind.Refused fault) = Unit {0}
