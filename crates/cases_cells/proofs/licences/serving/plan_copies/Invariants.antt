use Rattle.std.proofs.Common.{◌<◌, length}
use Rattle.std.specs.Prelude.{slice_get, IsSomeAnd}
use Rattle.licence.specs.Licensed.{Licensed}
use Rattle.cases_cells.specs.Covered.{IsReadable}
use Rattle.cases_cells.proofs.licences.serving.plan_copies.Given as goal

abbrev pub invariant-copies : goal.invariant-copies
invariant-copies l = IsSomeAnd (slice_get l.jobs.licences 0) (λ (li : Licensed). IsReadable li.code × (l.call.entry < length li.code.funcs))
