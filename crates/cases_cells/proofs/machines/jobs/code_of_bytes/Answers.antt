use Rattle.std.proofs.Common.{subst, sym, refl}
use Rattle.std.specs.Prelude.{IsTrue, is_ok}
use Rattle.grail_code.specs.Code.{code_of}
use Rattle.cases_cells.proofs.Named.{good}
use Rattle.cases_cells.proofs.machines.jobs.code_of_bytes.Goals as goal

pub returns-in-Ok-2 : goal.returns-in-Ok-2
returns-in-Ok-2 c = good (code_of c.in-Ok.code) (c.in_ok-check_code.ensures.well_formed.0 (subst (λ a. IsTrue (is_ok a)) (sym c.in-Ok-2.is) refl)) c.in-Ok.ensures.found.fits
