use Rattle.cases_cells.proofs.Readable.{verified_readable}
use Rattle.cases_cells.proofs.licences.jobs.licence_of.Goals as goal

pub returns-in-Ok : goal.returns-in-Ok
returns-in-Ok c = verified_readable c.in_ok-code.code.items c.in_ok-cert.cert.items c.in-Ok.licence c.in-Ok.ensures.found
