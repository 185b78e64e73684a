use Rattle.std.proofs.Common.{arith}
use Rattle.cases_cells.proofs.Holding.{first_held}
use Rattle.cases_cells.proofs.desks.session.Session.open.Goals as goal

pub invariant_of-result : goal.invariant_of-result
invariant_of-result g c = first_held c.args.span c.args.sizes.items c.len-jobs.result c.places.result.items c.in-Ok-new.desk c.places.ensures (omega (arith, c.len-jobs.ensures, c.args.sizes.ok.0)) c.in-Ok-new.ensures
