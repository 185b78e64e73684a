use Rattle.std.proofs.Common.{length}
use Rattle.cases_cells.specs.Tenanted.{AllOut}
use Rattle.cases_cells.proofs.tenants.session.Session.finish.Given as goal

abbrev pub invariant-leases : goal.invariant-leases
invariant-leases l = AllOut l.leases.items l.desk l.outs.items

abbrev pub decreases-leases : goal.decreases-leases
decreases-leases l = length l.leases.items
