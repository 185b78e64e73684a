use Rattle.std.proofs.Common.{length, map}
use Rattle.tenant_service.specs.Closing.{AllOut}
use Rattle.tenant_service.proofs.rooms.close_rooms.Given as goal

abbrev pub invariant-tenants : goal.invariant-tenants
invariant-tenants l = AllOut l.desk (map (λ v. v.items) l.held.items)

abbrev pub decreases-tenants : goal.decreases-tenants
decreases-tenants l = length l.held.items
