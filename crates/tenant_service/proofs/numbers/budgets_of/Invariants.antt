use Rattle.std.proofs.Common.{◌≡◌, ◌++◌, map, drop}
use Rattle.tenant_script.specs.Words.{tenant_view}
use Rattle.tenant_service.specs.Running.{cells_of}
use Rattle.tenant_service.proofs.numbers.budgets_of.Given as goal

abbrev pub invariant-tenants : goal.invariant-tenants
invariant-tenants l = l.budgets.items ++ map cells_of (map tenant_view (drop l.tenant-index l.tenants)) ≡ map cells_of (map tenant_view l.tenants)
