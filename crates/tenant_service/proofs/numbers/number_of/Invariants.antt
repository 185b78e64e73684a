use Rattle.std.proofs.Common.{◌≡◌, map, drop}
use Rattle.std.specs.Prelude.{IsTrue}
use Rattle.camelot_values.specs.Names.{stands}
use Rattle.tenant_script.specs.Tenants.{tenant_names}
use Rattle.tenant_script.specs.Words.{tenant_view}
use Rattle.tenant_service.proofs.numbers.number_of.Given as goal

abbrev pub invariant-tenants : goal.invariant-tenants
invariant-tenants l = record { at : l.at ≡ l.tenant-index; known : IsTrue (stands (tenant_names (map tenant_view (drop l.tenant-index l.tenants))) l.name) }
