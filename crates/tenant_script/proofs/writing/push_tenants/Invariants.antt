use Rattle.std.proofs.Common.{◌≡◌, ◌++◌, drop, map}
use Rattle.std.specs.Prelude.{flat_map}
use Rattle.tenant_script.specs.Text.{tenant_text}
use Rattle.tenant_script.specs.Words.{tenant_view}
use Rattle.tenant_script.proofs.writing.push_tenants.Given as goal

abbrev pub invariant-tenants : goal.invariant-tenants
invariant-tenants l = l.out.items ++ flat_map tenant_text (map tenant_view (drop l.tenant-index l.tenants)) ≡ l.initial.out.items ++ flat_map tenant_text (map tenant_view l.tenants)
