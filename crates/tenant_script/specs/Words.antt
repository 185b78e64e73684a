-- Cited by contracts.
-- The plain data of the code's types.
use Rattle.std.specs.Prelude.{map}
use Rattle.tenant_script.specs.Tenants.{Tenant, Entry, AProgram, AStart, AFinish, TenantScript}
use Rattle.tenant_script.specs.declared.types.Tenant.{Tenant as DeclaredTenant}
use Rattle.tenant_script.specs.declared.types.TenantEntry.{TenantEntry as DeclaredEntry}
use Rattle.tenant_script.specs.declared.types.TenantEntry.TheVariants as entry
use Rattle.tenant_script.specs.declared.types.TenantScript.{TenantScript as DeclaredScript}

abbrev pub tenant_view : DeclaredTenant → Tenant
tenant_view t = record { name = t.name.now; cells = t.cells }

abbrev pub entry_view : DeclaredEntry → Entry
entry_view (entry.Program name language text) = AProgram (record { name = name.now; language = language; text = text.now })
entry_view (entry.Start tenant name program start fuel args) = AStart tenant.now (record { name = name.now; program = program.now; entry = start.now; fuel = fuel; args = args.now })
entry_view (entry.Finish tenant name) = AFinish tenant.now name.now

abbrev pub script_view : DeclaredScript → TenantScript
script_view s = record { arena = s.arena; tenants = map tenant_view s.tenants.items; items = map entry_view s.items.items }
