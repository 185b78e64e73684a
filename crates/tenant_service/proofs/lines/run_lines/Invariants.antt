use Rattle.std.proofs.Common.{map, drop}
use Rattle.tenant_script.specs.Words.{entry_view, tenant_view}
use Rattle.tenant_service.specs.Running.{AreReady, Going}
use Rattle.tenant_service.proofs.lines.run_lines.Given as goal

abbrev pub invariant-items : goal.invariant-items
invariant-items l = record {
  going : Going l.licences (map entry_view l.items) (map tenant_view l.tenants) l.initial.out.items (map entry_view (drop l.item-index l.items)) l.shared l.out.items;
  ready : AreReady (map tenant_view l.tenants) (map entry_view (drop l.item-index l.items));
}
