use Rattle.std.proofs.Common.{◌≡◌, List, ◌++◌, map, drop}
use Rattle.licence.specs.Licensed.{Licensed}
use Rattle.tenant_script.specs.Words.{tenant_view}
use Rattle.tenant_service.specs.Replies.{Rooms}
use Rattle.tenant_service.specs.Running.{HoldsRooms}
use Rattle.tenant_service.specs.Texts.{ends_text}
use Rattle.tenant_service.proofs.ends.push_ends.Given as goal

abbrev pub invariant-tenants : goal.invariant-tenants
invariant-tenants l = record {
  at : l.at ≡ l.tenant-index;
  told : (licences : List Licensed) (rooms : Rooms) → HoldsRooms licences (map tenant_view l.tenants) rooms l.shared
      → l.out.items ++ ends_text (map tenant_view (drop l.tenant-index l.tenants)) rooms ≡ l.initial.out.items ++ ends_text (map tenant_view l.tenants) rooms;
}
