use Rattle.tenant_service.proofs.Closing.{rooms_out}
use Rattle.tenant_service.proofs.rooms.close_rooms.Goals as goal

pub tenants-init : goal.tenants-init
tenants-init c = rooms_out c.args.shared c.requires.rooms
