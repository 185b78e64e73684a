use Rattle.std.proofs.Common.{None, refl, arith}
use Rattle.tenant_service.proofs.Closing.{first_rooms}
use Rattle.tenant_service.proofs.rooms.open_rooms.Goals as goal

pub returns-in-Ok-new-clause-rooms : goal.returns-in-Ok-new-clause-rooms
returns-in-Ok-new-clause-rooms c = λ licences. first_rooms c.law_of_budgets.ensures.first licences
    (record { desk = c.in-Ok-new.desk; held = c.fill.result; spare = None }) c.args.span c.args.budgets.items c.len-count.result c.requires.budgets c.in-Ok-new.ensures c.kept.ensures refl
    (omega (arith, c.len-count.ensures, c.args.budgets.ok.0)) c.fill.ensures
