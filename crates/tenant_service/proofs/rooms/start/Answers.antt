use Rattle.std.proofs.Common.{arith, refl, sym, ◌∙◌}
use Rattle.tenant_service.proofs.AllRooms.{tenant_within, room_for_one}
use Rattle.tenant_service.proofs.Starting.{with_jobs, looked, kept_same, start_held, start_refused, start_asked}
use Rattle.tenant_service.proofs.rooms.start.Goals as goal

pub index_mut-held-requires : goal.index_mut-held-requires
index_mut-held-requires c =
    omega (arith, tenant_within c.args.licences.now c.args.shared.now c.args.tenant 4096 c.requires.rooms c.requires.few, c.args.shared.now.held.ok.0)

pub grant-told-requires-clause-few : goal.grant-told-requires-clause-few
grant-told-requires-clause-few c = room_for_one c.args.licences.now c.args.shared.now c.args.tenant c.requires.rooms c.requires.few

pub returns-then-is_some : goal.returns-then-is_some
returns-then-is_some c = start_held c.args.licences.now c.args.shared.now
    (with_jobs c.args.shared.now c.args.shared.now.desk c.args.shared.now.spare c.args.tenant c.index_mut-held.result.now) c.args.tenant c.index_mut-held.result.now
    c.args.name.now c.place_of.result c.requires.few.there (record { was = c.index_mut-held.ensures.value; held = refl; desk = refl; spare = refl })
    (looked c.index_mut-held.result.now c.deref.result.now c.args.name.now c.place_of.result c.place_of.ensures c.deref.ensures.value) (sym c.is_some.ensures ∙ c.if-is_some.true)
    c.args.asked

pub returns-in-Err : goal.returns-in-Err
returns-in-Err c = start_refused c.args.licences.now c.args.shared.now
    (with_jobs c.args.shared.now c.args.shared.now.desk c.args.shared.now.spare c.args.tenant c.index_mut-held.result.now) c.args.tenant c.index_mut-held.result.now
    c.args.name.now c.place_of.result c.in-Err.cause c.requires.few.there (record { was = c.index_mut-held.ensures.value; held = refl; desk = refl; spare = refl })
    (looked c.index_mut-held.result.now c.deref.result.now c.args.name.now c.place_of.result c.place_of.ensures c.deref.ensures.value) (sym c.is_some.ensures ∙ c.if-is_some.false)
    c.args.asked c.in-Err.is

pub returns-then-is_err : goal.returns-then-is_err
returns-then-is_err c = λ rs fuel fate k f. kept_same c.args.licences.now c.args.shared.now
    (with_jobs c.args.shared.now c.args.shared.now.desk c.args.shared.now.spare c.args.tenant c.reserve.new.self) rs c.args.tenant c.index_mut-held.result.now c.reserve.new.self
    k c.requires.few.there (record { was = c.index_mut-held.ensures.value; held = refl; desk = refl; spare = refl }) c.reserve.ensures.items

pub returns-else-is_err : goal.returns-else-is_err
returns-else-is_err c = start_asked c.law_of_shifts.ensures.taken c.law_of_shifts.ensures.largest c.args.licences.now c.args.shared.now
    (with_jobs c.args.shared.now c.grant-told.new.desk c.args.shared.now.spare c.args.tenant c.grant-told.new.held) c.args.tenant c.index_mut-held.result.now c.reserve.new.self
    c.grant-told.new.held c.args.name.now c.place_of.result c.in-Ok.call c.size_of-size.result c.grant-told.result c.requires.few.there
    (record {
      was = c.index_mut-held.ensures.value;
      reserved = c.reserve.ensures.items;
      held = refl;
      spare = refl;
      tenants = c.kept.ensures;
      some = c.size_of-size.ensures.some;
      same = c.size_of-size.ensures.same;
    })
    (looked c.index_mut-held.result.now c.deref.result.now c.args.name.now c.place_of.result c.place_of.ensures c.deref.ensures.value) (sym c.is_some.ensures ∙ c.if-is_some.false)
    c.grant-told.ensures c.args.asked c.in-Ok.is
