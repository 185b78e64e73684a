use Rattle.std.proofs.Common.{arith, ◌≡◌, Some, refl, sym, ◌∙◌, subst}
use Rattle.std.specs.Prelude.{slice_get}
use Rattle.std.proofs.lemmas.Option.{same_Some}
use Rattle.licence.specs.Licensed.{Licensed}
use Rattle.cell_machine.specs.Views.{IsStackFor}
use Rattle.tenant_service.specs.declared.holding.Holding.{Holding as DeclaredHolding}
use Rattle.tenant_service.proofs.AllRooms.{tenant_within}
use Rattle.tenant_service.proofs.Starting.{with_jobs, looked}
use Rattle.tenant_service.proofs.Finishing.{place_within, same_job, found_in, number_within, licence_is, plan_is, still_lease, finish_done, finish_absent}
use Rattle.tenant_service.proofs.rooms.finish.Goals as goal

pub index_mut-held-requires : goal.index_mut-held-requires
index_mut-held-requires c =
    omega (arith, tenant_within c.args.licences.now c.args.shared.now c.args.tenant 4097 c.requires.rooms c.requires.few, c.args.shared.now.held.ok.0)

pub index-job-requires : goal.index-job-requires
index-job-requires c =
    omega (
      arith,
      place_within c.index_mut-held.result.now.items c.args.name.now c.place_of.result c.in-Some.at
          (looked c.index_mut-held.result.now c.deref.result.now c.args.name.now c.place_of.result c.place_of.ensures c.deref.ensures.value) c.in-Some.is,
      c.index_mut-held.result.now.ok.0,
    )

pub bounds-licences-job : goal.bounds-licences-job
bounds-licences-job c = number_within c.args.licences.now c.args.shared.now c.requires.rooms.rs c.args.tenant c.index_mut-held.result.now c.args.name.now c.in-Some.at c.index-job.result.now (found_in c.args.licences.now c.args.shared.now c.requires.rooms.rs c.args.tenant c.index_mut-held.result.now c.args.name.now c.place_of.result c.in-Some.at c.index-job.result.now
    c.requires.rooms.are c.requires.few.there (record {
      was = c.index_mut-held.ensures.value;
      look = looked c.index_mut-held.result.now c.deref.result.now c.args.name.now c.place_of.result c.place_of.ensures c.deref.ensures.value;
      some = c.in-Some.is;
      job = c.index-job.ensures;
    }))

pub make_ready-requires-clause-is : goal.make_ready-requires-clause-is
make_ready-requires-clause-is c = licence_is c.args.licences.now c.args.shared.now c.requires.rooms.rs c.args.tenant c.index_mut-held.result.now c.args.name.now c.in-Some.at c.index-job.result.now c.index-licences-job.result (found_in c.args.licences.now c.args.shared.now c.requires.rooms.rs c.args.tenant c.index_mut-held.result.now c.args.name.now c.place_of.result c.in-Some.at c.index-job.result.now
    c.requires.rooms.are c.requires.few.there (record {
      was = c.index_mut-held.ensures.value;
      look = looked c.index_mut-held.result.now c.deref.result.now c.args.name.now c.place_of.result c.place_of.ensures c.deref.ensures.value;
      some = c.in-Some.is;
      job = c.index-job.ensures;
    })) c.index-licences-job.is

pub remove-call-requires : goal.remove-call-requires
remove-call-requires c = omega (arith, place_within c.index_mut-held.result.now.items c.args.name.now c.place_of.result c.in-Some.at (looked c.index_mut-held.result.now c.deref.result.now c.args.name.now c.place_of.result c.place_of.ensures c.deref.ensures.value) c.in-Some.is, c.index_mut-held.result.now.ok.0)

pub run_call-ran-requires-clause-plan : goal.run_call-ran-requires-clause-plan
run_call-ran-requires-clause-plan c = plan_is c.args.licences.now c.args.shared.now c.requires.rooms.rs c.args.tenant c.index_mut-held.result.now c.args.name.now c.in-Some.at c.remove-call.result c.index-licences-job.result
    (found_in c.args.licences.now c.args.shared.now c.requires.rooms.rs c.args.tenant c.index_mut-held.result.now c.args.name.now c.place_of.result c.in-Some.at c.remove-call.result
    c.requires.rooms.are c.requires.few.there (record {
      was = c.index_mut-held.ensures.value;
      look = looked c.index_mut-held.result.now c.deref.result.now c.args.name.now c.place_of.result c.place_of.ensures c.deref.ensures.value;
      some = c.in-Some.is;
      job = c.remove-call.ensures.value;
    }))
    (subst (λ (d : DeclaredHolding). slice_get c.args.licences.now d.call.licence ≡ Some c.index-licences-job.result) (same_job c.index_mut-held.result.now.items c.in-Some.at c.index-job.result.now c.remove-call.result (place_within c.index_mut-held.result.now.items c.args.name.now c.place_of.result c.in-Some.at (looked c.index_mut-held.result.now c.deref.result.now c.args.name.now c.place_of.result c.place_of.ensures c.deref.ensures.value) c.in-Some.is) c.index-job.ensures c.remove-call.ensures.value) (licence_is c.args.licences.now c.args.shared.now c.requires.rooms.rs c.args.tenant c.index_mut-held.result.now c.args.name.now c.in-Some.at c.index-job.result.now c.index-licences-job.result (found_in c.args.licences.now c.args.shared.now c.requires.rooms.rs c.args.tenant c.index_mut-held.result.now c.args.name.now c.place_of.result c.in-Some.at c.index-job.result.now
    c.requires.rooms.are c.requires.few.there (record {
      was = c.index_mut-held.ensures.value;
      look = looked c.index_mut-held.result.now c.deref.result.now c.args.name.now c.place_of.result c.place_of.ensures c.deref.ensures.value;
      some = c.in-Some.is;
      job = c.index-job.ensures;
    })) c.index-licences-job.is))

pub give-requires : goal.give-requires
give-requires c = still_lease c.args.licences.now c.args.shared.now c.requires.rooms.rs c.args.tenant c.index_mut-held.result.now c.args.name.now c.in-Some.at c.remove-call.result c.run_call-ran.result.lease c.requires.rooms.are
    (found_in c.args.licences.now c.args.shared.now c.requires.rooms.rs c.args.tenant c.index_mut-held.result.now c.args.name.now c.place_of.result c.in-Some.at c.remove-call.result
    c.requires.rooms.are c.requires.few.there (record {
      was = c.index_mut-held.ensures.value;
      look = looked c.index_mut-held.result.now c.deref.result.now c.args.name.now c.place_of.result c.place_of.ensures c.deref.ensures.value;
      some = c.in-Some.is;
      job = c.remove-call.ensures.value;
    }))
    c.run_call-ran.ensures.tenant c.run_call-ran.ensures.range

pub returns-in-Ok : goal.returns-in-Ok
returns-in-Ok c = finish_done c.law_of_shifts.ensures.given c.args.licences.now c.args.shared.now
    (with_jobs c.args.shared.now c.give.new.self (Some (record { licence = c.remove-call.result.call.licence; stack = c.run_call-ran.result.stack })) c.args.tenant c.remove-call.new.self)
    c.args.tenant c.index_mut-held.result.now c.remove-call.new.self c.args.name.now c.place_of.result c.in-Some.at c.remove-call.result c.index-licences-job.result
    c.run_call-ran.result.lease c.run_call-ran.result.ending c.requires.few.there
    (record {
      was = c.index_mut-held.ensures.value;
      look = looked c.index_mut-held.result.now c.deref.result.now c.args.name.now c.place_of.result c.place_of.ensures c.deref.ensures.value;
      some = c.in-Some.is;
      job = c.remove-call.ensures.value;
    })
    (record {
      removed = c.remove-call.ensures.items;
      held = refl;
      spare = λ l e. subst (λ (x : Licensed). IsStackFor x.code c.run_call-ran.result.stack) (same_Some c.index-licences-job.result l (sym (subst (λ (d : DeclaredHolding). slice_get c.args.licences.now d.call.licence ≡ Some c.index-licences-job.result) (same_job c.index_mut-held.result.now.items c.in-Some.at c.index-job.result.now c.remove-call.result (place_within c.index_mut-held.result.now.items c.args.name.now c.place_of.result c.in-Some.at (looked c.index_mut-held.result.now c.deref.result.now c.args.name.now c.place_of.result c.place_of.ensures c.deref.ensures.value) c.in-Some.is) c.index-job.ensures c.remove-call.ensures.value) (licence_is c.args.licences.now c.args.shared.now c.requires.rooms.rs c.args.tenant c.index_mut-held.result.now c.args.name.now c.in-Some.at c.index-job.result.now c.index-licences-job.result (found_in c.args.licences.now c.args.shared.now c.requires.rooms.rs c.args.tenant c.index_mut-held.result.now c.args.name.now c.place_of.result c.in-Some.at c.index-job.result.now
          c.requires.rooms.are c.requires.few.there (record {
            was = c.index_mut-held.ensures.value;
            look = looked c.index_mut-held.result.now c.deref.result.now c.args.name.now c.place_of.result c.place_of.ensures c.deref.ensures.value;
            some = c.in-Some.is;
            job = c.index-job.ensures;
          })) c.index-licences-job.is)) ∙ e)) c.run_call-ran.ensures.stack;
      tenants = c.kept.ensures;
      owner = c.run_call-ran.ensures.tenant;
      range = c.run_call-ran.ensures.range;
      given = c.give.ensures;
      at_licence = (subst (λ (d : DeclaredHolding). slice_get c.args.licences.now d.call.licence ≡ Some c.index-licences-job.result) (same_job c.index_mut-held.result.now.items c.in-Some.at c.index-job.result.now c.remove-call.result (place_within c.index_mut-held.result.now.items c.args.name.now c.place_of.result c.in-Some.at (looked c.index_mut-held.result.now c.deref.result.now c.args.name.now c.place_of.result c.place_of.ensures c.deref.ensures.value) c.in-Some.is) c.index-job.ensures c.remove-call.ensures.value) (licence_is c.args.licences.now c.args.shared.now c.requires.rooms.rs c.args.tenant c.index_mut-held.result.now c.args.name.now c.in-Some.at c.index-job.result.now c.index-licences-job.result (found_in c.args.licences.now c.args.shared.now c.requires.rooms.rs c.args.tenant c.index_mut-held.result.now c.args.name.now c.place_of.result c.in-Some.at c.index-job.result.now
          c.requires.rooms.are c.requires.few.there (record {
            was = c.index_mut-held.ensures.value;
            look = looked c.index_mut-held.result.now c.deref.result.now c.args.name.now c.place_of.result c.place_of.ensures c.deref.ensures.value;
            some = c.in-Some.is;
            job = c.index-job.ensures;
          })) c.index-licences-job.is));
      ends = c.run_call-ran.ensures.ending;
    })

pub returns-in-None : goal.returns-in-None
returns-in-None c = finish_absent c.args.licences.now c.args.shared.now
    (with_jobs c.args.shared.now c.args.shared.now.desk c.args.shared.now.spare c.args.tenant c.index_mut-held.result.now) c.args.tenant c.index_mut-held.result.now
    c.args.name.now c.place_of.result c.requires.few.there (record { was = c.index_mut-held.ensures.value; held = refl; desk = refl; spare = refl })
    (looked c.index_mut-held.result.now c.deref.result.now c.args.name.now c.place_of.result c.place_of.ensures c.deref.ensures.value) c.in-None.is
