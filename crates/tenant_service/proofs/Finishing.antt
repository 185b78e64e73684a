-- What comes of a finish.
use Rattle.std.proofs.Common.{◌≡◌, ℕ, zero, suc, ◌<◌, Bool, true, false, if◌then◌else◌, List, [], ◌∷◌, length, map, Option, Some, None, refl, sym, ap, ◌∙◌, subst, arith}
use Rattle.std.specs.Prelude.{slice_get, slice_set, slice_index_or, remove}
use Rattle.std.specs.Option.{option_map}
use Rattle.std.specs.Str.{bytes_eq}
use Rattle.std.specs.Global.{Vec}
use Rattle.std.proofs.lemmas.Option.{same_Some, slice_get_read, slice_get_within}
use Rattle.camelot_values.specs.Value.{Value}
use Rattle.camelot_values.specs.Names.{place_among}
use Rattle.camelot_values.specs.Outcome.{Outcome}
use Rattle.camelot_values.specs.Outcome as plain
use Rattle.cell_span.specs.Range.{Range}
use Rattle.grail_code.specs.Meaning.{run_of}
use Rattle.licence.specs.Licensed.{Licensed}
use Rattle.cell_machine.specs.State.{most_calls}
use Rattle.cell_machine.specs.Endings.{EndsWith}
use Rattle.cell_machine.specs.declared.machine.Ending.{Ending}
use Rattle.cell_machine.specs.declared.machine.Ending.TheVariants as ending
use Rattle.cell_machine.specs.Laid.{SameRange}
use Rattle.cell_machine.specs.Plans.{IsPlan}
use Rattle.cell_machine.specs.Views.{IsStackFor}
use Rattle.hole_list.specs.declared.run.Run.{Run}
use Rattle.hole_list.specs.Placing.{IsOut}
use Rattle.hole_list.specs.Holes.{Holed, run_of as place_of, with_given}
use Rattle.tenant_desk.specs.Leases.{LeaseView}
use Rattle.tenant_desk.specs.Desk.{Tenants, budget, with_piece, IsHeld, IsGiven}
use Rattle.tenant_desk.specs.Kept.{AreTenants}
use Rattle.run_reports.specs.Told.{IsMeant, licence_types}
use Rattle.job_world.specs.declared.call.Call.{Call as DeclaredCall}
use Rattle.script_plans.specs.Fates.{Call, outcome_of, ended_line}
use Rattle.tenant_service.specs.declared.holding.Holding.{Holding as DeclaredHolding}
use Rattle.tenant_service.specs.declared.holding.Shared.{Shared}
use Rattle.tenant_service.specs.declared.holding.Spare.{Spare}
use Rattle.tenant_service.specs.Rooms as rooms
use Rattle.tenant_service.specs.Rooms.{Room, Holding, Finishes, Reply, Step, step, told, finished, without_job, held_named, without_named}
use Rattle.tenant_service.specs.Granting.{names_of}
use Rattle.tenant_service.specs.Holding.{IsCallOf, AreRooms, IsSpare}
use Rattle.tenant_service.specs.Steps.{FinishedIs, TellsLine, IsDone}
use Rattle.tenant_service.proofs.OneRoom.{ShiftGiven, IsFound, found_named, none_named, room_less}
use Rattle.tenant_service.proofs.AllRooms.{IsAt, here, holes_at, arena_at, jobs_of, jobs_set, done_same, done_set}
use Rattle.tenant_service.proofs.Starting.{IsKept, kept_same}

-- ---- the stack

-- the stack that is kept is one for the licence of this number
pub spare_fits : (licences : List Licensed) (o : Option Spare) (kept : Spare) (number : ℕ) (l : Licensed) → IsSpare licences o → o ≡ Some kept → kept.licence ≡ number
    → slice_get licences number ≡ Some l → IsStackFor l.code kept.stack
spare_fits licences o kept number l k e n at = subst (IsSpare licences) e k l (ap (slice_get licences) n ∙ at)

-- ---- the job of this name

pub place_within : (ds : List DeclaredHolding) (name : List ℕ) (o : Option ℕ) (at : ℕ) → o ≡ place_among (names_of ds) name → o ≡ Some at → at < length ds
place_within ds name o at e s = within ds at (sym e ∙ s)
  where
    within : (ds : List DeclaredHolding) (at : ℕ) → place_among (names_of ds) name ≡ Some at → at < length ds
    within [] at e = absurd (cc)
    within (d ∷ ds) at e = by_test (λ n f. within ds n f) (bytes_eq d.name.now name) e
      where
        by_test : ((n : ℕ) → place_among (names_of ds) name ≡ Some n → n < length ds) → (b : Bool)
            → (if b then Some 0 else option_map suc (place_among (names_of ds) name)) ≡ Some at → at < suc (length ds)
        by_test next true f = let z : 0 ≡ at = same_Some 0 at f in omega (arith, z)
        by_test next false f = by_place (place_among (names_of ds) name) refl f
          where
            by_place : (o : Option ℕ) → place_among (names_of ds) name ≡ o → option_map suc o ≡ Some at → at < suc (length ds)
            by_place None g s = absurd (let h : None ≡ Some at = s in cc)
            by_place (Some n) g s = let m : suc n ≡ at = same_Some (suc n) at s in omega (arith, m, next n g)

pub same_job : (ds : List DeclaredHolding) (at : ℕ) (d e : DeclaredHolding) → at < length ds → d ≡ slice_index_or ds at d → e ≡ slice_index_or ds at e → d ≡ e
same_job [] at d e k f g = absurd (omega (arith, k))
same_job (x ∷ ds) zero d e k f g = f ∙ sym g
same_job (x ∷ ds) (suc at) d e k f g = same_job ds at d e (omega (arith, k)) f g

-- the job that stands at the place of this name
pub record IsJob (s : Shared) (tenant : ℕ) (v : Vec DeclaredHolding) (name : List ℕ) (o : Option ℕ) (at : ℕ) (d : DeclaredHolding) : Type 0 where
  pub was : v ≡ slice_index_or s.held.items tenant v
  pub look : o ≡ place_among (names_of v.items) name
  pub some : o ≡ Some at
  pub job : d ≡ slice_index_or v.items at d

-- the room, and the job in it
pub record IsFoundIn (licences : List Licensed) (s : Shared) (rs : List Room) (tenant : ℕ) (v : Vec DeclaredHolding) (name : List ℕ) (at : ℕ) (d : DeclaredHolding) : Type 0 where
  pub room_of : IsAt licences tenant s.desk.pieces (map (λ x. x.items) s.held.items) rs tenant
  pub jobs : v.items ≡ room_of.jobs
  pub found : IsFound licences tenant room_of.piece room_of.jobs room_of.room.held at d (held_named room_of.room.held name) (without_named room_of.room.held name)

pub found_in : (licences : List Licensed) (s : Shared) (rs : List Room) (tenant : ℕ) (v : Vec DeclaredHolding) (name : List ℕ) (o : Option ℕ) (at : ℕ) (d : DeclaredHolding)
    → AreRooms licences s rs → tenant < length s.desk.pieces → IsJob s tenant v name o at d → IsFoundIn licences s rs tenant v name at d
found_in licences s rs tenant v name o at d k t j =
    let q : IsAt licences tenant s.desk.pieces (map (λ x. x.items) s.held.items) rs tenant = here licences s rs tenant k t in
    let jobs : v.items ≡ q.jobs = jobs_of s.held.items tenant v q.jobs j.was q.has_jobs in
    record {
      room_of = q;
      jobs = jobs;
      found = found_named licences tenant q.piece q.jobs q.room.held name at d q.is.held q.is.apart (ap (λ ds. place_among (names_of ds) name) (sym jobs) ∙ sym j.look ∙ j.some)
          (j.job ∙ ap (λ ds. slice_index_or ds at d) jobs);
    }

-- ---- its run

pub number_within : (licences : List Licensed) (s : Shared) (rs : List Room) (tenant : ℕ) (v : Vec DeclaredHolding) (name : List ℕ) (at : ℕ) (d : DeclaredHolding)
    → IsFoundIn licences s rs tenant v name at d → d.call.licence < length licences
number_within licences s rs tenant v name at d f = slice_get_within licences d.call.licence f.found.job.call.licence f.found.held.call.licence

pub licence_is : (licences : List Licensed) (s : Shared) (rs : List Room) (tenant : ℕ) (v : Vec DeclaredHolding) (name : List ℕ) (at : ℕ) (d : DeclaredHolding) (l : Licensed)
    → IsFoundIn licences s rs tenant v name at d → l ≡ slice_index_or licences d.call.licence l → slice_get licences d.call.licence ≡ Some l
licence_is licences s rs tenant v name at d l f e =
    slice_get_read licences (length licences) d.call.licence l refl (number_within licences s rs tenant v name at d f) e

pub plan_is : (licences : List Licensed) (s : Shared) (rs : List Room) (tenant : ℕ) (v : Vec DeclaredHolding) (name : List ℕ) (at : ℕ) (d : DeclaredHolding) (l : Licensed)
    → IsFoundIn licences s rs tenant v name at d → slice_get licences d.call.licence ≡ Some l
    → IsPlan l d.call.entry d.call.args.items d.call.fuel (length d.lease.range.cells)
plan_is licences s rs tenant v name at d l f e =
    let h : Holding = f.found.job in
    let c : IsCallOf licences h.fuel d.call h.call = f.found.held.call in
    let same : h.call.licence ≡ l = same_Some h.call.licence l (sym c.licence ∙ e) in
    let size : length d.lease.range.cells ≡ h.place.size = ap (λ (r : Run). r.size) f.found.held.place in
    let plan : IsPlan h.call.licence h.call.entry h.call.args d.call.fuel (length d.lease.range.cells) =
    record { fits = c.licensed.fits; few = c.licensed.few; some_fuel = omega (arith, c.fuelled, c.some_fuel); lease = size ∙ f.found.held.size } in
    subst (λ (x : Licensed). IsPlan x d.call.entry d.call.args.items d.call.fuel (length d.lease.range.cells)) same
    (subst (λ n. IsPlan h.call.licence n d.call.args.items d.call.fuel (length d.lease.range.cells)) (sym c.entry)
    (subst (λ (vs : List Value). IsPlan h.call.licence h.call.entry vs d.call.fuel (length d.lease.range.cells)) (sym c.args) plan))

-- ---- its cells go back

same_place : (r s : Range) → SameRange r s → place_of s ≡ place_of r
same_place r s k = λ i. record { first = k.first i; size = k.cells i }

pub still_lease : (licences : List Licensed) (s : Shared) (rs : List Room) (tenant : ℕ) (v : Vec DeclaredHolding) (name : List ℕ) (at : ℕ) (d : DeclaredHolding) (l : LeaseView)
    → AreRooms licences s rs → IsFoundIn licences s rs tenant v name at d → l.tenant ≡ d.lease.tenant → SameRange d.lease.range l.range → IsHeld s.desk l
still_lease licences s rs tenant v name at d l k f t r = record {
  piece = f.room_of.piece;
  there = subst (λ n. slice_get s.desk.pieces n ≡ Some f.room_of.piece) (sym (t ∙ f.found.held.owner)) f.room_of.has_piece;
  out = subst (IsOut f.room_of.piece.out) (sym (same_place d.lease.range l.range r)) f.found.held.out;
  arena = r.arena ∙ f.found.held.arena ∙ arena_at s.desk tenant f.room_of.piece k.tenants f.room_of.has_piece;
}

-- no ending is that of a run that is stuck
meant : (o : Outcome Value) (e : Ending) → EndsWith o e → IsMeant o
meant (plain.Done v calls peak low) e k = tt
meant (plain.Fuel calls peak) e k = tt
meant (plain.Deep peak) e k = tt
meant (plain.Trap peak) e k = tt
meant plain.Stuck (ending.Done v calls peak) k = absurd k
meant plain.Stuck (ending.Fuel peak) k = absurd k
meant plain.Stuck (ending.Deep peak) k = absurd k
meant plain.Stuck (ending.Trap peak) k = absurd k

-- what is told of the run
tells : (licences : List Licensed) (name : List ℕ) (d : DeclaredCall) (c : Call) (fuel : ℕ) (l : Licensed) (e : Ending) → IsCallOf licences fuel d c → slice_get licences d.licence ≡ Some l
    → EndsWith (run_of l.code most_calls d.entry d.fuel d.args.items) e
    → TellsLine licences name (record { ending = e; fuel = d.fuel; bound = d.needs.bound; licence = d.licence }) (rooms.Finished name (ended_line fuel c))
tells licences name d c fuel l e k at ends = record {
  line = ended_line fuel c;
  is = refl;
  came = (sym k.types ∙ ap licence_types (sym k.licence), as_meant, sym k.fuelled, sym k.bound, meant (outcome_of c fuel) e as_meant);
}
  where
    same : l ≡ c.licence
    same = same_Some l c.licence (sym at ∙ k.licence)

    outcome_is : run_of l.code most_calls d.entry d.fuel d.args.items ≡ outcome_of c fuel
    outcome_is = ap (λ (x : Licensed). run_of x.code most_calls d.entry d.fuel d.args.items) same ∙ ap (λ n. run_of c.licence.code most_calls n d.fuel d.args.items) k.entry
        ∙ ap (λ n. run_of c.licence.code most_calls c.entry n d.args.items) k.fuelled ∙ ap (run_of c.licence.code most_calls c.entry fuel) k.args ∙ k.run

    as_meant : EndsWith (outcome_of c fuel) e
    as_meant = subst (λ (o : Outcome Value). EndsWith o e) outcome_is ends

-- what the run left and what was done with it
pub record IsLeft (licences : List Licensed) (old new : Shared) (tenant at : ℕ) (v w : Vec DeclaredHolding) (d : DeclaredHolding) (l : Licensed) (lease : LeaseView) (e : Ending) : Type 0 where
  pub removed : w.items ≡ remove v.items at
  pub held : new.held.items ≡ slice_set old.held.items tenant w
  pub spare : IsSpare licences new.spare
  pub tenants : AreTenants new.desk
  pub owner : lease.tenant ≡ d.lease.tenant
  pub range : SameRange d.lease.range lease.range
  pub given : IsGiven old.desk new.desk lease
  pub at_licence : slice_get licences d.call.licence ≡ Some l
  pub ends : EndsWith (run_of l.code most_calls d.call.entry d.call.fuel d.call.args.items) e

pub finish_done : ShiftGiven → (licences : List Licensed) (old new : Shared) (tenant : ℕ) (v w : Vec DeclaredHolding) (name : List ℕ) (o : Option ℕ) (at : ℕ) (d : DeclaredHolding)
    (l : Licensed) (lease : LeaseView) (e : Ending) → tenant < length old.desk.pieces → IsJob old tenant v name o at d → IsLeft licences old new tenant at v w d l lease e
    → (rs : List Room) → AreRooms licences old rs
    → IsDone licences old new rs tenant (Finishes name)
    (FinishedIs licences name (Some (record { ending = e; fuel = d.call.fuel; bound = d.call.needs.bound; licence = d.call.licence })))
finish_done law licences old new tenant v w name o at d l lease e t j is rs k =
    done_set licences old new rs tenant (Finishes name)
    (FinishedIs licences name (Some (record { ending = e; fuel = d.call.fuel; bound = d.call.needs.bound; licence = d.call.licence })))
    k q (with_given q.piece lease.range) (remove q.jobs at) refl becomes is.tenants is.spare held (told (without_job q.room name h) (rooms.Finished name (ended_line h.fuel h.call)))
    (ap (finished q.room name) f.found.named)
    (room_less law licences tenant q.piece q.jobs q.room name at d lease.range (holes_at old.desk tenant q.piece k.tenants q.has_piece) q.is f.found (same_place d.lease.range lease.range is.range))
    (tells licences name d.call h.call h.fuel l e f.found.held.call is.at_licence is.ends)
  where
    f : IsFoundIn licences old rs tenant v name at d
    f = found_in licences old rs tenant v name o at d k t j

    q : IsAt licences tenant old.desk.pieces (map (λ x. x.items) old.held.items) rs tenant
    q = f.room_of

    h : Holding
    h = f.found.job

    owner : lease.tenant ≡ tenant
    owner = is.owner ∙ f.found.held.owner

    piece : is.given.piece ≡ q.piece
    piece = same_Some is.given.piece q.piece (sym is.given.there ∙ ap (slice_get old.desk.pieces) owner ∙ q.has_piece)

    becomes : new.desk ≡ with_piece old.desk tenant (with_given q.piece lease.range)
    becomes = is.given.becomes ∙ ap (λ n. with_piece old.desk n (with_given is.given.piece lease.range)) owner
        ∙ ap (λ (p : Holed). with_piece old.desk tenant (with_given p lease.range)) piece

    held : map (λ x. x.items) new.held.items ≡ slice_set (map (λ x. x.items) old.held.items) tenant (remove q.jobs at)
    held = ap (map (λ (x : Vec DeclaredHolding). x.items)) is.held ∙ jobs_set old.held.items tenant w
        ∙ ap (slice_set (map (λ (x : Vec DeclaredHolding). x.items) old.held.items) tenant) (is.removed ∙ ap (λ ds. remove ds at) f.jobs)

-- ---- no job of this name

pub finish_absent : (licences : List Licensed) (old new : Shared) (tenant : ℕ) (v : Vec DeclaredHolding) (name : List ℕ) (o : Option ℕ) → tenant < length old.desk.pieces
    → IsKept old new tenant v v → o ≡ place_among (names_of v.items) name → o ≡ None → (rs : List Room) → AreRooms licences old rs
    → IsDone licences old new rs tenant (Finishes name) (FinishedIs licences name None)
finish_absent licences old new tenant v name o t is e none rs k =
    let q : IsAt licences tenant old.desk.pieces (map (λ x. x.items) old.held.items) rs tenant = here licences old rs tenant k t in
    let jobs : v.items ≡ q.jobs = jobs_of old.held.items tenant v q.jobs is.was q.has_jobs in
    let absent : held_named q.room.held name ≡ None =
    none_named licences tenant q.piece q.jobs q.room.held name q.is.held (ap (λ ds. place_among (names_of ds) name) (sym jobs) ∙ sym e ∙ none) in
    done_same licences old new rs tenant (Finishes name) (FinishedIs licences name None) (kept_same licences old new rs tenant v v k t is refl)
    (ap (λ (d : Tenants). map budget d.pieces) is.desk) q (told q.room (rooms.Absent name)) (ap (finished q.room name) absent) refl refl
