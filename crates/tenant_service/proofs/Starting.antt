-- What comes of a start.
use Rattle.std.proofs.Common.{◌≡◌, ℕ, suc, ◌+◌, ◌<◌, ◌≤◌, Bool, true, false, if◌then◌else◌, List, [], ◌∷◌, ◌++◌, length, map, Option, Some, None, Result, Ok, Err, refl, sym, ap, ◌∙◌, subst, arith}
use Rattle.std.specs.Prelude.{slice_get, slice_set, slice_index_or, nat_lt}
use Rattle.std.specs.Option.{is_some, option_map}
use Rattle.std.specs.Str.{bytes_eq}
use Rattle.std.specs.Global.{Vec}
use Rattle.std.specs.Vec.{with_item}
use Rattle.std.proofs.lemmas.Bool.{lt-ltb}
use Rattle.std.proofs.lemmas.Option.{same_Some}
use Rattle.camelot_values.specs.Names.{place_among}
use Rattle.licence.specs.Licensed.{Licensed}
use Rattle.hole_list.specs.declared.run.Run.{Run}
use Rattle.hole_list.specs.Placing.{take_run, largest}
use Rattle.hole_list.specs.PlacingLaws.{too_small_all}
use Rattle.hole_list.specs.Holes.{Holed, TookFrom, run_of as place_of}
use Rattle.tenant_desk.specs.Leases.{LeaseView, lease}
use Rattle.tenant_desk.specs.Desk.{Tenants, budget, held, with_piece}
use Rattle.tenant_desk.specs.Kept.{AreTenants}
use Rattle.tenant_desk.specs.Shifts.{shift}
use Rattle.run_reports.specs.declared.outcome.JobCause.{JobCause}
use Rattle.job_world.specs.declared.call.Call.{Call as DeclaredCall}
use Rattle.script_plans.specs.Fates.{Call, Fate, Unfit, Calls, lease_of}
use Rattle.tenant_service.specs.declared.holding.Holding.{Holding as DeclaredHolding}
use Rattle.tenant_service.specs.declared.holding.Shared.{Shared}
use Rattle.tenant_service.specs.declared.holding.Spare.{Spare}
use Rattle.tenant_service.specs.declared.holding.Started.{Started}
use Rattle.tenant_service.specs.declared.holding.Started.TheVariants as started
use Rattle.tenant_service.specs.Rooms as rooms
use Rattle.tenant_service.specs.Rooms.{Room, Holding, Own, Starts, Reply, Step, step, told, asked, placed, with_job, held_named, cells_held}
use Rattle.tenant_service.specs.Granting.{names_of, IsHeldNow, GrantIs}
use Rattle.tenant_service.specs.Holding.{IsCallOf, IsFateOf, AreHolding, IsRoom, AreRooms, IsSpare}
use Rattle.tenant_service.specs.Steps.{StartedIs, IsDone}
use Rattle.tenant_service.proofs.OneRoom.{ShiftTaken, IsPlaced, placed_in, room_more}
use Rattle.tenant_service.proofs.AllRooms.{IsAt, here, holes_at, set_here, jobs_of, jobs_same, jobs_set, rooms_same, done_same, done_set}

abbrev pub ShiftLargest : Type 0
ShiftLargest = (by : ℕ) (hs : List Run) → largest (map (shift by) hs) ≡ largest hs

-- with this desk, this stack and this vector of one tenant
abbrev pub with_jobs : Shared → Tenants → Option Spare → (tenant : ℕ) → Vec DeclaredHolding → Shared
with_jobs s desk spare tenant v = record { desk = desk; held = with_item s.held tenant v; spare = spare }

-- a look for a name in what is lent of a vector
pub looked : (v : Vec DeclaredHolding) (ds : List DeclaredHolding) (name : List ℕ) (o : Option ℕ) → o ≡ place_among (names_of ds) name → ds ≡ v.items → o ≡ place_among (names_of v.items) name
looked v ds name o e s = e ∙ ap (λ xs. place_among (names_of xs) name) s

-- the vector of one tenant is written back, with these jobs
pub record IsKept (old new : Shared) (tenant : ℕ) (v w : Vec DeclaredHolding) : Type 0 where
  pub was : v ≡ slice_index_or old.held.items tenant v
  pub held : new.held.items ≡ slice_set old.held.items tenant w
  pub desk : new.desk ≡ old.desk
  pub spare : new.spare ≡ old.spare

-- it has the same jobs
pub kept_same : (licences : List Licensed) (old new : Shared) (rs : List Room) (tenant : ℕ) (v w : Vec DeclaredHolding) → AreRooms licences old rs → tenant < length old.desk.pieces
    → IsKept old new tenant v w → w.items ≡ v.items → AreRooms licences new rs
kept_same licences old new rs tenant v w k t is same =
    let q : IsAt licences tenant old.desk.pieces (map (λ v. v.items) old.held.items) rs tenant = here licences old rs tenant k t in
    rooms_same licences old new rs k is.desk (subst (IsSpare licences) (sym is.spare) k.spare)
    (ap (map (λ (x : Vec DeclaredHolding). x.items)) is.held ∙ jobs_same old.held.items tenant w q.jobs q.has_jobs (same ∙ jobs_of old.held.items tenant v q.jobs is.was q.has_jobs))

-- ---- a job of this name is held

both_named : (licences : List Licensed) (tenant : ℕ) (p : Holed) (ds : List DeclaredHolding) (hs : List Holding) (name : List ℕ) → AreHolding licences tenant p ds hs
    → is_some (place_among (names_of ds) name) ≡ is_some (held_named hs name)
both_named licences tenant p [] [] name k = refl
both_named licences tenant p [] (h ∷ hs) name k = absurd k
both_named licences tenant p (x ∷ ds) [] name k = absurd k
both_named licences tenant p (x ∷ ds) (h ∷ hs) name k =
    ap (λ n. is_some (if bytes_eq n name then Some 0 else option_map suc (place_among (names_of ds) name))) k.0.name
    ∙ by_test (both_named licences tenant p ds hs name k.1) (bytes_eq h.name name)
  where
    same : (o : Option ℕ) → is_some (option_map suc o) ≡ is_some o
    same None = refl
    same (Some n) = refl

    by_test : is_some (place_among (names_of ds) name) ≡ is_some (held_named hs name) → (b : Bool)
        → is_some (if b then Some 0 else option_map suc (place_among (names_of ds) name)) ≡ is_some (if b then Some h else held_named hs name)
    by_test next true = refl
    by_test next false = same (place_among (names_of ds) name) ∙ next

some_of : (o : Option Holding) → is_some o ≡ true → (h : Holding) × (o ≡ Some h)
some_of None e = absurd (cc)
some_of (Some h) e = (h, refl)

none_of : (o : Option Holding) → is_some o ≡ false → o ≡ None
none_of None e = refl
none_of (Some h) e = absurd (cc)

-- what the place of a name says of the room
named : (licences : List Licensed) (s : Shared) (rs : List Room) (tenant : ℕ) (v : Vec DeclaredHolding) (name : List ℕ) (o : Option ℕ) (b : Bool)
    → (q : IsAt licences tenant s.desk.pieces (map (λ x. x.items) s.held.items) rs tenant) → v ≡ slice_index_or s.held.items tenant v → o ≡ place_among (names_of v.items) name
    → is_some o ≡ b → is_some (held_named q.room.held name) ≡ b
named licences s rs tenant v name o b q was e is =
    sym (both_named licences tenant q.piece q.jobs q.room.held name q.is.held)
    ∙ ap (λ ds. is_some (place_among (names_of ds) name)) (sym (jobs_of s.held.items tenant v q.jobs was q.has_jobs)) ∙ ap is_some (sym e) ∙ is

pub start_held : (licences : List Licensed) (old new : Shared) (tenant : ℕ) (v : Vec DeclaredHolding) (name : List ℕ) (o : Option ℕ) → tenant < length old.desk.pieces
    → IsKept old new tenant v v → o ≡ place_among (names_of v.items) name → is_some o ≡ true → (asked : Result DeclaredCall JobCause)
    → (rs : List Room) (fuel : ℕ) (fate : Fate) → AreRooms licences old rs → IsFateOf licences fuel asked fate
    → IsDone licences old new rs tenant (Starts name fuel fate) (StartedIs name started.Held)
start_held licences old new tenant v name o t is e some asked rs fuel fate k f =
    let q : IsAt licences tenant old.desk.pieces (map (λ x. x.items) old.held.items) rs tenant = here licences old rs tenant k t in
    let known = some_of (held_named q.room.held name) (named licences old rs tenant v name o true q is.was e some) in
    done_same licences old new rs tenant (Starts name fuel fate) (StartedIs name started.Held) (kept_same licences old new rs tenant v v k t is refl)
    (ap (λ (d : Tenants). map budget d.pieces) is.desk) q (told q.room (rooms.Holds name))
    (ap (rooms.started (budget q.piece) q.room name fuel fate) known.1) refl refl

-- no job of this name is held: what comes of it is by its fate
fate_step : (licences : List Licensed) (s : Shared) (rs : List Room) (tenant : ℕ) (v : Vec DeclaredHolding) (name : List ℕ) (o : Option ℕ) (fuel : ℕ) (fate : Fate)
    → (q : IsAt licences tenant s.desk.pieces (map (λ x. x.items) s.held.items) rs tenant) → v ≡ slice_index_or s.held.items tenant v → o ≡ place_among (names_of v.items) name
    → is_some o ≡ false → step (budget q.piece) q.room (Starts name fuel fate) ≡ rooms.by_fate (budget q.piece) q.room name fuel fate
fate_step licences s rs tenant v name o fuel fate q was e is =
    ap (rooms.started (budget q.piece) q.room name fuel fate) (none_of (held_named q.room.held name) (named licences s rs tenant v name o false q was e is))

-- the job is refused
pub start_refused : (licences : List Licensed) (old new : Shared) (tenant : ℕ) (v : Vec DeclaredHolding) (name : List ℕ) (o : Option ℕ) (cause : JobCause) → tenant < length old.desk.pieces
    → IsKept old new tenant v v → o ≡ place_among (names_of v.items) name → is_some o ≡ false → (asked : Result DeclaredCall JobCause) → asked ≡ Err cause
    → (rs : List Room) (fuel : ℕ) (fate : Fate) → AreRooms licences old rs → IsFateOf licences fuel asked fate
    → IsDone licences old new rs tenant (Starts name fuel fate) (StartedIs name (started.Refused cause))
start_refused licences old new tenant v name o cause t is e none asked a rs fuel fate k f = by_fate fate (subst (λ (x : Result DeclaredCall JobCause). IsFateOf licences fuel x fate) a f)
  where
    by_fate : (fate : Fate) → IsFateOf licences fuel (Err cause) fate → IsDone licences old new rs tenant (Starts name fuel fate) (StartedIs name (started.Refused cause))
    by_fate (Calls c) g = absurd g
    by_fate (Unfit why) g =
        let q : IsAt licences tenant old.desk.pieces (map (λ x. x.items) old.held.items) rs tenant = here licences old rs tenant k t in
        done_same licences old new rs tenant (Starts name fuel (Unfit why)) (StartedIs name (started.Refused cause)) (kept_same licences old new rs tenant v v k t is refl)
        (ap (λ (d : Tenants). map budget d.pieces) is.desk) q (told q.room (rooms.Refuses name why))
        (fate_step licences old rs tenant v name o fuel (Unfit why) q is.was e none) refl (ap (rooms.Refuses name) g)

-- ---- the desk is asked

-- what was asked of the desk
pub record IsTried (old new : Shared) (tenant : ℕ) (v ready w : Vec DeclaredHolding) (call : DeclaredCall) (size : ℕ) : Type 0 where
  pub was : v ≡ slice_index_or old.held.items tenant v
  pub reserved : ready.items ≡ v.items
  pub held : new.held.items ≡ slice_set old.held.items tenant w
  pub spare : new.spare ≡ old.spare
  pub tenants : AreTenants new.desk
  pub some : 1 ≤ size
  pub same : 1 ≤ call.needs.lease → size ≡ call.needs.lease

same_size : (licences : List Licensed) (fuel size : ℕ) (d : DeclaredCall) (c : Call) → IsCallOf licences fuel d c → (1 ≤ d.needs.lease → size ≡ d.needs.lease) → size ≡ lease_of c
same_size licences fuel size d c k e =
    let l : d.needs.lease ≡ lease_of c = k.lease in
    let some : 1 ≤ lease_of c = omega arith in
    e (omega (arith, l, some)) ∙ l

pub start_asked : ShiftTaken → ShiftLargest → (licences : List Licensed) (old new : Shared) (tenant : ℕ) (v ready w : Vec DeclaredHolding) (name : List ℕ) (o : Option ℕ)
    (call : DeclaredCall) (size : ℕ) (what : Started) → tenant < length old.desk.pieces → IsTried old new tenant v ready w call size → o ≡ place_among (names_of v.items) name → is_some o ≡ false
    → GrantIs old.desk new.desk ready.items w.items tenant name call size what → (asked : Result DeclaredCall JobCause) → asked ≡ Ok call
    → (rs : List Room) (fuel : ℕ) (fate : Fate) → AreRooms licences old rs → IsFateOf licences fuel asked fate
    → IsDone licences old new rs tenant (Starts name fuel fate) (StartedIs name what)
start_asked taken largest_is licences old new tenant v ready w name o call size what t is e none granted from a rs fuel fate k f =
    by_fate fate (subst (λ (x : Result DeclaredCall JobCause). IsFateOf licences fuel x fate) a f)
  where
    q : IsAt licences tenant old.desk.pieces (map (λ x. x.items) old.held.items) rs tenant
    q = here licences old rs tenant k t

    jobs : v.items ≡ q.jobs
    jobs = jobs_of old.held.items tenant v q.jobs is.was q.has_jobs

    limit : ℕ
    limit = budget q.piece

    sum : held q.piece ≡ cells_held q.room.held
    sum = q.is.sum

    -- the desk stays
    stays : (c : Call) (what : Started) → new.desk ≡ old.desk → w.items ≡ ready.items → (s : Step) → step limit q.room (Starts name fuel (Calls c)) ≡ s → s.room ≡ q.room
        → StartedIs name what s.reply → IsDone licences old new rs tenant (Starts name fuel (Calls c)) (StartedIs name what)
    stays c what d h s stepped same is_told =
        done_same licences old new rs tenant (Starts name fuel (Calls c)) (StartedIs name what)
        (rooms_same licences old new rs k d (subst (IsSpare licences) (sym is.spare) k.spare)
        (ap (map (λ (x : Vec DeclaredHolding). x.items)) is.held ∙ jobs_same old.held.items tenant w q.jobs q.has_jobs (h ∙ is.reserved ∙ jobs)))
        (ap (λ (x : Tenants). map budget x.pieces) d) q s stepped same is_told

    -- the test of the budget, and the run that is taken
    tested : (c : Call) (b : Bool) → nat_lt limit (cells_held q.room.held + lease_of c) ≡ b → step limit q.room (Starts name fuel (Calls c))
        ≡ (if b then told q.room (rooms.IsOver name (cells_held q.room.held) (lease_of c) limit) else placed q.room name c fuel (take_run q.room.holes (lease_of c)))
    tested c b x = fate_step licences old rs tenant v name o fuel (Calls c) q is.was e none
        ∙ ap (λ y. if y then told q.room (rooms.IsOver name (cells_held q.room.held) (lease_of c) limit) else placed q.room name c fuel (take_run q.room.holes (lease_of c))) x

    fits : (c : Call) → size ≡ lease_of c → held q.piece + size ≤ limit → nat_lt limit (cells_held q.room.held + lease_of c) ≡ false
    fits c sized within = let few : cells_held q.room.held + lease_of c ≤ limit = omega (arith, within, sum, sized) in grind arith

    by_what : (c : Call) → size ≡ lease_of c → IsCallOf licences fuel call c → (what : Started) → GrantIs old.desk new.desk ready.items w.items tenant name call size what
        → IsDone licences old new rs tenant (Starts name fuel (Calls c)) (StartedIs name what)
    by_what c sized g started.Held x = absurd x
    by_what c sized g (started.Refused cause) x = absurd x
    by_what c sized g (started.Over holds wants most) (x, h) =
        let same : x.piece ≡ q.piece = same_Some x.piece q.piece (sym x.there ∙ q.has_piece) in
        let over : limit < cells_held q.room.held + lease_of c =
        (let had : held x.piece ≡ held q.piece = ap held same in
        let had_limit : budget x.piece ≡ limit = ap budget same in
        omega (arith, x.over, had, had_limit, sum, sized)) in
        stays c (started.Over holds wants most) x.stays h (told q.room (rooms.IsOver name (cells_held q.room.held) (lease_of c) limit))
        (tested c true (lt-ltb limit (cells_held q.room.held + lease_of c) over)) refl
        (ap (λ n. rooms.IsOver name n (lease_of c) limit) (sym (x.holds ∙ ap held same ∙ sum))
        ∙ ap (λ n. rooms.IsOver name holds n limit) (sym (x.sized ∙ sized)) ∙ ap (rooms.IsOver name holds wants) (sym (x.bound ∙ ap budget same)))
    by_what c sized g (started.Full need most) (x, h) =
        let same : x.piece ≡ q.piece = same_Some x.piece q.piece (sym x.there ∙ q.has_piece) in
        let within : held q.piece + size ≤ limit =
        (let had : held x.piece ≡ held q.piece = ap held same in
        let had_limit : budget x.piece ≡ limit = ap budget same in
        omega (arith, x.within, had, had_limit)) in
        let most_is : most ≡ largest q.room.holes =
        x.most ∙ ap (λ (y : Holed). largest (map place_of y.holes)) same ∙ ap largest q.is.holes ∙ largest_is q.piece.base.first q.room.holes in
        let small : largest q.room.holes < lease_of c = omega (arith, x.small, x.sized, sized, most_is) in
        stays c (started.Full need most) x.stays h (told q.room (rooms.IsFull name (lease_of c) (largest q.room.holes)))
        (tested c false (fits c sized within) ∙ ap (placed q.room name c fuel) (too_small_all q.room.holes (lease_of c) small)) refl
        (ap (λ n. rooms.IsFull name n (largest q.room.holes)) (sym (x.sized ∙ sized)) ∙ ap (rooms.IsFull name need) (sym most_is))
    by_what c sized g (started.Granted first many) x =
        let same : x.granted.piece ≡ q.piece = same_Some x.granted.piece q.piece (sym x.granted.there ∙ q.has_piece) in
        by_piece c sized g first many x x.granted.after (subst (λ (p : Holed). held p + size ≤ budget p) same x.granted.within)
        (subst (λ (p : Holed). TookFrom p x.granted.after size x.lease.range) same x.granted.took)
        (subst (λ (p : Holed). x.lease ≡ lease tenant p.base.first x.lease.range) same x.granted.leased)
        x.granted.becomes
      where
        by_piece : (c : Call) → size ≡ lease_of c → IsCallOf licences fuel call c → (first many : ℕ) → (x : IsHeldNow old.desk new.desk ready.items w.items tenant name call size first many)
            → (after : Holed) → held q.piece + size ≤ limit → TookFrom q.piece after size x.lease.range → x.lease ≡ lease tenant q.piece.base.first x.lease.range
            → new.desk ≡ with_piece old.desk tenant after → IsDone licences old new rs tenant (Starts name fuel (Calls c)) (StartedIs name (started.Granted first many))
        by_piece c sized g first many x after within took leased becomes =
            let base : after.base ≡ q.piece.base = ap (λ (h : Holed). h.base) took.1 in
            let now : slice_get new.desk.pieces tenant ≡ Some after = ap (λ (d : Tenants). slice_get d.pieces tenant) becomes ∙ set_here old.desk.pieces tenant q.piece after q.has_piece in
            let at : IsPlaced q.room q.piece.base.first size x.lease.range after.holes = placed_in taken q.piece q.room size x.lease.range after.holes q.is.holes took.0 in
            let taken_is : take_run q.room.holes (lease_of c) ≡ Some at.taken = ap (take_run q.room.holes) (sym sized) ∙ at.is in
            let room : IsRoom licences tenant after (q.jobs ++ x.job ∷ []) (with_job q.room name c fuel at.taken) =
            room_more licences tenant q.piece after q.jobs q.room x.job name c fuel size x.lease.range (holes_at old.desk tenant q.piece k.tenants q.has_piece)
            (holes_at new.desk tenant after is.tenants now) is.some q.is took sized (x.lease_is ∙ leased) x.name_is (subst (λ (d : DeclaredCall). IsCallOf licences fuel d c) (sym x.call_is) g) at in
            let first_in : x.lease.range.first ≡ q.piece.base.first + at.taken.run.first = ap (λ (r : Run). r.first) at.run in
            let piece_is : x.lease.piece ≡ q.piece.base.first = ap (λ (l : LeaseView). l.piece) leased in
            let first_is : first ≡ at.taken.run.first = omega (arith, x.first_is, first_in, piece_is) in
            done_set licences old new rs tenant (Starts name fuel (Calls c)) (StartedIs name (started.Granted first many)) k q after (q.jobs ++ x.job ∷ []) base becomes is.tenants
            (subst (IsSpare licences) (sym is.spare) k.spare)
            (ap (map (λ (y : Vec DeclaredHolding). y.items)) is.held ∙ jobs_set old.held.items tenant w
            ∙ ap (slice_set (map (λ (y : Vec DeclaredHolding). y.items) old.held.items) tenant) (x.held ∙ ap (λ (ds : List DeclaredHolding). ds ++ x.job ∷ []) (is.reserved ∙ jobs)))
            (told (with_job q.room name c fuel at.taken) (rooms.Started name at.taken.run.first at.taken.run.size))
            (tested c false (fits c sized within) ∙ ap (placed q.room name c fuel) taken_is) room
            (ap (λ n. rooms.Started name n at.taken.run.size) (sym first_is) ∙ ap (rooms.Started name first) (at.sized ∙ sym x.size_is))

    by_fate : (fate : Fate) → IsFateOf licences fuel (Ok call) fate → IsDone licences old new rs tenant (Starts name fuel fate) (StartedIs name what)
    by_fate (Unfit why) g = absurd g
    by_fate (Calls c) g = by_what c (same_size licences fuel size call c g is.same) g what granted
