-- The rooms of all tenants, of which one changes.
use Rattle.std.proofs.Common.{◌≡◌, ℕ, zero, suc, ◌+◌, ◌<◌, List, [], ◌∷◌, length, map, Some, refl, sym, ap, ◌∙◌, subst, arith}
use Rattle.std.specs.Prelude.{slice_get, slice_set, slice_index_or, IfSome}
use Rattle.std.specs.Global.{Vec}
use Rattle.std.proofs.lemmas.Option.{same_Some}
use Rattle.cell_span.specs.Arenas.{Arena}
use Rattle.cell_span.specs.Range.{Range}
use Rattle.licence.specs.Licensed.{Licensed}
use Rattle.hole_list.specs.Placing.{end_of}
use Rattle.hole_list.specs.Holes.{Holed, AreHoles}
use Rattle.tenant_desk.specs.Desk.{Tenants, budget, with_piece, HasRoom}
use Rattle.tenant_desk.specs.Kept.{AreInLine, AreTenants}
use Rattle.tenant_service.specs.declared.holding.Holding.{Holding as DeclaredHolding}
use Rattle.tenant_service.specs.declared.holding.Shared.{Shared}
use Rattle.tenant_service.specs.Rooms.{Room, Holding, Own, Reply, Step, step}
use Rattle.tenant_service.specs.Holding.{AreHolding, IsRoom, AreRoomsFrom, AreRooms, IsSpare}
use Rattle.tenant_service.specs.Steps.{StandsForRooms, HoldsFewer, IsDone}

-- ---- lists

pub get_within : {A : Type 0} (xs : List A) (i : ℕ) → i < length xs → (x : A) × (slice_get xs i ≡ Some x)
get_within [] i k = absurd (omega (arith, k))
get_within (x ∷ xs) zero k = (x, refl)
get_within (x ∷ xs) (suc i) k = get_within xs i (omega (arith, k))

pub set_here : {A : Type 0} (xs : List A) (i : ℕ) (x y : A) → slice_get xs i ≡ Some x → slice_get (slice_set xs i y) i ≡ Some y
set_here [] i x y e = absurd (grind (arith, e))
set_here (z ∷ xs) zero x y e = refl
set_here (z ∷ xs) (suc i) x y e = set_here xs i x y e

pub set_same : {A : Type 0} (xs : List A) (i : ℕ) (x : A) → slice_get xs i ≡ Some x → slice_set xs i x ≡ xs
set_same [] i x e = refl
set_same (z ∷ xs) zero x e = ap (λ y. y ∷ xs) (sym (same_Some z x e))
set_same (z ∷ xs) (suc i) x e = ap (λ ys. z ∷ ys) (set_same xs i x e)

pub map_set : {A B : Type 0} (f : A → B) (xs : List A) (i : ℕ) (x : A) → map f (slice_set xs i x) ≡ slice_set (map f xs) i (f x)
map_set f [] i x = refl
map_set f (z ∷ xs) zero x = refl
map_set f (z ∷ xs) (suc i) x = ap (λ ys. f z ∷ ys) (map_set f xs i x)

pub get_map : {A B : Type 0} (f : A → B) (xs : List A) (i : ℕ) (x : A) → slice_get xs i ≡ Some x → slice_get (map f xs) i ≡ Some (f x)
get_map f [] i x e = absurd (grind (arith, e))
get_map f (z ∷ xs) zero x e = ap (λ y. Some (f y)) (same_Some z x e)
get_map f (z ∷ xs) (suc i) x e = get_map f xs i x e

-- ---- one tenant's

-- a tenant's piece, what is held of it, and its room
pub record IsAt (licences : List Licensed) (tenant : ℕ) (ps : List Holed) (vs : List (List DeclaredHolding)) (rs : List Room) (i : ℕ) : Type 0 where
  pub piece : Holed
  pub jobs : List DeclaredHolding
  pub room : Room
  pub has_piece : slice_get ps i ≡ Some piece
  pub has_jobs : slice_get vs i ≡ Some jobs
  pub has_room : slice_get rs i ≡ Some room
  pub is : IsRoom licences tenant piece jobs room

pub room_at : (licences : List Licensed) (n m : ℕ) (ps : List Holed) (vs : List (List DeclaredHolding)) (rs : List Room) (i : ℕ) → n + i ≡ m → i < length ps
    → AreRoomsFrom licences n ps vs rs → IsAt licences m ps vs rs i
room_at licences n m [] vs rs i e k r = absurd (omega (arith, k))
room_at licences n m (p ∷ ps) [] rs i e k r = absurd r
room_at licences n m (p ∷ ps) (v ∷ vs) [] i e k r = absurd r
room_at licences n m (p ∷ ps) (v ∷ vs) (room ∷ rs) zero e k r = record {
  piece = p;
  jobs = v;
  room = room;
  has_piece = refl;
  has_jobs = refl;
  has_room = refl;
  is = subst (λ t. IsRoom licences t p v room) (let same : n ≡ m = omega (arith, e) in same) r.0;
}
room_at licences n m (p ∷ ps) (v ∷ vs) (room ∷ rs) (suc i) e k r =
    let q : IsAt licences m ps vs rs i = room_at licences (suc n) m ps vs rs i (omega (arith, e)) (omega (arith, k)) r.1 in
    record { piece = q.piece; jobs = q.jobs; room = q.room; has_piece = q.has_piece; has_jobs = q.has_jobs; has_room = q.has_room; is = q.is }

-- with another piece, other jobs and another room of one tenant
pub rooms_set : (licences : List Licensed) (n m : ℕ) (ps : List Holed) (vs : List (List DeclaredHolding)) (rs : List Room) (i : ℕ) (p : Holed) (v : List DeclaredHolding) (room : Room)
    → n + i ≡ m → IsRoom licences m p v room → AreRoomsFrom licences n ps vs rs → AreRoomsFrom licences n (slice_set ps i p) (slice_set vs i v) (slice_set rs i room)
rooms_set licences n m [] [] [] i p v room e is r = tt
rooms_set licences n m [] [] (y ∷ rs) i p v room e is r = absurd r
rooms_set licences n m [] (w ∷ vs) rs i p v room e is r = absurd r
rooms_set licences n m (q ∷ ps) [] rs i p v room e is r = absurd r
rooms_set licences n m (q ∷ ps) (w ∷ vs) [] i p v room e is r = absurd r
rooms_set licences n m (q ∷ ps) (w ∷ vs) (y ∷ rs) zero p v room e is r = (subst (λ t. IsRoom licences t p v room) (let same : m ≡ n = omega (arith, e) in same) is, r.1)
rooms_set licences n m (q ∷ ps) (w ∷ vs) (y ∷ rs) (suc i) p v room e is r = (r.0, rooms_set licences (suc n) m ps vs rs i p v room (omega (arith, e)) is r.1)

-- ---- pieces of a desk

holes_in : (a : Arena) (most from : ℕ) (hs : List Holed) (rest : List Range) (i : ℕ) (h : Holed) → AreInLine a most from hs rest → slice_get hs i ≡ Some h → AreHoles h
holes_in a most from [] rest i h k e = absurd (grind (arith, e))
holes_in a most from (x ∷ hs) rest zero h k e = subst AreHoles (same_Some x h e) k.0.holes
holes_in a most from (x ∷ hs) rest (suc i) h k e = holes_in a most (end_of x.base) hs rest i h k.1 e

pub holes_at : (d : Tenants) (i : ℕ) (h : Holed) → AreTenants d → slice_get d.pieces i ≡ Some h → AreHoles h
holes_at d i h k e = holes_in d.arena d.most 0 d.pieces d.rest i h k.line e

arena_in : (a : Arena) (most from : ℕ) (hs : List Holed) (rest : List Range) (i : ℕ) (h : Holed) → AreInLine a most from hs rest → slice_get hs i ≡ Some h → h.arena ≡ a
arena_in a most from [] rest i h k e = absurd (grind (arith, e))
arena_in a most from (x ∷ hs) rest zero h k e = ap (λ (y : Holed). y.arena) (sym (same_Some x h e)) ∙ k.0.arena
arena_in a most from (x ∷ hs) rest (suc i) h k e = arena_in a most (end_of x.base) hs rest i h k.1 e

pub arena_at : (d : Tenants) (i : ℕ) (h : Holed) → AreTenants d → slice_get d.pieces i ≡ Some h → h.arena ≡ d.arena
arena_at d i h k e = arena_in d.arena d.most 0 d.pieces d.rest i h k.line e

-- a piece over the same run leaves all budgets
pub same_budgets : (ps : List Holed) (i : ℕ) (p q : Holed) → slice_get ps i ≡ Some p → q.base ≡ p.base → map budget (slice_set ps i q) ≡ map budget ps
same_budgets ps i p q e b =
    map_set budget ps i q ∙ ap (slice_set (map budget ps) i) (ap (λ r. r.size) b) ∙ set_same (map budget ps) i (budget p) (get_map budget ps i p e)

-- ---- what is held

pub jobs_of : (held : List (Vec DeclaredHolding)) (t : ℕ) (v : Vec DeclaredHolding) (jobs : List DeclaredHolding) → v ≡ slice_index_or held t v
    → slice_get (map (λ x. x.items) held) t ≡ Some jobs → v.items ≡ jobs
jobs_of [] t v jobs e f = absurd (grind (arith, f))
jobs_of (x ∷ held) zero v jobs e f = ap (λ (y : Vec DeclaredHolding). y.items) e ∙ same_Some x.items jobs f
jobs_of (x ∷ held) (suc t) v jobs e f = jobs_of held t v jobs e f

pub jobs_within : (held : List (Vec DeclaredHolding)) (t : ℕ) (jobs : List DeclaredHolding) → slice_get (map (λ x. x.items) held) t ≡ Some jobs → t < length held
jobs_within [] t jobs f = absurd (grind (arith, f))
jobs_within (x ∷ held) zero jobs f = omega arith
jobs_within (x ∷ held) (suc t) jobs f = omega (arith, jobs_within held t jobs f)

-- with the same jobs of one tenant all are as they were
pub jobs_same : (held : List (Vec DeclaredHolding)) (t : ℕ) (v : Vec DeclaredHolding) (jobs : List DeclaredHolding) → slice_get (map (λ x. x.items) held) t ≡ Some jobs
    → v.items ≡ jobs → map (λ x. x.items) (slice_set held t v) ≡ map (λ x. x.items) held
jobs_same held t v jobs f e =
    map_set (λ (x : Vec DeclaredHolding). x.items) held t v ∙ ap (slice_set (map (λ (x : Vec DeclaredHolding). x.items) held) t) e
    ∙ set_same (map (λ (x : Vec DeclaredHolding). x.items) held) t jobs f

pub jobs_set : (held : List (Vec DeclaredHolding)) (t : ℕ) (v : Vec DeclaredHolding) → map (λ x. x.items) (slice_set held t v) ≡ slice_set (map (λ x. x.items) held) t v.items
jobs_set held t v = map_set (λ (x : Vec DeclaredHolding). x.items) held t v

pub jobs_count : (held : List (Vec DeclaredHolding)) (t : ℕ) (jobs : List DeclaredHolding) → slice_get (map (λ x. x.items) held) t ≡ Some jobs
    → slice_get (map (λ x. length x.items) held) t ≡ Some (length jobs)
jobs_count [] t jobs f = absurd (grind (arith, f))
jobs_count (x ∷ held) zero jobs f = ap (λ (y : List DeclaredHolding). Some (length y)) (same_Some x.items jobs f)
jobs_count (x ∷ held) (suc t) jobs f = jobs_count held t jobs f

-- there are as many jobs as the room holds
pub held_count : (licences : List Licensed) (tenant : ℕ) (p : Holed) (ds : List DeclaredHolding) (hs : List Holding) → AreHolding licences tenant p ds hs → length ds ≡ length hs
held_count licences tenant p [] [] k = refl
held_count licences tenant p [] (h ∷ hs) k = absurd k
held_count licences tenant p (d ∷ ds) [] k = absurd k
held_count licences tenant p (d ∷ ds) (h ∷ hs) k = ap suc (held_count licences tenant p ds hs k.1)

-- the room of the tenant of this number
pub here : (licences : List Licensed) (s : Shared) (rs : List Room) (tenant : ℕ) → AreRooms licences s rs → tenant < length s.desk.pieces
    → IsAt licences tenant s.desk.pieces (map (λ v. v.items) s.held.items) rs tenant
here licences s rs tenant k t = room_at licences 0 tenant s.desk.pieces (map (λ v. v.items) s.held.items) rs tenant (omega arith) t k.rooms

-- there are as many vectors as tenants
pub tenant_within : (licences : List Licensed) (s : Shared) (tenant most : ℕ) → StandsForRooms licences s → HoldsFewer s tenant most → tenant < length s.held.items
tenant_within licences s tenant most k f =
    let q : IsAt licences tenant s.desk.pieces (map (λ v. v.items) s.held.items) k.rs tenant = here licences s k.rs tenant k.are f.there in
    jobs_within s.held.items tenant q.jobs q.has_jobs

-- there is room on the desk for one job more
pub room_for_one : (licences : List Licensed) (s : Shared) (tenant : ℕ) → StandsForRooms licences s → HoldsFewer s tenant 4096 → HasRoom s.desk tenant
room_for_one licences s tenant k f =
    let q : IsAt licences tenant s.desk.pieces (map (λ v. v.items) s.held.items) k.rs tenant = here licences s k.rs tenant k.are f.there in
    let few : length q.jobs < 4096 = f.few (length q.jobs) (jobs_count s.held.items tenant q.jobs q.has_jobs) in
    let same : length q.jobs ≡ length q.room.held = held_count licences tenant q.piece q.jobs q.room.held q.is.held in
    let out : length q.piece.out ≡ length q.room.held = q.is.count in
    let most : s.desk.most ≡ 4096 = k.are.most in
    let less : length q.piece.out < s.desk.most = omega (arith, few, same, out, most) in
    subst (λ o. IfSome o (λ (h : Holed). length h.out < s.desk.most)) (sym q.has_piece) less

-- nothing is changed
pub rooms_same : (licences : List Licensed) (old new : Shared) (rs : List Room) → AreRooms licences old rs → new.desk ≡ old.desk → IsSpare licences new.spare
    → map (λ v. v.items) new.held.items ≡ map (λ v. v.items) old.held.items → AreRooms licences new rs
rooms_same licences old new rs k desk spare held = record {
  tenants = subst AreTenants (sym desk) k.tenants;
  most = ap (λ (d : Tenants). d.most) desk ∙ k.most;
  spare = spare;
  rooms = subst (λ vs. AreRoomsFrom licences 0 new.desk.pieces vs rs) (sym held)
      (subst (λ (d : Tenants). AreRoomsFrom licences 0 d.pieces (map (λ v. v.items) old.held.items) rs) (sym desk) k.rooms);
}

-- ---- one line

-- nothing is changed
pub done_same : (licences : List Licensed) (old new : Shared) (rs : List Room) (tenant : ℕ) (own : Own) (Told : Reply → Type 0) → AreRooms licences new rs
    → map budget new.desk.pieces ≡ map budget old.desk.pieces
    → (q : IsAt licences tenant old.desk.pieces (map (λ v. v.items) old.held.items) rs tenant) → (s : Step) → step (budget q.piece) q.room own ≡ s → s.room ≡ q.room
    → Told s.reply → IsDone licences old new rs tenant own Told
done_same licences old new rs tenant own Told k e q s is same told = record {
  room = q.room;
  there = q.has_room;
  limit = budget q.piece;
  budgeted = get_map budget old.desk.pieces tenant q.piece q.has_piece;
  told = subst (λ (x : Step). Told x.reply) (sym is) told;
  becomes = subst (AreRooms licences new)
      (sym (ap (λ (x : Step). slice_set rs tenant x.room) is ∙ ap (slice_set rs tenant) same ∙ set_same rs tenant q.room q.has_room)) k;
  budgets = e;
}

-- the tenant has another piece over the same run, other jobs and another room
pub done_set : (licences : List Licensed) (old new : Shared) (rs : List Room) (tenant : ℕ) (own : Own) (Told : Reply → Type 0) → AreRooms licences old rs
    → (q : IsAt licences tenant old.desk.pieces (map (λ v. v.items) old.held.items) rs tenant) → (piece : Holed) (jobs : List DeclaredHolding)
    → piece.base ≡ q.piece.base → new.desk ≡ with_piece old.desk tenant piece → AreTenants new.desk → IsSpare licences new.spare
    → map (λ v. v.items) new.held.items ≡ slice_set (map (λ v. v.items) old.held.items) tenant jobs → (s : Step) → step (budget q.piece) q.room own ≡ s
    → IsRoom licences tenant piece jobs s.room → Told s.reply → IsDone licences old new rs tenant own Told
done_set licences old new rs tenant own Told k q piece jobs base desk tenants spare held s stepped is told = record {
  room = q.room;
  there = q.has_room;
  limit = budget q.piece;
  budgeted = get_map budget old.desk.pieces tenant q.piece q.has_piece;
  told = subst (λ (x : Step). Told x.reply) (sym stepped) told;
  becomes = subst (λ (x : Step). AreRooms licences new (slice_set rs tenant x.room)) (sym stepped) record {
    tenants = tenants;
    most = ap (λ (d : Tenants). d.most) desk ∙ k.most;
    spare = spare;
    rooms = subst (λ vs. AreRoomsFrom licences 0 new.desk.pieces vs (slice_set rs tenant s.room)) (sym held)
        (subst (λ (d : Tenants). AreRoomsFrom licences 0 d.pieces (slice_set (map (λ v. v.items) old.held.items) tenant jobs) (slice_set rs tenant s.room)) (sym desk)
        (rooms_set licences 0 tenant old.desk.pieces (map (λ v. v.items) old.held.items) rs tenant piece jobs s.room (omega arith) is k.rooms));
  };
  budgets = ap (λ (d : Tenants). map budget d.pieces) desk ∙ same_budgets old.desk.pieces tenant q.piece piece q.has_piece base;
}
