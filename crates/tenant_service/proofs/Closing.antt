-- The desk at first, and at the end, when the cells of all jobs go back.
use Rattle.std.proofs.Common.{◌≡◌, ℕ, suc, ◌+◌, List, [], ◌∷◌, ◌++◌, length, take, map, replicate, Some, None, refl, sym, ap, ◌∙◌, subst, arith}
use Rattle.std.specs.Prelude.{slice_get, slice_set}
use Rattle.std.specs.List.{AllByRecursion}
use Rattle.std.specs.Global.{Vec}
use Rattle.std.proofs.lemmas.Option.{same_Some}
use Rattle.cell_span.specs.Range.{Range, front, back}
use Rattle.licence.specs.Licensed.{Licensed}
use Rattle.hole_list.specs.declared.run.Run.{Run}
use Rattle.hole_list.specs.Placing.{without_run}
use Rattle.hole_list.specs.Holes.{Holed, run_of as place_of, with_given, new_holes}
use Rattle.hole_list.specs.OutLaws.{without_others, without_length}
use Rattle.tenant_desk.specs.Desk.{Tenants, AreBudgets, budget, pieces_of, new_tenants, with_piece, IsHeld, IsGiven, NoneOut}
use Rattle.tenant_desk.specs.Kept.{AreTenants}
use Rattle.tenant_service.specs.declared.holding.Holding.{Holding as DeclaredHolding}
use Rattle.tenant_service.specs.declared.holding.Shared.{Shared}
use Rattle.tenant_service.specs.Rooms.{Room, Holding, whole}
use Rattle.tenant_service.specs.Holding.{IsHolding, AreHolding, BeginApart, IsRoom, AreRoomsFrom, AreRooms, IsSpare}
use Rattle.tenant_service.specs.Steps.{StandsForAny}
use Rattle.tenant_service.specs.Closing.{IsOutOf, FirstsDiffer, AreOut, AreOutFrom, AllOut, AreLast}
use Rattle.tenant_service.proofs.AllRooms.{held_count, arena_at}

-- ---- at first

-- each piece is free, and no job is held
first_room : (licences : List Licensed) (tenant : ℕ) (r : Range) (b most : ℕ) → length (take b r.cells) ≡ b → IsRoom licences tenant (new_holes (front r b) most) [] (whole b)
first_room licences tenant r b most e = record {
  holes = ap (λ (x : Run). x ∷ []) (λ i. let at : r.first ≡ r.first + 0 = omega arith in record { first = at i; size = e i });
  held = tt;
  apart = tt;
  sum = refl;
  count = refl;
}

first_from : (licences : List Licensed) (tenant : ℕ) (r : Range) (bs : List ℕ) (most : ℕ) → map budget (pieces_of r bs most) ≡ bs
    → AreRoomsFrom licences tenant (pieces_of r bs most) (replicate (length bs) []) (map whole bs)
first_from licences tenant r [] most e = tt
first_from licences tenant r (b ∷ bs) most e =
    let size : length (take b r.cells) ≡ b = cc in
    let rest : map budget (pieces_of (back r b) bs most) ≡ bs = cc in
    (first_room licences tenant r b most size, first_from licences (suc tenant) (back r b) bs most rest)

abbrev pub FirstBudgets : Type 0
FirstBudgets = (r : Range) (bs : List ℕ) (most : ℕ) → AreBudgets (length r.cells) bs → map budget (pieces_of r bs most) ≡ bs

pub first_rooms : FirstBudgets → (licences : List Licensed) (s : Shared) (r : Range) (bs : List ℕ) (n : ℕ) → AreBudgets (length r.cells) bs → s.desk ≡ new_tenants r bs 4096
    → AreTenants s.desk → s.spare ≡ None → n ≡ length bs → map (λ v. v.items) s.held.items ≡ replicate n [] → AreRooms licences s (map whole bs)
first_rooms law licences s r bs n few is kept spare count held = record {
  tenants = kept;
  most = ap (λ (d : Tenants). d.most) is;
  spare = subst (IsSpare licences) (sym spare) tt;
  rooms = subst (λ vs. AreRoomsFrom licences 0 s.desk.pieces vs (map whole bs)) (sym (held ∙ ap (λ k. replicate k []) count))
      (subst (λ (d : Tenants). AreRoomsFrom licences 0 d.pieces (replicate (length bs) []) (map whole bs)) (sym is) (first_from licences 0 r bs 4096 (law r bs 4096 few)));
}

-- ---- what is out stands for rooms

each_out : (licences : List Licensed) (tenant : ℕ) (p : Holed) (ds : List DeclaredHolding) (hs : List Holding) → AreHolding licences tenant p ds hs → AllByRecursion (IsOutOf tenant p) ds
each_out licences tenant p [] hs k = tt
each_out licences tenant p (d ∷ ds) [] k = absurd k
each_out licences tenant p (d ∷ ds) (h ∷ hs) k = (record { owner = k.0.owner; out = k.0.out; arena = k.0.arena }, each_out licences tenant p ds hs k.1)

one_differs : (licences : List Licensed) (tenant : ℕ) (p : Holed) (d : DeclaredHolding) (h : Holding) (ds : List DeclaredHolding) (hs : List Holding) → IsHolding licences tenant p d h
    → AreHolding licences tenant p ds hs → AllByRecursion (λ (k : Holding). k.place.first ≡ h.place.first → ⊥) hs
    → AllByRecursion (λ (e : DeclaredHolding). e.lease.range.first ≡ d.lease.range.first → ⊥) ds
one_differs licences tenant p d h [] hs i k a = tt
one_differs licences tenant p d h (e ∷ ds) [] i k a = absurd k
one_differs licences tenant p d h (e ∷ ds) (j ∷ hs) i k a = (
  λ same. a.0 (let at : d.lease.range.first ≡ p.base.first + h.place.first = ap (λ (x : Run). x.first) i.place in
      let there : e.lease.range.first ≡ p.base.first + j.place.first = ap (λ (x : Run). x.first) k.0.place in
      omega (arith, at, there, same)),
  one_differs licences tenant p d h ds hs i k.1 a.1,
)

firsts_differ : (licences : List Licensed) (tenant : ℕ) (p : Holed) (ds : List DeclaredHolding) (hs : List Holding) → AreHolding licences tenant p ds hs → BeginApart hs → FirstsDiffer ds
firsts_differ licences tenant p [] hs k a = tt
firsts_differ licences tenant p (d ∷ ds) [] k a = absurd k
firsts_differ licences tenant p (d ∷ ds) (h ∷ hs) k a = (one_differs licences tenant p d h ds hs k.0 k.1 a.0, firsts_differ licences tenant p ds hs k.1 a.1)

out_from : (licences : List Licensed) (tenant : ℕ) (ps : List Holed) (vs : List (List DeclaredHolding)) (rs : List Room) → AreRoomsFrom licences tenant ps vs rs → AreOutFrom tenant ps vs
out_from licences tenant [] [] [] k = tt
out_from licences tenant [] [] (r ∷ rs) k = absurd k
out_from licences tenant [] (v ∷ vs) rs k = absurd k
out_from licences tenant (p ∷ ps) [] rs k = absurd k
out_from licences tenant (p ∷ ps) (v ∷ vs) [] k = absurd k
out_from licences tenant (p ∷ ps) (v ∷ vs) (r ∷ rs) k = (
  record {
    each = each_out licences tenant p v r.held k.0.held;
    differ = firsts_differ licences tenant p v r.held k.0.held k.0.apart;
    count = k.0.count ∙ sym (held_count licences tenant p v r.held k.0.held);
  },
  out_from licences (suc tenant) ps vs rs k.1,
)

pub rooms_out : (s : Shared) → StandsForAny s → AllOut s.desk (map (λ v. v.items) s.held.items)
rooms_out s k = out_from k.licences 0 s.desk.pieces (map (λ v. v.items) s.held.items) k.stands.rs k.stands.are.rooms

-- ---- one goes back

module _ {A : Type 0} (P : A → Type 0) where
  all_front : (xs : List A) (x : A) → AllByRecursion P (xs ++ x ∷ []) → AllByRecursion P xs × P x
  all_front [] x a = (tt, a.0)
  all_front (y ∷ xs) x a = ((a.0, (all_front xs x a.1).0), (all_front xs x a.1).1)

last_differs : (ds : List DeclaredHolding) (d : DeclaredHolding) → FirstsDiffer (ds ++ d ∷ [])
    → FirstsDiffer ds × AllByRecursion (λ (e : DeclaredHolding). e.lease.range.first ≡ d.lease.range.first → ⊥) ds
last_differs [] d k = (tt, tt)
last_differs (x ∷ ds) d k =
    let here = all_front (λ (e : DeclaredHolding). e.lease.range.first ≡ x.lease.range.first → ⊥) ds d k.0 in
    let next = last_differs ds d k.1 in
    ((here.0, next.0), (λ e. here.1 (sym e), next.1))

count_end : (ds : List DeclaredHolding) (d : DeclaredHolding) → length (ds ++ d ∷ []) ≡ suc (length ds)
count_end [] d = refl
count_end (x ∷ ds) d = ap suc (count_end ds d)

each_left : (tenant : ℕ) (p : Holed) (r : Range) (ds : List DeclaredHolding) → AllByRecursion (IsOutOf tenant p) ds
    → AllByRecursion (λ (e : DeclaredHolding). e.lease.range.first ≡ r.first → ⊥) ds → AllByRecursion (IsOutOf tenant (with_given p r)) ds
each_left tenant p r [] a n = tt
each_left tenant p r (d ∷ ds) a n = (
  record { owner = a.0.owner; out = without_others p.out r.first (place_of d.lease.range) a.0.out n.0; arena = a.0.arena },
  each_left tenant p r ds a.1 n.1,
)

out_less : (tenant : ℕ) (p : Holed) (ds : List DeclaredHolding) (d : DeclaredHolding) → AreOut tenant p (ds ++ d ∷ []) → AreOut tenant (with_given p d.lease.range) ds
out_less tenant p ds d k =
    let each = all_front (IsOutOf tenant p) ds d k.each in
    let differ = last_differs ds d k.differ in
    record {
      each = each_left tenant p d.lease.range ds each.0 differ.1;
      differ = differ.0;
      count = let less : suc (length (without_run p.out d.lease.range.first)) ≡ length p.out = without_length p.out (place_of d.lease.range) each.1.out in
          let was : length p.out ≡ length (ds ++ d ∷ []) = k.count in
          omega (arith, less, was, count_end ds d);
    }

-- ---- the last tenant

-- its piece, and what is out of it
pub record IsLastPiece (tenant : ℕ) (ps : List Holed) (i : ℕ) (ds : List DeclaredHolding) : Type 0 where
  pub piece : Holed
  pub there : slice_get ps i ≡ Some piece
  pub out : AreOut tenant piece ds

last_piece : (n m : ℕ) (ps : List Holed) (vs : List (List DeclaredHolding)) (ds : List DeclaredHolding) → n + length vs ≡ m → AreOutFrom n ps (vs ++ ds ∷ [])
    → IsLastPiece m ps (length vs) ds
last_piece n m [] [] ds e k = absurd k
last_piece n m [] (v ∷ vs) ds e k = absurd k
last_piece n m (p ∷ ps) [] ds e k = record { piece = p; there = refl; out = subst (λ t. AreOut t p ds) (let same : n ≡ m = omega (arith, e) in same) k.0 }
last_piece n m (p ∷ ps) (v ∷ vs) ds e k =
    let q : IsLastPiece m ps (length vs) ds = last_piece (suc n) m ps vs ds (omega (arith, e)) k.1 in
    record { piece = q.piece; there = q.there; out = q.out }

set_piece : (n m : ℕ) (ps : List Holed) (vs : List (List DeclaredHolding)) (ds es : List DeclaredHolding) (p : Holed) → n + length vs ≡ m → AreOutFrom n ps (vs ++ ds ∷ [])
    → AreOut m p es → AreOutFrom n (slice_set ps (length vs) p) (vs ++ es ∷ [])
set_piece n m [] [] ds es p e k o = absurd k
set_piece n m [] (v ∷ vs) ds es p e k o = absurd k
set_piece n m (q ∷ ps) [] ds es p e k o = (subst (λ t. AreOut t p es) (let same : m ≡ n = omega (arith, e) in same) o, k.1)
set_piece n m (q ∷ ps) (v ∷ vs) ds es p e k o = (k.0, set_piece (suc n) m ps vs ds es p (omega (arith, e)) k.1 o)

last_held : (d : Tenants) (vs : List (List DeclaredHolding)) (ds : List DeclaredHolding) (x : DeclaredHolding) → AreTenants d → AllOut d (vs ++ (ds ++ x ∷ []) ∷ []) → IsHeld d x.lease
last_held d vs ds x t k =
    let q : IsLastPiece (length vs) d.pieces (length vs) (ds ++ x ∷ []) = last_piece 0 (length vs) d.pieces vs (ds ++ x ∷ []) (omega arith) k in
    let o : IsOutOf (length vs) q.piece x = (all_front (IsOutOf (length vs) q.piece) ds x q.out.each).1 in
    record {
      piece = q.piece;
      there = subst (λ n. slice_get d.pieces n ≡ Some q.piece) (sym o.owner) q.there;
      out = o.out;
      arena = o.arena ∙ arena_at d (length vs) q.piece t q.there;
    }

last_given : (d e : Tenants) (vs : List (List DeclaredHolding)) (ds : List DeclaredHolding) (x : DeclaredHolding) → IsGiven d e x.lease → AllOut d (vs ++ (ds ++ x ∷ []) ∷ [])
    → AllOut e (vs ++ ds ∷ [])
last_given d e vs ds x g k =
    let q : IsLastPiece (length vs) d.pieces (length vs) (ds ++ x ∷ []) = last_piece 0 (length vs) d.pieces vs (ds ++ x ∷ []) (omega arith) k in
    let o : IsOutOf (length vs) q.piece x = (all_front (IsOutOf (length vs) q.piece) ds x q.out.each).1 in
    let piece : g.piece ≡ q.piece = same_Some g.piece q.piece (sym g.there ∙ ap (slice_get d.pieces) o.owner ∙ q.there) in
    let becomes : e ≡ with_piece d (length vs) (with_given q.piece x.lease.range) =
    g.becomes ∙ ap (λ n. with_piece d n (with_given g.piece x.lease.range)) o.owner ∙ ap (λ (p : Holed). with_piece d (length vs) (with_given p x.lease.range)) piece in
    subst (λ (t : Tenants). AllOut t (vs ++ ds ∷ [])) (sym becomes)
    (set_piece 0 (length vs) d.pieces vs (ds ++ x ∷ []) ds (with_given q.piece x.lease.range) (omega arith) k (out_less (length vs) q.piece ds x q.out))

-- ---- turns

-- a job that was popped
pub turn_held : (first d : Tenants) (jobs old now : List DeclaredHolding) (x : DeclaredHolding) → AreTenants d → AreLast first jobs
    → ((before : List (List DeclaredHolding)) → AllOut first (before ++ jobs ∷ []) → AllOut d (before ++ old ∷ [])) → old ≡ now ++ x ∷ [] → IsHeld d x.lease
turn_held first d jobs old now x t last k e =
    last_held d last.before now x t (subst (λ ds. AllOut d (last.before ++ ds ∷ [])) e (k last.before last.out))

pub turn_given : (first d e : Tenants) (jobs old now : List DeclaredHolding) (x : DeclaredHolding)
    → ((before : List (List DeclaredHolding)) → AllOut first (before ++ jobs ∷ []) → AllOut d (before ++ old ∷ [])) → old ≡ now ++ x ∷ [] → IsGiven d e x.lease
    → (before : List (List DeclaredHolding)) → AllOut first (before ++ jobs ∷ []) → AllOut e (before ++ now ∷ [])
turn_given first d e jobs old now x k is g before a = last_given d e before now x g (subst (λ ds. AllOut d (before ++ ds ∷ [])) is (k before a))

none_left : (rs : List Run) → length rs ≡ 0 → rs ≡ []
none_left [] e = refl
none_left (r ∷ rs) e = absurd (omega (arith, e))

-- none of the last tenant's is left
all_given : (n : ℕ) (ps : List Holed) (vs : List (List DeclaredHolding)) → AreOutFrom n ps (vs ++ [] ∷ []) → AreOutFrom n ps vs
all_given n [] [] k = absurd k
all_given n [] (v ∷ vs) k = absurd k
all_given n (p ∷ ps) [] k = (none_left p.out k.0.count, k.1)
all_given n (p ∷ ps) (v ∷ vs) k = (k.0, all_given (suc n) ps vs k.1)

pub turn_end : (first d : Tenants) (jobs left : List DeclaredHolding) → ((before : List (List DeclaredHolding)) → AllOut first (before ++ jobs ∷ []) → AllOut d (before ++ left ∷ []))
    → length left ≡ 0 → (before : List (List DeclaredHolding)) → AllOut first (before ++ jobs ∷ []) → AllOut d before
turn_end first d jobs [] k e before a = all_given 0 d.pieces before (k before a)
turn_end first d jobs (x ∷ left) k e before a = absurd (omega (arith, e))

-- the vectors of the tenants
pub items_end : (old now : List (Vec DeclaredHolding)) (v : Vec DeclaredHolding) → old ≡ now ++ v ∷ [] → map (λ x. x.items) old ≡ map (λ x. x.items) now ++ v.items ∷ []
items_end old now v e = ap (map (λ (x : Vec DeclaredHolding). x.items)) e ∙ both now
  where
    both : (now : List (Vec DeclaredHolding)) → map (λ x. x.items) (now ++ v ∷ []) ≡ map (λ x. x.items) now ++ v.items ∷ []
    both [] = refl
    both (x ∷ now) = ap (λ vs. x.items ∷ vs) (both now)

pub last_jobs : (d : Tenants) (old now : List (Vec DeclaredHolding)) (v : Vec DeclaredHolding) → old ≡ now ++ v ∷ [] → AllOut d (map (λ x. x.items) old) → AreLast d v.items
last_jobs d old now v e k = record { before = map (λ (x : Vec DeclaredHolding). x.items) now; out = subst (AllOut d) (items_end old now v e) k }

pub none_out : (d : Tenants) (left : List (Vec DeclaredHolding)) → length left ≡ 0 → AllOut d (map (λ x. x.items) left) → NoneOut d.pieces
none_out d [] e k = k
none_out d (v ∷ left) e k = absurd (omega (arith, e))
