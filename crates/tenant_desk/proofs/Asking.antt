-- What a tenant is answered, from its piece to the whole desk.
use Rattle.std.proofs.Common.{◌≡◌, ℕ, zero, suc, ◌+◌, ◌<◌, ◌≤◌, List, [], ◌∷◌, length, get_or, map, Some, None, refl, sym, ap, ◌∙◌, subst, arith}
use Rattle.std.specs.Prelude.{slice_get, slice_set}
use Rattle.std.proofs.lemmas.Option.{slice_get_read, slice_get_within, same_Some}
use Rattle.std.specs.Prelude.{IfSome}
use Rattle.cell_span.specs.Arenas.{Arena}
use Rattle.cell_span.specs.Range.{Range}
use Rattle.hole_list.specs.Placing.{end_of, largest, total, IsOut}
use Rattle.hole_list.specs.Holes.{Holed, AreHoles, run_of, taken_cells, take_cells, with_taken, with_given}
use Rattle.hole_list.specs.PlacingLaws.{none_taken}
use Rattle.hole_list.specs.HolesLaws.{taken_runs, not_taken}
use Rattle.hole_list.specs.OutLaws.{with_total, without_total}
use Rattle.hole_list.specs.KeptLaws.{range_taken}
use Rattle.tenant_desk.specs.declared.ask.Ask.{Ask}
use Rattle.tenant_desk.specs.declared.ask.Ask.TheVariants as answer
use Rattle.tenant_desk.specs.Leases.{LeaseView}
use Rattle.tenant_desk.specs.Desk.{Tenants, with_piece, held, budget, HasRoom, IsHeld, IsGiven, IsGranted}
use Rattle.tenant_desk.specs.Kept.{AreInLine, AreTenants}
use Rattle.tenant_desk.specs.Answers.{AskIs}
use Rattle.tenant_desk.specs.Joining.{PieceIs, Stays}

-- ---- one piece

-- what is taken begins in the piece
pub begins_within : (h : Holed) (size : ℕ) (r : Range) (rest : List Range) → AreHoles h → 1 ≤ size → take_cells h.holes size ≡ Some (taken_cells r rest) → h.base.first ≤ r.first
begins_within h size r rest k some e = (range_taken h size (taken_cells r rest) k some e).part.from

-- where nothing is taken, the largest hole is too small
pub too_small : (h : Holed) (size : ℕ) → 1 ≤ size → take_cells h.holes size ≡ None → largest (map run_of h.holes) < size
too_small h size some e = none_taken (map run_of h.holes) size some (not_taken h.holes size e)

-- it would hold at most its budget, and no hole is large enough
pub none_answers : (h g : Holed) (size free most : ℕ) → AreHoles h → 1 ≤ size → free ≡ total (map run_of h.holes) → size ≤ free → take_cells h.holes size ≡ None → g ≡ h
    → most ≡ largest (map run_of g.holes)
    → (held h + size ≤ budget h) × (size ≡ size) × (most ≡ largest (map run_of h.holes)) × (most < size) × (g ≡ h)
none_answers h g size free most k some is few none e m =
    let same : most ≡ largest (map run_of h.holes) = m ∙ ap (λ (x : Holed). largest (map run_of x.holes)) e in
    (omega (arith, k.sum, is, few), refl, same, omega (arith, same, too_small h size some none), e)

-- ---- the piece among the others

-- with a piece over the same run in its place, the pieces lie in line as before
pub set_line : (a : Arena) (most from : ℕ) (hs : List Holed) (rest : List Range) (i : ℕ) (h g : Holed) → AreInLine a most from hs rest → slice_get hs i ≡ Some h → Stays h g
    → AreInLine a most from (slice_set hs i g) rest
set_line a most from [] rest i h g k e s = k
set_line a most from (x ∷ hs) rest zero h g k e s =
    let is : x ≡ h = grind (arith, e) in
    let base : g.base ≡ x.base = s.base ∙ ap (λ (y : Holed). y.base) (sym is) in (
      record {
        arena = s.arena ∙ ap (λ (y : Holed). y.arena) (sym is) ∙ k.0.arena;
        most = s.most ∙ ap (λ (y : Holed). y.most_out) (sym is) ∙ k.0.most;
        first = ap (λ r. r.first) base ∙ k.0.first;
        holes = s.holes;
      },
      subst (λ r. AreInLine a most (end_of r) hs rest) (sym base) k.1,
    )
set_line a most from (x ∷ hs) rest (suc i) h g k e s = (k.0, set_line a most (end_of x.base) hs rest i h g k.1 e s)

set_length : (hs : List Holed) (i : ℕ) (g : Holed) → length (slice_set hs i g) ≡ length hs
set_length [] i g = refl
set_length (h ∷ hs) zero g = refl
set_length (h ∷ hs) (suc i) g = ap suc (set_length hs i g)

set_same : (hs : List Holed) (i : ℕ) (h : Holed) → slice_get hs i ≡ Some h → slice_set hs i h ≡ hs
set_same [] i h e = refl
set_same (x ∷ hs) zero h e = let is : h ≡ x = grind (arith, e) in ap (λ (y : Holed). y ∷ hs) is
set_same (x ∷ hs) (suc i) h e = ap (λ (l : List Holed). x ∷ l) (set_same hs i h e)

pub set_kept : (d : Tenants) (i : ℕ) (h g : Holed) → AreTenants d → slice_get d.pieces i ≡ Some h → Stays h g → AreTenants (with_piece d i g)
set_kept d i h g k e s = record {
  some = k.some;
  few = omega (arith, k.few, set_length d.pieces i g);
  line = set_line d.arena d.most 0 d.pieces d.rest i h g k.line e s;
}

-- each piece is of the arena, and as many of its runs may be out
line_at : (a : Arena) (most from : ℕ) (hs : List Holed) (rest : List Range) (i : ℕ) (h : Holed) → AreInLine a most from hs rest → slice_get hs i ≡ Some h
    → (h.arena ≡ a) × (h.most_out ≡ most)
line_at a most from [] rest i h k e = absurd (grind (arith, e))
line_at a most from (x ∷ hs) rest zero h k e =
    let is : x ≡ h = grind (arith, e) in
    (ap (λ (y : Holed). y.arena) (sym is) ∙ k.0.arena, ap (λ (y : Holed). y.most_out) (sym is) ∙ k.0.most)
line_at a most from (x ∷ hs) rest (suc i) h k e = line_at a most (end_of x.base) hs rest i h k.1 e

-- it keeps what holes keep
pub holes_at : (a : Arena) (most from : ℕ) (hs : List Holed) (rest : List Range) (i : ℕ) (h : Holed) → AreInLine a most from hs rest → slice_get hs i ≡ Some h → AreHoles h
holes_at a most from [] rest i h k e = absurd (grind (arith, e))
holes_at a most from (x ∷ hs) rest zero h k e = subst AreHoles (same_Some x h e) k.0.holes
holes_at a most from (x ∷ hs) rest (suc i) h k e = holes_at a most (end_of x.base) hs rest i h k.1 e

pub piece_at : (d : Tenants) (i : ℕ) (h : Holed) → AreTenants d → slice_get d.pieces i ≡ Some h → (h.arena ≡ d.arena) × (h.most_out ≡ d.most)
piece_at d i h k e = line_at d.arena d.most 0 d.pieces d.rest i h k.line e

-- with the piece that is there, all is as it was
same_tenants : (d : Tenants) (i : ℕ) (h : Holed) → slice_get d.pieces i ≡ Some h → with_piece d i h ≡ d
same_tenants d i h e = ap (λ (l : List Holed). let t : Tenants = record { arena = d.arena; most = d.most; pieces = l; rest = d.rest } in t) (set_same d.pieces i h e)

stays_all : (old new : Tenants) (i : ℕ) (h g : Holed) → slice_get old.pieces i ≡ Some h → new ≡ with_piece old i g → g ≡ h → new ≡ old
stays_all old new i h g e n s = n ∙ ap (with_piece old i) s ∙ same_tenants old i h e

-- what the piece answers is what the desk does
pub answers : (old new : Tenants) (tenant size : ℕ) (a : Ask) (h g : Holed) → slice_get old.pieces tenant ≡ Some h → new ≡ with_piece old tenant g → PieceIs h g tenant size a
    → AskIs old new tenant size a
answers old new tenant size (answer.Granted l) h g e n k = record { piece = h; after = g; there = e; within = k.0; took = k.1; becomes = n; leased = k.2 }
answers old new tenant size (answer.Over told asked limit) h g e n k = record {
  piece = h;
  there = e;
  over = k.0;
  holds = k.1;
  sized = k.2;
  bound = k.3;
  stays = stays_all old new tenant h g e n k.4;
}
answers old new tenant size (answer.Full asked told) h g e n k = record {
  piece = h;
  there = e;
  within = k.0;
  sized = k.1;
  most = k.2;
  small = k.3;
  stays = stays_all old new tenant h g e n k.4;
}

-- ---- in the desk, whose view is v

-- there is room for one more
pub room_now : (d v : Tenants) → d ≡ v → AreTenants d → (t : ℕ) → t < length v.pieces → HasRoom v t → (h : Holed) → h ≡ get_or d.pieces t h → length h.out < h.most_out
room_now d v e k t there room h is =
    let at : slice_get d.pieces t ≡ Some h = slice_get_read d.pieces (length v.pieces) t h (ap (λ (x : Tenants). length x.pieces) (sym e)) there is in
    let few : HasRoom d t = subst (λ (x : Tenants). HasRoom x t) (sym e) room in
    let fewer : length h.out < d.most = subst (λ o. IfSome o (λ (x : Holed). length x.out < d.most)) at few in
    omega (arith, fewer, (piece_at d t h k at).1)

pub ask_kept : (d v : Tenants) → d ≡ v → AreTenants d → (t : ℕ) → t < length v.pieces → (h g : Holed) → h ≡ get_or d.pieces t h → Stays h g → AreTenants (with_piece d t g)
ask_kept d v e k t there h g is s = set_kept d t h g k (slice_get_read d.pieces (length v.pieces) t h (ap (λ (x : Tenants). length x.pieces) (sym e)) there is) s

pub ask_answers : (d v : Tenants) → d ≡ v → (t : ℕ) → t < length v.pieces → (h g : Holed) → h ≡ get_or d.pieces t h → (size : ℕ) (a : Ask) → PieceIs h g t size a
    → AskIs v (with_piece d t g) t size a
ask_answers d v e t there h g is size a k =
    subst (λ (x : Tenants). AskIs x (with_piece d t g) t size a) e
    (answers d (with_piece d t g) t size a h g (slice_get_read d.pieces (length v.pieces) t h (ap (λ (x : Tenants). length x.pieces) (sym e)) there is) refl k)

-- the piece of a lease that comes back
pub record IsAt (d v : Tenants) (l : LeaseView) (t : ℕ) (r : Range) (h : Holed) : Type 0 where
  pub here : slice_get d.pieces t ≡ Some h
  pub there : slice_get v.pieces l.tenant ≡ Some h
  pub out : IsOut h.out (run_of r)
  pub arena : r.arena ≡ h.arena

pub lease_at : (d v : Tenants) → d ≡ v → AreTenants d → (l : LeaseView) → IsHeld v l → (t : ℕ) (r : Range) → (t ≡ l.tenant) × (r ≡ l.range) → (h : Holed) → h ≡ get_or d.pieces t h → IsAt d v l t r h
lease_at d v e k l known t r p h is =
    let lt : l.tenant < length v.pieces = slice_get_within v.pieces l.tenant known.piece known.there in
    let here : slice_get d.pieces t ≡ Some h =
    slice_get_read d.pieces (length v.pieces) t h (ap (λ (x : Tenants). length x.pieces) (sym e)) (omega (arith, lt, p.0)) is in
    let there : slice_get v.pieces l.tenant ≡ Some h =
    subst (λ n. slice_get v.pieces n ≡ Some h) p.0 (subst (λ (x : Tenants). slice_get x.pieces t ≡ Some h) e here) in
    let same : known.piece ≡ h = same_Some known.piece h (sym known.there ∙ there) in
    let out : IsOut h.out (run_of l.range) = subst (λ (x : Holed). IsOut x.out (run_of l.range)) same known.out in
    record {
      here = here;
      there = there;
      out = subst (λ (x : Range). IsOut h.out (run_of x)) (sym p.1) out;
      arena = ap (λ (x : Range). x.arena) p.1 ∙ known.arena ∙ ap (λ (x : Tenants). x.arena) (sym e) ∙ sym (piece_at d t h k here).0;
    }

pub give_kept : (d v : Tenants) (l : LeaseView) (t : ℕ) (r : Range) (h g : Holed) → AreTenants d → IsAt d v l t r h → Stays h g → AreTenants (with_piece d t g)
give_kept d v l t r h g k q s = set_kept d t h g k q.here s

pub give_answers : (d v : Tenants) → d ≡ v → (l : LeaseView) (t : ℕ) (r : Range) → (t ≡ l.tenant) × (r ≡ l.range) → (h g : Holed) → IsAt d v l t r h → g ≡ with_given h r
    → IsGiven v (with_piece d t g) l
give_answers d v e l t r p h g q is = record {
  piece = h;
  there = q.there;
  becomes = ap (with_piece d t) is ∙ ap (λ (x : Range). with_piece d t (with_given h x)) p.1 ∙ ap (λ n. with_piece d n (with_given h l.range)) p.0
      ∙ ap (λ (x : Tenants). with_piece x l.tenant (with_given h l.range)) e;
}

-- ---- what tenants hold

-- as many cells more as the lease has that was granted
pub holds_more : (old new : Tenants) (tenant size : ℕ) (l : LeaseView) (k : IsGranted old new tenant size l) → held k.after ≡ held k.piece + size
holds_more old new tenant size l k =
    let n : length l.range.cells ≡ size = (taken_runs k.piece.holes size (taken_cells l.range k.after.holes) k.took.0).1 in
    let after : held k.after ≡ held (with_taken k.piece (taken_cells l.range k.after.holes)) = ap held k.took.1 in
    omega (arith, n, after, with_total k.piece.out (run_of l.range))

pub budget_stays : (old new : Tenants) (tenant size : ℕ) (l : LeaseView) (k : IsGranted old new tenant size l) → budget k.after ≡ budget k.piece
budget_stays old new tenant size l k = ap budget k.took.1

-- and as many less as the lease has that comes back
pub holds_less : (d : Tenants) (l : LeaseView) (k : IsHeld d l) → AreTenants d → held (with_given k.piece l.range) + length l.range.cells ≡ held k.piece
holds_less d l k t = without_total k.piece.out (run_of l.range) (holes_at d.arena d.most 0 d.pieces d.rest l.tenant k.piece t.line k.there).order k.out
