-- Cited by contracts.
-- An arena that several tenants share. Each has a piece of it, as large as its budget, and is given runs of its piece
-- by first fit. The pieces lie one behind the other, and what no tenant has is kept behind them.
use Rattle.std.specs.Prelude.{◌≡◌, ℕ, ◌+◌, ◌<◌, ◌≤◌, ◌==◌, if◌then◌else◌, List, [], ◌∷◌, ◌++◌, length, map, sum, slice_get, slice_set, IfSome, Some}
use Rattle.std.specs.List.{AllByRecursion}
use Rattle.cell_span.specs.declared.cell.Cell.{Cell}
use Rattle.cell_span.specs.Arenas.{Arena}
use Rattle.cell_span.specs.Range.{Range, front, back}
use Rattle.hole_list.specs.Placing.{largest, total, IsOut}
use Rattle.hole_list.specs.Holes.{Holed, run_of, new_holes, TookFrom, with_given}
use Rattle.tenant_desk.specs.Leases.{LeaseView, lease}

-- ---- the state

-- the arena, and how many leases of one tenant may be out; the tenants' pieces in their order, and what no tenant has:
-- one range or none
pub record Tenants : Type 0 where
  pub arena : Arena
  pub most : ℕ
  pub pieces : List Holed
  pub rest : List Range

-- a piece for each budget, each cut off the front of what is left
abbrev pub pieces_of : Range → List ℕ → (most : ℕ) → List Holed
pieces_of r [] most = []
pieces_of r (b ∷ bs) most = new_holes (front r b) most ∷ pieces_of (back r b) bs most

-- what is left behind these pieces
abbrev pub left_of : Range → List ℕ → Range
left_of r [] = r
left_of r (b ∷ bs) = left_of (back r b) bs

-- the range, where it has a cell
abbrev pub if_any : Range → List Range
if_any r = if length r.cells == 0 then [] else r ∷ []

-- what no tenant has
abbrev pub rest_of : Range → List ℕ → List Range
rest_of r bs = if_any (left_of r bs)

-- at first
abbrev pub new_tenants : Range → List ℕ → (most : ℕ) → Tenants
new_tenants r bs most = record { arena = r.arena; most = most; pieces = pieces_of r bs most; rest = rest_of r bs }

-- from 1 to 64 budgets of at least one cell each, which together have at most so many cells
pub record AreBudgets (cells : ℕ) (bs : List ℕ) : Type 0 where
  pub some : 1 ≤ length bs
  pub few : length bs ≤ 64
  pub each : AllByRecursion (λ b. 1 ≤ b) bs
  pub within : sum bs ≤ cells

-- with this piece of a tenant; the rest stays
abbrev pub with_piece : Tenants → (tenant : ℕ) → Holed → Tenants
with_piece d tenant h = record { arena = d.arena; most = d.most; pieces = slice_set d.pieces tenant h; rest = d.rest }

-- the cells of all runs of a piece that are out
abbrev pub held : Holed → ℕ
held h = total h.out

-- the cells of a piece
abbrev pub budget : Holed → ℕ
budget h = h.base.size

-- fewer leases of the tenant are out than may be
abbrev pub HasRoom : Tenants → (tenant : ℕ) → Type 0
HasRoom d tenant = IfSome (slice_get d.pieces tenant) (λ h. length h.out < d.most)

-- ---- what a tenant is answered that asks for so many cells

-- The front of the first hole of its piece that has so many cells; the pieces of the others stay. With it the tenant
-- holds at most its budget.
pub record IsGranted (old new : Tenants) (tenant size : ℕ) (l : LeaseView) : Type 0 where
  pub piece : Holed
  pub after : Holed
  pub there : slice_get old.pieces tenant ≡ Some piece
  pub within : held piece + size ≤ budget piece
  pub took : TookFrom piece after size l.range
  pub becomes : new ≡ with_piece old tenant after
  pub leased : l ≡ lease tenant piece.base.first l.range

-- It would hold more than its budget: told are what it holds, the size and its budget. All stays.
pub record IsOver (old new : Tenants) (tenant size : ℕ) (told asked limit : ℕ) : Type 0 where
  pub piece : Holed
  pub there : slice_get old.pieces tenant ≡ Some piece
  pub over : budget piece < held piece + size
  pub holds : told ≡ held piece
  pub sized : asked ≡ size
  pub bound : limit ≡ budget piece
  pub stays : new ≡ old

-- It would hold at most its budget, but each hole of its piece is too small: told are the size and the cells of the
-- largest hole. All stays.
pub record IsFull (old new : Tenants) (tenant size : ℕ) (asked told : ℕ) : Type 0 where
  pub piece : Holed
  pub there : slice_get old.pieces tenant ≡ Some piece
  pub within : held piece + size ≤ budget piece
  pub sized : asked ≡ size
  pub most : told ≡ largest (map run_of piece.holes)
  pub small : told < asked
  pub stays : new ≡ old

-- ---- giving back

-- the lease is of this arena, and its run is out in the piece of its tenant
pub record IsHeld (d : Tenants) (l : LeaseView) : Type 0 where
  pub piece : Holed
  pub there : slice_get d.pieces l.tenant ≡ Some piece
  pub out : IsOut piece.out (run_of l.range)
  pub arena : l.range.arena ≡ d.arena

-- the lease's range is back among the holes of its tenant's piece; the pieces of the others stay
pub record IsGiven (old new : Tenants) (l : LeaseView) : Type 0 where
  pub piece : Holed
  pub there : slice_get old.pieces l.tenant ≡ Some piece
  pub becomes : new ≡ with_piece old l.tenant (with_given piece l.range)

-- ---- the end

-- no run of any of these pieces is out
abbrev pub NoneOut : List Holed → Type 0
NoneOut [] = Unit {0}
NoneOut (h ∷ hs) = (h.out ≡ []) × NoneOut hs

-- the cells of these ranges, in order
abbrev pub cells_of : List Range → List Cell
cells_of [] = []
cells_of (r ∷ rs) = r.cells ++ cells_of rs

-- the cells of all holes of these pieces, in order
abbrev pub cells_in : List Holed → List Cell
cells_in [] = []
cells_in (h ∷ hs) = cells_of h.holes ++ cells_in hs

-- these, and the cells that no tenant has
abbrev pub all_cells : Tenants → List Cell
all_cells d = cells_in d.pieces ++ cells_of d.rest
