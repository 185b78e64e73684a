-- Cited by contracts.
-- The same with cells: a run that is taken has the cells that its hole held, and holes that merge have theirs one
-- behind the other.
use Rattle.std.specs.Prelude.{◌≡◌, ℕ, ◌+◌, ◌≤◌, ◌==◌, nat_le, nat_lt, if◌then◌else◌, List, [], ◌∷◌, length, map, slice_get, Bool, IsTrue, Option, Some, None}
use Rattle.std.specs.Option.{option_map}
use Rattle.std.specs.List.{AllByRecursion}
use Rattle.cell_span.specs.declared.cell.Cell.{Cell}
use Rattle.cell_span.specs.Arenas.{Arena}
use Rattle.cell_span.specs.Range.{Range, IsRange, front, back, joined}
use Rattle.hole_list.specs.Placing.{Run, run, end_of, AreApart, IsPartOf, AreParts, AreOrdered, total, with_run, without_run}

-- where a range lies
abbrev pub run_of : Range → Run
run_of r = run r.first (length r.cells)

-- ---- the state of holes

-- the arena, the run of it that the holes are over, and how many runs may be out; the holes and the runs that are out,
-- both in ascending order
pub record Holed : Type 0 where
  pub arena : Arena
  pub base : Run
  pub most_out : ℕ
  pub holes : List Range
  pub out : List Run

-- one hole that is all of this range, of which at most so many runs may be out
abbrev pub new_holes : Range → ℕ → Holed
new_holes range most = record { arena = range.arena; base = run_of range; most_out = most; holes = range ∷ []; out = [] }

-- the holes are ranges of the arena that lie apart, and each index of the base run is in one hole or in one run that
-- is out
pub record AreHoles (s : Holed) : Type 0 where
  pub ranges : AllByRecursion IsRange s.holes
  pub of_arena : AllByRecursion (λ h. h.arena ≡ s.arena) s.holes
  pub apart : AreApart (map run_of s.holes)
  pub parts : AreParts s.base (map run_of s.holes) s.out
  pub order : AreOrdered s.out
  pub sum : total (map run_of s.holes) + total s.out ≡ s.base.size
  pub few : length s.out ≤ s.most_out
  -- the base run has a cell and lies in the arena, which has at most 2^31 cells
  pub base_some : 1 ≤ s.base.size
  pub base_within : end_of s.base ≤ s.arena.cells
  pub arena_few : s.arena.cells ≤ 2147483648

-- with these holes and these runs out; the rest stays
abbrev pub with_holes : Holed → List Range → List Run → Holed
with_holes s holes out = record { arena = s.arena; base = s.base; most_out = s.most_out; holes = holes; out = out }

-- ---- taking

-- a range that was taken, and the holes that are left
pub record TakenCells : Type 0 where
  pub range : Range
  pub holes : List Range

abbrev pub taken_cells : Range → List Range → TakenCells
taken_cells r holes = record { range = r; holes = holes }

-- a hole less its first cells; nothing where these are all
abbrev pub rest_of : Range → ℕ → List Range → List Range
rest_of h size hs = if length h.cells == size then hs else back h size ∷ hs

-- with this hole in front, which stays
abbrev pub behind_cells : Range → TakenCells → TakenCells
behind_cells h t = taken_cells t.range (h ∷ t.holes)

-- the front of the first hole that has so many cells
abbrev pub take_cells : List Range → ℕ → Option TakenCells
take_cells [] size = None
take_cells (h ∷ hs) size = if nat_le size (length h.cells) then Some (taken_cells (front h size) (rest_of h size hs)) else option_map (behind_cells h) (take_cells hs size)

-- its run is out now, and these holes are left
abbrev pub with_taken : Holed → TakenCells → Holed
with_taken s t = with_holes s t.holes (with_run s.out (run_of t.range))

-- the range is the front of the first hole that had so many cells
abbrev pub TookFrom : (old new : Holed) → (size : ℕ) → Range → Type 0
TookFrom old new size range = (take_cells old.holes size ≡ Some (taken_cells range new.holes)) × (new ≡ with_taken old (taken_cells range new.holes))

-- no hole has so many cells, and all stays
abbrev pub TookNone : (old new : Holed) → (size : ℕ) → Type 0
TookNone old new size = (take_cells old.holes size ≡ None) × (new ≡ old)

-- a range of the arena with so many cells, which is a part of the base run
pub record IsRangeIn (s : Holed) (size : ℕ) (r : Range) : Type 0 where
  pub range : IsRange r
  pub arena : r.arena ≡ s.arena
  pub sized : length r.cells ≡ size
  pub part : IsPartOf (run_of r) s.base

-- ---- giving back

-- a range becomes a hole, which is merged with the hole that ends where it begins, and with the one that begins where
-- it ends
abbrev pub give_cells : List Range → Range → List Range
give_cells [] r = r ∷ []
give_cells (h ∷ hs) r =
    if nat_lt (r.first + length r.cells) h.first then r ∷ h ∷ hs
    else if (r.first + length r.cells) == h.first then joined r h ∷ hs
    else if (h.first + length h.cells) == r.first then give_cells hs (joined h r)
    else h ∷ give_cells hs r

-- its run is out no longer, and its cells are those of a hole
abbrev pub with_given : Holed → Range → Holed
with_given s r = with_holes s (give_cells s.holes r) (without_run s.out r.first)

-- ---- the cells of holes

-- each cell passes, at its index in the arena
abbrev pub Passes : (ℕ → Cell → Bool) → Range → Type 0
Passes test r = (at : ℕ) (cell : Cell) → slice_get r.cells at ≡ Some cell → IsTrue (test (r.first + at) cell)

-- so does each cell of each hole
abbrev pub AllPass : (ℕ → Cell → Bool) → List Range → Type 0
AllPass test [] = Unit {0}
AllPass test (h ∷ hs) = Passes test h × AllPass test hs
