-- Cited by contracts.
-- What a desk keeps of its tenants' pieces.
use Rattle.std.specs.Prelude.{◌≡◌, ℕ, ◌+◌, ◌≤◌, List, [], ◌∷◌, length}
use Rattle.cell_span.specs.Arenas.{Arena}
use Rattle.cell_span.specs.Range.{Range}
use Rattle.hole_list.specs.Placing.{end_of}
use Rattle.hole_list.specs.Holes.{Holed, AreHoles}
use Rattle.tenant_desk.specs.Desk.{Tenants}

-- holes of this arena, of which at most so many runs may be out, over a run that begins at this index
pub record IsPiece (a : Arena) (runs from : ℕ) (h : Holed) : Type 0 where
  pub arena : h.arena ≡ a
  pub most : h.most_out ≡ runs
  pub first : h.base.first ≡ from
  pub holes : AreHoles h

-- all cells of this arena from this index on, or none where there are none
abbrev pub IsRest : Arena → (from : ℕ) → List Range → Type 0
IsRest a from [] = from ≡ a.cells
IsRest a from (r ∷ []) = (r.arena ≡ a) × (r.first ≡ from) × (r.first + length r.cells ≡ a.cells)
IsRest a from (r ∷ s ∷ rs) = ⊥

-- pieces of this arena that lie one behind the other from this index on, and behind them the rest of the arena
abbrev pub AreInLine : Arena → (most from : ℕ) → List Holed → List Range → Type 0
AreInLine a most from [] rest = IsRest a from rest
AreInLine a most from (h ∷ hs) rest = IsPiece a most from h × AreInLine a most (end_of h.base) hs rest

-- The pieces and the rest lie one behind the other from the arena's first cell to its last one. There are at most 64
-- pieces, and the arena has a cell.
pub record AreTenants (d : Tenants) : Type 0 where
  pub some : 1 ≤ d.arena.cells
  pub few : length d.pieces ≤ 64
  pub line : AreInLine d.arena d.most 0 d.pieces d.rest
