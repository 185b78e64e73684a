-- Cited by contracts.
-- Runs of the cells of an arena, as plain data: a run is a part of its arena without gaps. The code owns the cells
-- themselves.
use Rattle.std.specs.Prelude.{◌≡◌, ℕ, ◌+◌, ◌≤◌, List, ◌++◌, length, take, drop, slice_set, replicate}
use Rattle.cell_span.specs.declared.cell.Cell.{Cell}
use Rattle.cell_span.specs.Arenas.{Arena}

-- a run of cells: the index in the arena of its first one, the arena, and the cells in order
pub record Range : Type 0 where
  pub first : ℕ
  pub arena : Arena
  pub cells : List Cell

-- at least one cell, all within the arena, and an arena of at most 2^31 cells
pub record IsRange (r : Range) : Type 0 where
  pub some : 1 ≤ length r.cells
  pub within : r.first + length r.cells ≤ r.arena.cells
  pub few : r.arena.cells ≤ 2147483648

-- a cell of tag 0 with words 0
abbrev pub blank : Cell
blank = record { tag = 0; words = replicate 4 0 }

-- the whole of a new arena of so many cells: where its allocation lies is up to the allocator
pub record IsNew (r : Range) (cells : ℕ) : Type 0 where
  pub first : r.first ≡ 0
  pub size : r.arena.cells ≡ cells
  pub blanks : r.cells ≡ replicate cells blank

-- the cells before a place
abbrev pub front : Range → ℕ → Range
front r at = record { first = r.first; arena = r.arena; cells = take at r.cells }

-- the cells from a place on
abbrev pub back : Range → ℕ → Range
back r at = record { first = r.first + at; arena = r.arena; cells = drop at r.cells }

-- a run and the next one
abbrev pub joined : Range → Range → Range
joined r next = record { first = r.first; arena = r.arena; cells = r.cells ++ next.cells }

-- with this cell at a place
abbrev pub written : Range → ℕ → Cell → Range
written r at cell = record { first = r.first; arena = r.arena; cells = slice_set r.cells at cell }

-- the second run is of the same arena and begins where the first ends
pub record Meet (r next : Range) : Type 0 where
  pub arena : r.arena ≡ next.arena
  pub end : r.first + length r.cells ≡ next.first

-- the whole arena
pub record IsWhole (r : Range) : Type 0 where
  pub from : r.first ≡ 0
  pub all : length r.cells ≡ r.arena.cells
