-- Cited by contracts.
-- Arenas, as plain data.
use Rattle.std.specs.Prelude.{ℕ}
use denote.RawPtr.{Ptr}
use Rattle.cell_span.specs.declared.arena.Arena.{Arena as DeclaredArena}

-- an arena: where its allocation begins, and how many cells it has. Two arenas that are there at once begin at two
-- places, since the allocator gives each a block of its own.
pub record Arena : Type 0 where
  pub at : Ptr
  pub cells : ℕ

-- the arena that the code's value names
abbrev pub arena_of : DeclaredArena → Arena
arena_of a = record { at = a.base.ptr; cells = a.cells }
