-- Private: words for functions of this crate.
-- What is known of a right to free.
use Rattle.std.specs.Prelude.{◌≡◌, ℕ}
use Rattle.std.specs.declared.alloc.Global.{Global}
use denote.RawPtr.{Ptr}
use Rattle.cell_span.specs.declared.cell.Cell.{Cell}
use Rattle.cell_span.specs.declared.cells.Deed.{Deed}

-- the right is for the block of an arena of so many cells, which lies there, and of this heap
pub record IsDeed (at : Ptr) (cells : ℕ) (heap : Global) (d : Deed Cell Global) : Type 0 where
  pub place : d.at ≡ at
  pub size : d.len ≡ cells
  pub from : d.alloc ≡ heap
