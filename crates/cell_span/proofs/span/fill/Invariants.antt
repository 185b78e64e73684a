use Rattle.std.proofs.Common.{◌≡◌, ◌+◌, replicate}
use Rattle.cell_span.specs.Range.{blank}
use Rattle.cell_span.proofs.span.fill.Given as goal

-- so many places are full of blank cells, and the others are still empty
abbrev pub invariant-loop-index : goal.invariant-loop-index
invariant-loop-index l = record {
  at : l.cells.at ≡ l.fn.cells.at;
  first : l.cells.first ≡ 0;
  items : l.cells.items ≡ replicate l.index blank;
  spare : l.cells.spare + l.index ≡ l.fn.count;
}
