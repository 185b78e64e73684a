-- Laws, for the proofs of this crate and of those above it.
-- Runs that are split, written and joined are the run that was split, written and put together.
use Rattle.std.proofs.Common.{◌≡◌, ℕ, ◌+◌, ◌<◌, ◌≤◌, List, ◌++◌, length, take, drop, sym, ap, ◌∙◌, arith}
use Rattle.std.specs.Prelude.{slice_set}
use Rattle.std.proofs.lemmas.List.{take-append-drop, set-append_left, set-append_right, length-take-le}
use Rattle.cell_span.specs.declared.cell.Cell.{Cell}
use Rattle.cell_span.specs.Range.{Range, front, back, joined, written}

pub joined_parts : (r : Range) (at : ℕ) → joined (front r at) (back r at) ≡ r
joined_parts r at = ap (λ (cells : List Cell). let s : Range = record { first = r.first; arena = r.arena; cells = cells } in s) (take-append-drop at r.cells)

pub joined_front : (r : Range) (at i : ℕ) (cell : Cell) → i < at → at ≤ length r.cells → joined (written (front r at) i cell) (back r at) ≡ written r i cell
joined_front r at i cell h k =
    ap (λ (cells : List Cell). let s : Range = record { first = r.first; arena = r.arena; cells = cells } in s)
    (sym (set-append_left (take at r.cells) (drop at r.cells) i cell (omega (arith, length-take-le at r.cells k))) ∙ ap (λ cells. slice_set cells i cell) (take-append-drop at r.cells))

pub joined_back : (r : Range) (at i : ℕ) (cell : Cell) → at ≤ length r.cells → joined (front r at) (written (back r at) i cell) ≡ written r (at + i) cell
joined_back r at i cell k =
    ap (λ (cells : List Cell). let s : Range = record { first = r.first; arena = r.arena; cells = cells } in s)
    (ap (λ n. take at r.cells ++ slice_set (drop at r.cells) n cell) (omega arith)
    ∙ sym (set-append_right (take at r.cells) (drop at r.cells) at (at + i) cell (length-take-le at r.cells k) (omega arith))
    ∙ ap (λ cells. slice_set cells (at + i) cell) (take-append-drop at r.cells))
