-- Pieces of a run.
use Rattle.std.proofs.Common.{◌≡◌, ℕ, ◌+◌, ◌≤◌, length, Option, Some, None, sym, ◌∙◌, arith, length-drop}
use Rattle.cell_machine.specs.Laid.{SameRange}
use Rattle.cell_span.specs.Range.{Range, back}
use Rattle.sliced_jobs.specs.Parts.{IsBefore, IsBehind, ArePartsOf}

pub back_is : (r : Range) (at : ℕ) → at ≤ length r.cells → (back r at).first + length (back r at).cells ≡ r.first + length r.cells
back_is r at h = omega (arith, h, length-drop at r.cells)

before_same : (w p q : Range) (o : Option Range) → q.first ≡ p.first → IsBefore w p o → IsBefore w q o
before_same w p q None e h = e ∙ h
before_same w p q (Some b) e h = (h.0, h.1, h.2 ∙ sym e)

-- what is joined behind and then before is the run
pub joined_back : (w piece mid all : Range) (before behind : Option Range) → ArePartsOf w before piece behind → mid.first ≡ piece.first → mid.arena ≡ piece.arena
    → ((w : Range) → IsBehind w piece behind → mid.first + length mid.cells ≡ w.first + length w.cells)
    → ((w : Range) → IsBefore w mid before → all.first ≡ w.first) → all.first + length all.cells ≡ mid.first + length mid.cells
    → ((w : Range) → mid.arena ≡ w.arena → IsBefore w mid before → all.arena ≡ w.arena) → SameRange w all
joined_back w piece mid all before behind h first arena end start same of =
    let b = before_same w piece mid before first h.before in
    let f : all.first ≡ w.first = start w b in
    let e : mid.first + length mid.cells ≡ w.first + length w.cells = end w h.behind in
    record { first = f; arena = of w (arena ∙ h.arena) b; cells = omega (arith, f, same, e) }
