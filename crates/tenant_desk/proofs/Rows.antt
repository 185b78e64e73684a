-- Worked rows: an arena of 14 cells, and budgets of 6, 4 and 4.
use Rattle.std.proofs.Common.{◌≡◌, ℕ, [], ◌∷◌, map, replicate, Some, None, refl}
use Rattle.cell_span.specs.Arenas.{Arena}
use Rattle.cell_span.specs.Range.{Range, blank}
use Rattle.hole_list.specs.Placing.{run, taken, take_run, give_run, largest}
use Rattle.hole_list.specs.Holes.{run_of}
use Rattle.tenant_desk.specs.Desk.{pieces_of, rest_of}
use Rattle.tenant_desk.specs.Shifts.{shift}

module _ (a : Arena) where
  abbrev whole : ℕ → Range
  whole n = record { first = 0; arena = a; cells = replicate n blank }

  bases : map (λ h. h.base) (pieces_of (whole 14) (6 ∷ 4 ∷ 4 ∷ []) 3) ≡ run 0 6 ∷ run 6 4 ∷ run 10 4 ∷ []
  bases = refl

  no_rest : rest_of (whole 14) (6 ∷ 4 ∷ 4 ∷ []) ≡ []
  no_rest = refl

  -- three cells are no tenant's in an arena of 17
  some_rest : map run_of (rest_of (whole 17) (6 ∷ 4 ∷ 4 ∷ [])) ≡ run 14 3 ∷ []
  some_rest = refl

-- the third tenant takes 1, 2 and 1
first_taken : take_run (run 10 4 ∷ []) 1 ≡ Some (taken (run 10 1) (run 11 3 ∷ []))
first_taken = refl

second_taken : take_run (run 11 3 ∷ []) 2 ≡ Some (taken (run 11 2) (run 13 1 ∷ []))
second_taken = refl

third_taken : take_run (run 13 1 ∷ []) 1 ≡ Some (taken (run 13 1) [])
third_taken = refl

-- gives the first and the third, and has no room for 2
two_given : give_run (give_run [] (run 10 1)) (run 13 1) ≡ run 10 1 ∷ run 13 1 ∷ []
two_given = refl

none_fits : take_run (run 10 1 ∷ run 13 1 ∷ []) 2 ≡ None
none_fits = refl

largest_then : largest (run 10 1 ∷ run 13 1 ∷ []) ≡ 1
largest_then = refl

-- as in a piece from 0 on
from_its_first : map (shift 10) (run 0 1 ∷ run 3 1 ∷ []) ≡ run 10 1 ∷ run 13 1 ∷ []
from_its_first = refl
