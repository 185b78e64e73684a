-- A worked row: of ten cells 4, 4 and 2 are taken, and the second and the first run come back.
use Rattle.std.proofs.Common.{◌≡◌, [], ◌∷◌, Some, None, refl}
use Rattle.hole_list.specs.Placing.{run, taken, take_run, give_run, largest}

first_taken : take_run (run 0 10 ∷ []) 4 ≡ Some (taken (run 0 4) (run 4 6 ∷ []))
first_taken = refl

second_taken : take_run (run 4 6 ∷ []) 4 ≡ Some (taken (run 4 4) (run 8 2 ∷ []))
second_taken = refl

third_taken : take_run (run 8 2 ∷ []) 2 ≡ Some (taken (run 8 2) [])
third_taken = refl

none_is_left : take_run [] 1 ≡ None
none_is_left = refl

second_given : give_run [] (run 4 4) ≡ run 4 4 ∷ []
second_given = refl

first_given : give_run (run 4 4 ∷ []) (run 0 4) ≡ run 0 8 ∷ []
first_given = refl

largest_then : largest (run 0 8 ∷ []) ≡ 8
largest_then = refl

-- between two holes, and apart from both
between_given : give_run (run 0 2 ∷ run 5 2 ∷ []) (run 2 3) ≡ run 0 7 ∷ []
between_given = refl

apart_given : give_run (run 0 2 ∷ run 8 2 ∷ []) (run 4 2) ≡ run 0 2 ∷ run 4 2 ∷ run 8 2 ∷ []
apart_given = refl

-- the first hole that has so many cells, which isn't the smallest
first_fit : take_run (run 0 2 ∷ run 4 5 ∷ run 10 3 ∷ []) 3 ≡ Some (taken (run 4 3) (run 0 2 ∷ run 7 2 ∷ run 10 3 ∷ []))
first_fit = refl
