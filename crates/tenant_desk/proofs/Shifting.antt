-- Placement among runs that lie so many cells further on.
use Rattle.std.proofs.Common.{◌≡◌, ◌≢◌, ℕ, zero, suc, ◌+◌, ◌-◌, max, ◌==◌, nat_le, nat_lt, Bool, true, false, if◌then◌else◌, List, [], ◌∷◌, map, Option, Some, None, refl, ap, ◌∙◌, arith}
use Rattle.std.specs.Prelude.{slice_get, slice_set}
use Rattle.std.specs.Option.{option_map}
use Rattle.hole_list.specs.declared.run.Run.{Run}
use Rattle.hole_list.specs.Placing.{run, end_of, Taken, taken, rest_of_run, behind, take_run, largest, both, give_run, total}
use Rattle.tenant_desk.specs.Shifts.{shift, shift_taken}

pub set_other : {A : Type 0} (xs : List A) (i j : ℕ) (x : A) → j ≢ i → slice_get (slice_set xs i x) j ≡ slice_get xs j
set_other [] i j x n = refl
set_other (y ∷ xs) zero zero x n = absurd (n refl)
set_other (y ∷ xs) zero (suc j) x n = refl
set_other (y ∷ xs) (suc i) zero x n = refl
set_other (y ∷ xs) (suc i) (suc j) x n = set_other xs i j x (λ e. n (ap suc e))

pub shift_largest : (by : ℕ) (hs : List Run) → largest (map (shift by) hs) ≡ largest hs
shift_largest by [] = refl
shift_largest by (h ∷ hs) = ap (max h.size) (shift_largest by hs)

pub shift_total : (by : ℕ) (hs : List Run) → total (map (shift by) hs) ≡ total hs
shift_total by [] = refl
shift_total by (h ∷ hs) = ap (λ n. h.size + n) (shift_total by hs)

rest_shift : (by : ℕ) (h : Run) (size : ℕ) (hs : List Run) → rest_of_run (shift by h) size (map (shift by) hs) ≡ map (shift by) (rest_of_run h size hs)
rest_shift by h size hs = by_test (h.size == size)
  where
    by_test : (b : Bool) → (if b then map (shift by) hs else run ((by + h.first) + size) (h.size - size) ∷ map (shift by) hs)
        ≡ map (shift by) (if b then hs else run (h.first + size) (h.size - size) ∷ hs)
    by_test true = refl
    by_test false = ap (λ n. run n (h.size - size) ∷ map (shift by) hs) (let e : (by + h.first) + size ≡ by + (h.first + size) = omega arith in e)

pub shift_take : (by : ℕ) (hs : List Run) (size : ℕ) → take_run (map (shift by) hs) size ≡ option_map (shift_taken by) (take_run hs size)
shift_take by [] size = refl
shift_take by (h ∷ hs) size = by_test (shift_take by hs size) (nat_le size h.size)
  where
    by_rest : (o : Option Taken) → option_map (behind (shift by h)) (option_map (shift_taken by) o) ≡ option_map (shift_taken by) (option_map (behind h) o)
    by_rest None = refl
    by_rest (Some t) = refl

    by_test : take_run (map (shift by) hs) size ≡ option_map (shift_taken by) (take_run hs size) → (b : Bool)
        → (if b then Some (taken (run (by + h.first) size) (rest_of_run (shift by h) size (map (shift by) hs))) else option_map (behind (shift by h)) (take_run (map (shift by) hs) size))
        ≡ option_map (shift_taken by) (if b then Some (taken (run h.first size) (rest_of_run h size hs)) else option_map (behind h) (take_run hs size))
    by_test next true = ap (λ l. Some (taken (run (by + h.first) size) l)) (rest_shift by h size hs)
    by_test next false = ap (option_map (behind (shift by h))) next ∙ by_rest (take_run hs size)

lt_shift : (by m n : ℕ) → nat_lt (by + m) (by + n) ≡ nat_lt m n
lt_shift by m n = grind arith

eq_shift : (by m n : ℕ) → ((by + m) == (by + n)) ≡ (m == n)
eq_shift by m n = grind arith

end_shift : (by : ℕ) (r : Run) → end_of (shift by r) ≡ by + end_of r
end_shift by r = let e : (by + r.first) + r.size ≡ by + (r.first + r.size) = omega arith in e

pub shift_give : (by : ℕ) (hs : List Run) (r : Run) → give_run (map (shift by) hs) (shift by r) ≡ map (shift by) (give_run hs r)
shift_give by [] r = refl
shift_give by (h ∷ hs) r =
    by_tests (λ s. shift_give by hs s) (nat_lt (end_of r) h.first) (end_of r == h.first) (end_of h == r.first)
    (nat_lt (end_of (shift by r)) (by + h.first)) (end_of (shift by r) == (by + h.first)) (end_of (shift by h) == (by + r.first))
    (ap (λ n. nat_lt n (by + h.first)) (end_shift by r) ∙ lt_shift by (end_of r) h.first)
    (ap (λ n. n == (by + h.first)) (end_shift by r) ∙ eq_shift by (end_of r) h.first)
    (ap (λ n. n == (by + r.first)) (end_shift by h) ∙ eq_shift by (end_of h) r.first)
  where
    by_tests : ((s : Run) → give_run (map (shift by) hs) (shift by s) ≡ map (shift by) (give_run hs s)) → (b c d b' c' d' : Bool)
        → b' ≡ b → c' ≡ c → d' ≡ d
        → (if b' then shift by r ∷ shift by h ∷ map (shift by) hs
        else if c' then both (shift by r) (shift by h) ∷ map (shift by) hs
        else if d' then give_run (map (shift by) hs) (both (shift by h) (shift by r)) else shift by h ∷ give_run (map (shift by) hs) (shift by r))
        ≡ map (shift by) (if b then r ∷ h ∷ hs else if c then both r h ∷ hs else if d then give_run hs (both h r) else h ∷ give_run hs r)
    by_tests next b c d b' c' d' p q s =
        ap (λ x. if x then shift by r ∷ shift by h ∷ map (shift by) hs
        else if c' then both (shift by r) (shift by h) ∷ map (shift by) hs
        else if d' then give_run (map (shift by) hs) (both (shift by h) (shift by r)) else shift by h ∷ give_run (map (shift by) hs) (shift by r)) p
        ∙ ap (λ x. if b then shift by r ∷ shift by h ∷ map (shift by) hs
        else if x then both (shift by r) (shift by h) ∷ map (shift by) hs
        else if d' then give_run (map (shift by) hs) (both (shift by h) (shift by r)) else shift by h ∷ give_run (map (shift by) hs) (shift by r)) q
        ∙ ap (λ x. if b then shift by r ∷ shift by h ∷ map (shift by) hs
        else if c then both (shift by r) (shift by h) ∷ map (shift by) hs
        else if x then give_run (map (shift by) hs) (both (shift by h) (shift by r)) else shift by h ∷ give_run (map (shift by) hs) (shift by r)) s
        ∙ same next b c d
      where
        same : ((s : Run) → give_run (map (shift by) hs) (shift by s) ≡ map (shift by) (give_run hs s)) → (b c d : Bool)
            → (if b then shift by r ∷ shift by h ∷ map (shift by) hs
            else if c then both (shift by r) (shift by h) ∷ map (shift by) hs
            else if d then give_run (map (shift by) hs) (both (shift by h) (shift by r)) else shift by h ∷ give_run (map (shift by) hs) (shift by r))
            ≡ map (shift by) (if b then r ∷ h ∷ hs else if c then both r h ∷ hs else if d then give_run hs (both h r) else h ∷ give_run hs r)
        same next true c d = refl
        same next false true d = refl
        same next false false true = next (both h r)
        same next false false false = ap (λ (l : List Run). shift by h ∷ l) (next r)
