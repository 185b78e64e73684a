-- Laws, for the theory of journals.
-- What a lease that goes out or comes back changes in sums over the leases that are out.
use Rattle.std.proofs.Common.{◌≡◌, ℕ, zero, suc, ◌+◌, ◌<◌, ◌≤◌, List, [], ◌∷◌, length, Option, Some, None, refl, ap, arith}
use Rattle.std.specs.Prelude.{slice_get, slice_set}
use Rattle.hole_list.specs.declared.run.Run.{Run}
use Rattle.hole_list.specs.Placing.{in_run, times_in, total}
use Rattle.lease_desk.specs.Journal.{leased}
use Rattle.lease_desk.specs.Progress.{one_out}

abbrev pub sum_of : (Run → ℕ) → List Run → ℕ
sum_of f [] = 0
sum_of f (r ∷ rs) = f r + sum_of f rs

pub sum_times : (i : ℕ) (rs : List Run) → sum_of (λ r. in_run r i) rs ≡ times_in rs i
sum_times i [] = refl
sum_times i (r ∷ rs) = ap (λ n. in_run r i + n) (sum_times i rs)

pub sum_total : (rs : List Run) → sum_of (λ r. r.size) rs ≡ total rs
sum_total [] = refl
sum_total (r ∷ rs) = ap (λ n. r.size + n) (sum_total rs)

pub sum_length : (rs : List Run) → sum_of (λ r. 1) rs ≡ length rs
sum_length [] = refl
sum_length (r ∷ rs) = omega (arith, sum_length rs)

-- a lease goes out
pub sum_out : (f : Run → ℕ) (ls : List (Option Run)) (job : ℕ) (r : Run) → slice_get ls job ≡ Some None
    → sum_of f (leased (slice_set ls job (Some r))) ≡ sum_of f (leased ls) + f r
sum_out f [] job r e = absurd (grind arith)
sum_out f (None ∷ ls) zero r e = omega arith
sum_out f (Some q ∷ ls) zero r e = absurd (grind arith)
sum_out f (None ∷ ls) (suc job) r e = sum_out f ls job r e
sum_out f (Some q ∷ ls) (suc job) r e = omega (arith, sum_out f ls job r e)

-- and comes back
pub sum_back : (f : Run → ℕ) (ls : List (Option Run)) (job : ℕ) (r : Run) → slice_get ls job ≡ Some (Some r)
    → sum_of f (leased (slice_set ls job None)) + f r ≡ sum_of f (leased ls)
sum_back f [] job r e = absurd (grind arith)
sum_back f (None ∷ ls) zero r e = absurd (grind arith)
sum_back f (Some q ∷ ls) zero r e = let same : q ≡ r = grind arith in rw same (omega arith)
sum_back f (None ∷ ls) (suc job) r e = sum_back f ls job r e
sum_back f (Some q ∷ ls) (suc job) r e = omega (arith, sum_back f ls job r e)

-- a place that isn't out leaves room for one more
pub room_out : (ls : List (Option Run)) (job : ℕ) → slice_get ls job ≡ Some None → length (leased ls) < length ls
room_out [] job e = absurd (grind arith)
room_out (None ∷ ls) zero e = omega (arith, all_out ls)
  where
    all_out : (ls : List (Option Run)) → length (leased ls) ≤ length ls
    all_out [] = omega arith
    all_out (None ∷ ls) = omega (arith, all_out ls)
    all_out (Some r ∷ ls) = omega (arith, all_out ls)
room_out (Some q ∷ ls) zero e = absurd (grind arith)
room_out (None ∷ ls) (suc job) e = omega (arith, room_out ls job e)
room_out (Some q ∷ ls) (suc job) e = omega (arith, room_out ls job e)

-- the place of the job, and the places of others
pub set_here : (ls : List (Option Run)) (job : ℕ) (o : Option Run) → job < length ls → slice_get (slice_set ls job o) job ≡ Some o
set_here [] job o k = absurd (omega (arith, k))
set_here (l ∷ ls) zero o k = refl
set_here (l ∷ ls) (suc job) o k = set_here ls job o (omega (arith, k))

pub set_there : {A : Type 0} (ls : List A) (job k : ℕ) (o : A) → ((job ≡ k) → ⊥) → slice_get (slice_set ls job o) k ≡ slice_get ls k
set_there [] job k o ne = refl
set_there (l ∷ ls) zero zero o ne = absurd (ne refl)
set_there (l ∷ ls) zero (suc k) o ne = refl
set_there (l ∷ ls) (suc job) zero o ne = refl
set_there (l ∷ ls) (suc job) (suc k) o ne = set_there ls job k o (λ e. ne (ap suc e))

pub get_within : (ls : List (Option Run)) (job : ℕ) → job < length ls → one_out (slice_get ls job) ≡ 0 → slice_get ls job ≡ Some None
get_within [] job k z = absurd (omega (arith, k))
get_within (None ∷ ls) zero k z = refl
get_within (Some r ∷ ls) zero k z = absurd (omega (arith, z))
get_within (l ∷ ls) (suc job) k z = get_within ls job (omega (arith, k)) z

-- one that is out is among them
pub out_cells : (ls : List (Option Run)) (job : ℕ) (r : Run) (i : ℕ) → slice_get ls job ≡ Some (Some r) → in_run r i ≤ times_in (leased ls) i
out_cells ls job r i e = omega (arith, sum_back (λ q. in_run q i) ls job r e, sum_times i (leased ls))

-- where none is out, no place has a lease
pub none_out_at : (ls : List (Option Run)) (job : ℕ) → leased ls ≡ [] → one_out (slice_get ls job) ≡ 0
none_out_at [] job e = refl
none_out_at (None ∷ ls) zero e = refl
none_out_at (None ∷ ls) (suc job) e = none_out_at ls job e
none_out_at (Some r ∷ ls) job e = absurd (grind arith)
