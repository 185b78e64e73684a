-- Laws, for the laws of the world.
-- Leases that are out lie apart, and what a move of the desk tells.
use Rattle.std.proofs.Common.{◌≡◌, ℕ, zero, suc, ◌+◌, ◌≤◌, Bool, true, false, List, [], ◌∷◌, length, Option, Some, None, refl, sym, ap, arith, inl, inr}
use Rattle.std.specs.Prelude.{◌==◌, ◌&&◌, if◌then◌else◌, slice_get, slice_set, ◌⊎◌}
use Rattle.std.specs.Option.{option_map}
use Rattle.std.proofs.lemmas.Bool.Decides.{nat_tests}
use Rattle.hole_list.specs.declared.run.Run.{Run}
use Rattle.hole_list.specs.Placing.{run, in_run, times_in, Taken, take_run, largest}
use Rattle.hole_list.specs.PlacingLaws.{some_same, at_most_one, apart_runs, part_of, taken_of}
use Rattle.lease_desk.specs.declared.event.Event.{Event}
use Rattle.lease_desk.specs.declared.event.Event.TheVariants as event
use Rattle.lease_desk.specs.Journal.{DeskState, leased, Move, move, took_left, asked_for, next_move, left_with, first_left, is_none_out, left_move, AreSizes}
use Rattle.lease_desk.specs.Progress.{IsSound}
use Rattle.lease_desk.specs.theory.Leases.{out_cells}
use Rattle.lease_desk.specs.theory.Sound.{size_at}

-- ---- two leases

-- two leases have their cells among those of all
pub pair_out : (ls : List (Option Run)) (i j : ℕ) (r q : Run) (x : ℕ) → slice_get ls i ≡ Some (Some r) → slice_get ls j ≡ Some (Some q) → (i ≡ j → ⊥)
    → in_run r x + in_run q x ≤ times_in (leased ls) x
pair_out [] i j r q x e f ne = let k : None ≡ Some (Some r) = e in absurd cc
pair_out (o ∷ ls) zero zero r q x e f ne = absurd (ne refl)
pair_out (None ∷ ls) zero (suc j) r q x e f ne = let k : None ≡ Some r = some_same None (Some r) e in absurd cc
pair_out (Some s ∷ ls) zero (suc j) r q x e f ne = let k : s ≡ r = some_same s r (some_same (Some s) (Some r) e) in omega (arith, ap (λ z. in_run z x) k, out_cells ls j q x f)
pair_out (None ∷ ls) (suc i) zero r q x e f ne = let k : None ≡ Some q = some_same None (Some q) f in absurd cc
pair_out (Some s ∷ ls) (suc i) zero r q x e f ne = let k : s ≡ q = some_same s q (some_same (Some s) (Some q) f) in omega (arith, ap (λ z. in_run z x) k, out_cells ls i r x e)
pair_out (None ∷ ls) (suc i) (suc j) r q x e f ne = pair_out ls i j r q x e f (λ k. ne (ap suc k))
pair_out (Some s ∷ ls) (suc i) (suc j) r q x e f ne = omega (arith, pair_out ls i j r q x e f (λ k. ne (ap suc k)))

module _ (arena : ℕ) (sizes : List ℕ) (es : List Event) (s : DeskState) (fit : AreSizes arena sizes) (k : IsSound arena sizes es s) where
  some_cells : (job : ℕ) (r : Run) → slice_get s.leases job ≡ Some (Some r) → 1 ≤ r.size
  some_cells job r e = (size_at arena sizes job r.size fit (k.sized job r e)).0

  -- two leases share no cell
  pub leases_apart : (i j : ℕ) (r q : Run) → slice_get s.leases i ≡ Some (Some r) → slice_get s.leases j ≡ Some (Some q) → (i ≡ j → ⊥)
      → (q.first + q.size ≤ r.first) ⊎ (r.first + r.size ≤ q.first)
  leases_apart i j r q e f ne = apart_runs q r (some_cells j q f) (some_cells i r e) (λ x. omega (arith, pair_out s.leases i j r q x e f ne, k.cells x, at_most_one (run 0 arena) x))

  -- a lease lies in the arena
  pub lease_within : (job : ℕ) (r : Run) → slice_get s.leases job ≡ Some (Some r) → r.first + r.size ≤ arena
  lease_within job r e = let p = part_of r (run 0 arena) (some_cells job r e) (λ x. omega (arith, out_cells s.leases job r x e, k.cells x)) in omega (arith, p.to)

-- ---- what moves tell

-- a job of this number and size is taken, and its lease is this run
pub record Takes (sizes : List ℕ) (s : DeskState) (m : Move) : Type 0 where
  pub job : ℕ
  pub size : ℕ
  pub run : Run
  pub event_is : m.event ≡ event.Took job run.first size
  pub leases : m.state.leases ≡ slice_set s.leases job (Some run)
  pub size_is : slice_get sizes job ≡ Some size
  pub fits : run.size ≡ size

-- a job waits, and no lease changes
pub record Waits (s : DeskState) (m : Move) : Type 0 where
  pub job : ℕ
  pub need : ℕ
  pub largest : ℕ
  pub event_is : m.event ≡ event.Full job need largest
  pub leases : m.state.leases ≡ s.leases

pub next_tells : (sizes : List ℕ) (s : DeskState) (m : Move) → next_move sizes s ≡ Some m → Takes sizes s m ⊎ Waits s m
next_tells sizes s m e = by_size (slice_get sizes s.asked) refl e
  where
    by_taken : (size : ℕ) → slice_get sizes s.asked ≡ Some size → (o : Option Taken) → take_run s.holes size ≡ o → asked_for s s.asked size o ≡ m
        → Takes sizes s m ⊎ Waits s m
    by_taken size is None t same = inr (record { job = s.asked; need = size; largest = largest s.holes; event_is = ap (λ (m : Move). m.event) (sym same); leases = ap (λ (m : Move). m.state.leases) (sym same) })
    by_taken size is (Some t) took same = inl (record {
      job = s.asked;
      size = size;
      run = t.run;
      event_is = ap (λ (m : Move). m.event) (sym same);
      leases = ap (λ (m : Move). m.state.leases) (sym same);
      size_is = is;
      fits = (taken_of s.holes size t took).sized;
    })

    by_size : (o : Option ℕ) → slice_get sizes s.asked ≡ o → option_map (λ size. asked_for s s.asked size (take_run s.holes size)) o ≡ Some m
        → Takes sizes s m ⊎ Waits s m
    by_size None is k = absurd cc
    by_size (Some size) is k = by_taken size is (take_run s.holes size) refl (some_same (asked_for s s.asked size (take_run s.holes size)) m k)

-- the job that waits first is taken; all were asked for
pub record TakesLeft (sizes : List ℕ) (s : DeskState) (m : Move) : Type 0 where
  pub all : s.asked ≡ length sizes
  pub takes : Takes sizes s m

pub left_tells : (sizes : List ℕ) (s : DeskState) (m : Move) → left_move sizes s ≡ Some m → TakesLeft sizes s m
left_tells sizes s m e = by_test (s.asked == length sizes) refl (is_none_out s.leases) e
  where
    by_taken : (job size : ℕ) (ws : List ℕ) → slice_get sizes job ≡ Some size → (o : Option Taken) → take_run s.holes size ≡ o
        → option_map (λ t. move (event.Took job t.run.first size) (took_left s ws job t)) o ≡ Some m → Takes sizes s m
    by_taken job size ws is None t k = absurd cc
    by_taken job size ws is (Some t) took k =
        let same : move (event.Took job t.run.first size) (took_left s ws job t) ≡ m = some_same (move (event.Took job t.run.first size) (took_left s ws job t)) m k in
        record {
          job = job;
          size = size;
          run = t.run;
          event_is = ap (λ (m : Move). m.event) (sym same);
          leases = ap (λ (m : Move). m.state.leases) (sym same);
          size_is = is;
          fits = (taken_of s.holes size t took).sized;
        }

    by_size : (job : ℕ) (ws : List ℕ) (o : Option ℕ) → slice_get sizes job ≡ o → left_with s ws job o ≡ Some m → Takes sizes s m
    by_size job ws None is k = absurd cc
    by_size job ws (Some size) is k = by_taken job size ws is (take_run s.holes size) refl k

    by_waiting : (ws : List ℕ) → first_left sizes s ws ≡ Some m → Takes sizes s m
    by_waiting [] k = absurd cc
    by_waiting (job ∷ ws) k = by_size job ws (slice_get sizes job) refl k

    by_test : (b : Bool) → (s.asked == length sizes) ≡ b → (c : Bool) → (if b && c then first_left sizes s s.waiting else None) ≡ Some m → TakesLeft sizes s m
    by_test true t true k = record { all = grind (arith, nat_tests, t); takes = by_waiting s.waiting k }
    by_test true t false k = absurd cc
    by_test false t c k = absurd cc
