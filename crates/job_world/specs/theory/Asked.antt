-- Laws, for the law of schedules.
-- What a move of the desk does to its holes.
use Rattle.std.proofs.Common.{◌≡◌, ℕ, Bool, true, false, List, [], ◌∷◌, length, Option, Some, None, refl, sym, ap}
use Rattle.std.specs.Prelude.{◌==◌, ◌&&◌, if◌then◌else◌, slice_get}
use Rattle.std.specs.Option.{option_map}
use Rattle.hole_list.specs.Placing.{Taken, take_run, largest}
use Rattle.hole_list.specs.PlacingLaws.{some_same}
use Rattle.lease_desk.specs.declared.event.Event.TheVariants as event
use Rattle.lease_desk.specs.Journal.{DeskState, Move, move, took_left, asked_for, next_move, left_with, first_left, is_none_out, left_move}

-- a job is taken off the holes, or waits, and then they stay
pub data Asks (s : DeskState) (m : Move) : Type 0 where
  Takes : (job size : ℕ) (t : Taken) → take_run s.holes size ≡ Some t → m.event ≡ event.Took job t.run.first size → m.state.holes ≡ t.holes → Asks s m
  Waits : (job need most : ℕ) → m.event ≡ event.Full job need most → m.state.holes ≡ s.holes → Asks s m

pub next_asks : (sizes : List ℕ) (s : DeskState) (m : Move) → next_move sizes s ≡ Some m → Asks s m
next_asks sizes s m e = by_size (slice_get sizes s.asked) e
  where
    by_taken : (size : ℕ) (o : Option Taken) → take_run s.holes size ≡ o → asked_for s s.asked size o ≡ m → Asks s m
    by_taken size None t same = Waits s.asked size (largest s.holes) (ap (λ (m : Move). m.event) (sym same)) (ap (λ (m : Move). m.state.holes) (sym same))
    by_taken size (Some t) took same = Takes s.asked size t took (ap (λ (m : Move). m.event) (sym same)) (ap (λ (m : Move). m.state.holes) (sym same))

    by_size : (o : Option ℕ) → option_map (λ size. asked_for s s.asked size (take_run s.holes size)) o ≡ Some m → Asks s m
    by_size None k = absurd cc
    by_size (Some size) k = by_taken size (take_run s.holes size) refl (some_same (asked_for s s.asked size (take_run s.holes size)) m k)

pub left_asks : (sizes : List ℕ) (s : DeskState) (m : Move) → left_move sizes s ≡ Some m → Asks s m
left_asks sizes s m e = by_test (s.asked == length sizes) (is_none_out s.leases) e
  where
    by_taken : (job size : ℕ) (ws : List ℕ) (o : Option Taken) → take_run s.holes size ≡ o
        → option_map (λ t. move (event.Took job t.run.first size) (took_left s ws job t)) o ≡ Some m → Asks s m
    by_taken job size ws None t k = absurd cc
    by_taken job size ws (Some t) took k =
        let same : move (event.Took job t.run.first size) (took_left s ws job t) ≡ m = some_same (move (event.Took job t.run.first size) (took_left s ws job t)) m k in
        Takes job size t took (ap (λ (m : Move). m.event) (sym same)) (ap (λ (m : Move). m.state.holes) (sym same))

    by_size : (job : ℕ) (ws : List ℕ) (o : Option ℕ) → left_with s ws job o ≡ Some m → Asks s m
    by_size job ws None k = absurd cc
    by_size job ws (Some size) k = by_taken job size ws (take_run s.holes size) refl k

    by_waiting : (ws : List ℕ) → first_left sizes s ws ≡ Some m → Asks s m
    by_waiting [] k = absurd cc
    by_waiting (job ∷ ws) k = by_size job ws (slice_get sizes job) k

    by_test : (b c : Bool) → (if b && c then first_left sizes s s.waiting else None) ≡ Some m → Asks s m
    by_test true true k = by_waiting s.waiting k
    by_test true false k = absurd cc
    by_test false c k = absurd cc
