-- Laws, for the laws of journals.
-- The numbers of a journal are at most the arena, and its jobs are those that have a size.
use Rattle.std.proofs.Common.{◌≡◌, ℕ, ◌≤◌, ◌==◌, ◌&&◌, Bool, true, false, if◌then◌else◌, List, [], ◌∷◌, ◌++◌, length, Option, Some, None, refl, sym, ◌∙◌, subst, arith}
use Rattle.std.specs.Prelude.{slice_get}
use Rattle.std.specs.Option.{option_map}
use Rattle.std.proofs.lemmas.Option.{slice_get_within}
use Rattle.hole_list.specs.declared.run.Run.{Run}
use Rattle.hole_list.specs.Placing.{run, in_run, times_in, total, Taken, take_run, largest}
use Rattle.hole_list.specs.PlacingLaws.{some_same, taken_of, in_yes, in_within}
use Rattle.lease_desk.specs.declared.event.Event.{Event}
use Rattle.lease_desk.specs.declared.event.Event.TheVariants as event
use Rattle.lease_desk.specs.Journal.{DeskState, opened, Move, move, took_left, asked_for, next_move, left_with, first_left, is_none_out, left_move, gave, give_lease, give_move, after_event, after_events, replay, AreSizes}
use Rattle.lease_desk.specs.Progress.{IsSound}
use Rattle.lease_desk.specs.theory.Leases.{out_cells}
use Rattle.lease_desk.specs.theory.Moves.{Moves, next, left, back, moved, none_after}
use Rattle.lease_desk.specs.theory.Sound.{size_at, sound_first, sound_move}
use Rattle.lease_desk.specs.Within.{IsEventWithin, AreEventsWithin}

largest_total : (hs : List Run) → largest hs ≤ total hs
largest_total [] = omega arith
largest_total (h ∷ hs) = omega (arith, largest_total hs)

module _ (arena : ℕ) (sizes : List ℕ) (es : List Event) (s : DeskState) (k : IsSound arena sizes es s) (a : AreSizes arena sizes) where
  in_holes : (first : ℕ) → 1 ≤ times_in s.holes first → first ≤ arena
  in_holes first h = omega (arith, (in_within (run 0 arena) first (omega (arith, h, k.cells first))).1)

  took_within : (job size : ℕ) (t : Taken) → slice_get sizes job ≡ Some size → take_run s.holes size ≡ Some t
      → IsEventWithin arena (length sizes) (event.Took job t.run.first size)
  took_within job size t is fits =
      let tk = taken_of s.holes size t fits in
      let z = size_at arena sizes job size a is in
      let here : in_run t.run t.run.first ≡ 1 = in_yes t.run t.run.first (omega arith) (omega (arith, tk.sized, z.0)) in
      record {
        job = slice_get_within sizes job size is;
        first = in_holes t.run.first (omega (arith, here, tk.times t.run.first));
        second = z.1;
      }

  full_within : (job size : ℕ) → slice_get sizes job ≡ Some size → IsEventWithin arena (length sizes) (event.Full job size (largest s.holes))
  full_within job size is = record {
    job = slice_get_within sizes job size is;
    first = (size_at arena sizes job size a is).1;
    second = omega (arith, largest_total s.holes, k.sum);
  }

  gave_within : (job : ℕ) (r : Run) → slice_get s.leases job ≡ Some (Some r) → IsEventWithin arena (length sizes) (event.Gave job r.first r.size)
  gave_within job r is =
      let z = size_at arena sizes job r.size a (k.sized job r is) in
      let here : in_run r r.first ≡ 1 = in_yes r r.first (omega arith) (omega (arith, z.0)) in
      record {
        job = slice_get_within sizes job r.size (k.sized job r is);
        first = omega (arith, (in_within (run 0 arena) r.first (omega (arith, here, out_cells s.leases job r r.first is, k.cells r.first))).1);
        second = z.1;
      }

  by_next : (m : Move) → next_move sizes s ≡ Some m → IsEventWithin arena (length sizes) m.event
  by_next m e = by_size (slice_get sizes s.asked) refl e
    where
      by_taken : (size : ℕ) → slice_get sizes s.asked ≡ Some size → (o : Option Taken) → take_run s.holes size ≡ o → asked_for s s.asked size o ≡ m
          → IsEventWithin arena (length sizes) m.event
      by_taken size is None fits e = subst (λ (n : Move). IsEventWithin arena (length sizes) n.event) e (full_within s.asked size is)
      by_taken size is (Some t) fits e = subst (λ (n : Move). IsEventWithin arena (length sizes) n.event) e (took_within s.asked size t is fits)

      by_size : (o : Option ℕ) → slice_get sizes s.asked ≡ o → option_map (λ size. asked_for s s.asked size (take_run s.holes size)) o ≡ Some m
          → IsEventWithin arena (length sizes) m.event
      by_size None is e = absurd cc
      by_size (Some size) is e = by_taken size is (take_run s.holes size) refl (some_same (asked_for s s.asked size (take_run s.holes size)) m e)

  by_left : (m : Move) → left_move sizes s ≡ Some m → IsEventWithin arena (length sizes) m.event
  by_left m e = by_test ((s.asked == length sizes) && is_none_out s.leases) e
    where
      by_taken : (job : ℕ) (ws : List ℕ) (size : ℕ) → slice_get sizes job ≡ Some size → (o : Option Taken) → take_run s.holes size ≡ o
          → option_map (λ (t : Taken). move (event.Took job t.run.first size) (took_left s ws job t)) o ≡ Some m
          → IsEventWithin arena (length sizes) m.event
      by_taken job ws size is None fits e = absurd cc
      by_taken job ws size is (Some t) fits e =
          subst (λ (n : Move). IsEventWithin arena (length sizes) n.event) (some_same (move (event.Took job t.run.first size) (took_left s ws job t)) m e)
          (took_within job size t is fits)

      by_size : (job : ℕ) (ws : List ℕ) (o : Option ℕ) → slice_get sizes job ≡ o → left_with s ws job o ≡ Some m → IsEventWithin arena (length sizes) m.event
      by_size job ws None is e = absurd cc
      by_size job ws (Some size) is e = by_taken job ws size is (take_run s.holes size) refl e

      by_waiting : (ws : List ℕ) → first_left sizes s ws ≡ Some m → IsEventWithin arena (length sizes) m.event
      by_waiting [] e = absurd cc
      by_waiting (job ∷ ws) e = by_size job ws (slice_get sizes job) refl e

      by_test : (b : Bool) → (if b then first_left sizes s s.waiting else None) ≡ Some m → IsEventWithin arena (length sizes) m.event
      by_test true e = by_waiting s.waiting e
      by_test false e = absurd cc

  by_back : (m : Move) (job : ℕ) → give_move s job ≡ Some m → IsEventWithin arena (length sizes) m.event
  by_back m job e = by_place (slice_get s.leases job) refl e
    where
      by_place : (o : Option (Option Run)) → slice_get s.leases job ≡ o → give_lease s job o ≡ Some m → IsEventWithin arena (length sizes) m.event
      by_place None is e = absurd cc
      by_place (Some None) is e = absurd cc
      by_place (Some (Some r)) is e =
          subst (λ (n : Move). IsEventWithin arena (length sizes) n.event) (some_same (move (event.Gave job r.first r.size) (gave s job r)) m e) (gave_within job r is)

  pub move_within : (m : Move) → Moves sizes s m → IsEventWithin arena (length sizes) m.event
  move_within m (next e) = by_next m e
  move_within m (left e) = by_left m e
  move_within m (back job e) = by_back m job e

within_on : (arena : ℕ) (sizes : List ℕ) (s t : DeskState) (done es : List Event) → AreSizes arena sizes → IsSound arena sizes done s
    → after_events sizes (Some s) es ≡ Some t → AreEventsWithin arena (length sizes) es
within_on arena sizes s t done [] a k e = tt
within_on arena sizes s t done (f ∷ es) a k e = by_one (after_event sizes s f) refl (λ v q l. within_on arena sizes v t (done ++ f ∷ []) es a q l) e
  where
    by_one : (o : Option DeskState) → after_event sizes s f ≡ o
        → ((v : DeskState) → IsSound arena sizes (done ++ f ∷ []) v → after_events sizes (Some v) es ≡ Some t → AreEventsWithin arena (length sizes) es)
        → after_events sizes o es ≡ Some t → AreEventsWithin arena (length sizes) (f ∷ es)
    by_one None is go e = absurd (let q : None ≡ Some t = sym (none_after sizes es) ∙ e in cc)
    by_one (Some v) is go e =
        let m = moved sizes s f v is in
        (move_within arena sizes done s k a (move f v) m, go v (sound_move arena sizes done s k a (move f v) m) e)

pub replay_within : (arena : ℕ) (sizes : List ℕ) (es : List Event) (s : DeskState) → 1 ≤ arena → AreSizes arena sizes → replay arena sizes es ≡ Some s
    → AreEventsWithin arena (length sizes) es
unfolding replay
replay_within arena sizes es s some a e = within_on arena sizes (opened arena (length sizes)) s [] es a (sound_first arena sizes some) e
