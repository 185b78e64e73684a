-- What a desk keeps, through each of its moves.
use Rattle.std.proofs.Common.{◌≡◌, ℕ, zero, suc, ◌+◌, ◌*◌, ◌<◌, ◌≤◌, ◌==◌, nat_le, nat_lt, Bool, true, false, if◌then◌else◌, ◌⊎◌, inl, inr, List, [], ◌∷◌, ◌++◌, length, get_or, map, drop, replicate, Option, Some, None, refl, sym, ap, ◌∙◌, subst, arith, length-append}
use Rattle.std.specs.Prelude.{slice_get, slice_set}
use Rattle.std.specs.List.{AllByRecursion}
use Rattle.std.specs.Option.{option_map}
use Rattle.std.proofs.lemmas.Bool.{cases_eq, cases_lt}
use Rattle.std.proofs.lemmas.List.{length-set, length-replicate}
use Rattle.std.proofs.lemmas.Option.{slice_get_within, slice_get-get_or, none-some}
use Rattle.cell_span.specs.declared.cell.Cell.{Cell}
use Rattle.cell_span.specs.Arenas.{Arena}
use Rattle.cell_span.specs.Range.{Range, IsWhole, blank, front, back, joined}
use Rattle.hole_list.specs.declared.run.Run.{Run}
use Rattle.hole_list.specs.Placing.{run, taken, largest, IsOut, with_run, without_run}
use Rattle.hole_list.specs.PlacingLaws.{some_same, at_most_one, none_taken}
use Rattle.hole_list.specs.Holes.{Holed, run_of, new_holes, with_holes, TakenCells, taken_cells, take_cells, give_cells, rest_of, behind_cells}
use Rattle.hole_list.specs.HolesLaws.{taken_runs, not_taken, given_runs, taken_all}
use Rattle.lease_desk.specs.declared.event.Event.{Event}
use Rattle.lease_desk.specs.declared.event.Event.TheVariants as event
use Rattle.lease_desk.specs.Journal.{DeskState, opened, leased, move, took_next, waits, took_left, next_move, left_move, after_event, replay, AreSizes, IsLegal}
use Rattle.lease_desk.specs.Filing.{cell_after, HoldsFiled}
use Rattle.lease_desk.specs.Progress.{times_at, one_out, gave_times, one_asked, IsSound}
use Rattle.lease_desk.specs.Outs.{AreReordered, copies}
use Rattle.lease_desk.specs.BookView.{BookView, new_book, with_lease, with_asked, with_waiting, with_served}
use Rattle.lease_desk.specs.Lease.{LeaseView, lease}
use Rattle.lease_desk.specs.Desk.{DeskView, cells_in, filed_by, Takes, Waits, given_back, HasPayload, AllFiled}
use Rattle.lease_desk.specs.Kept.{state_of, desk_of, IsLeaseOf, IsKept}
use Rattle.lease_desk.specs.theory.Leases.{none_out_at, room_out, set_there}
use Rattle.lease_desk.specs.theory.Moves.{after_next, after_left, after_back, replay_more}
use Rattle.lease_desk.specs.theory.Filing.{holds_first, all_more, all_given, to_all, from_all, Known}
use Rattle.lease_desk.specs.theory.Sound.{none_leased, sound_behind, gave_more, same_one, other_one, one_at_most, asked_one, size_at, not_yet, waits_at, is_free, next_is, left_is, left_fits}
use Rattle.lease_desk.specs.theory.Outs.{out_more, out_less, is_copied, is_out, out_none}

-- ---- the arena of holes

abbrev OfArena : Arena → List Range → Type 0
OfArena arena hs = AllByRecursion (λ h. h.arena ≡ arena) hs

taken_arena : (arena : Arena) (hs : List Range) (size : ℕ) (t : TakenCells) → take_cells hs size ≡ Some t → OfArena arena hs
    → (t.range.arena ≡ arena) × OfArena arena t.holes
taken_arena arena [] size t e k = absurd (grind arith)
taken_arena arena (h ∷ hs) size t e k = by_test (λ u is. taken_arena arena hs size u is k.1) (nat_le size (length h.cells)) e
  where
    by_back : (b : Bool) → OfArena arena (if b then hs else back h size ∷ hs)
    by_back true = k.1
    by_back false = (k.0, k.1)

    by_rest : (o : Option TakenCells) → ((u : TakenCells) → o ≡ Some u → (u.range.arena ≡ arena) × OfArena arena u.holes)
        → option_map (behind_cells h) o ≡ Some t
        → (t.range.arena ≡ arena) × OfArena arena t.holes
    by_rest None go is = absurd (grind arith)
    by_rest (Some u) go is = subst (λ (v : TakenCells). (v.range.arena ≡ arena) × OfArena arena v.holes) (some_same (behind_cells h u) t is) ((go u refl).0, (k.0, (go u refl).1))

    by_test : ((u : TakenCells) → take_cells hs size ≡ Some u → (u.range.arena ≡ arena) × OfArena arena u.holes)
        → (b : Bool) → (if b then Some (taken_cells (front h size) (rest_of h size hs)) else option_map (behind_cells h) (take_cells hs size)) ≡ Some t
        → (t.range.arena ≡ arena) × OfArena arena t.holes
    by_test go true is =
        subst (λ (v : TakenCells). (v.range.arena ≡ arena) × OfArena arena v.holes) (some_same (taken_cells (front h size) (rest_of h size hs)) t is) (k.0, by_back (length h.cells == size))
    by_test go false is = by_rest (take_cells hs size) go is

given_arena : (arena : Arena) (hs : List Range) (r : Range) → OfArena arena hs → r.arena ≡ arena → OfArena arena (give_cells hs r)
given_arena arena [] r k e = (e, tt)
given_arena arena (h ∷ hs) r k e =
    by_tests (λ s f. given_arena arena hs s k.1 f) (nat_lt (r.first + length r.cells) h.first) ((r.first + length r.cells) == h.first) ((h.first + length h.cells) == r.first)
  where
    by_tests : ((s : Range) → s.arena ≡ arena → OfArena arena (give_cells hs s)) → (b c d : Bool)
        → OfArena arena (if b then r ∷ h ∷ hs else if c then joined r h ∷ hs else if d then give_cells hs (joined h r) else h ∷ give_cells hs r)
    by_tests go true c d = (e, k)
    by_tests go false true d = (e, k.1)
    by_tests go false false true = go (joined h r) k.0
    by_tests go false false false = (k.0, go r e)

-- ---- a new desk

replay_none : (arena : ℕ) (sizes : List ℕ) → replay arena sizes [] ≡ Some (opened arena (length sizes))
unfolding replay
replay_none arena sizes = refl

no_place : {P : Type 0} (n job : ℕ) (p : P) → slice_get (replicate n (let none : Option P = None in none)) job ≡ Some (Some p) → ⊥
no_place zero job p e = grind arith
no_place (suc n) zero p e = let q : None ≡ Some p = some_same None (Some p) e in grind arith
no_place (suc n) (suc job) p e = no_place n job p e

pub whole_state : (range : Range) (sizes : List ℕ) (most : ℕ) → IsWhole range
    → state_of (new_holes range most) (new_book sizes) ≡ opened range.arena.cells (length sizes)
whole_state range sizes most w = λ i. record { asked = 0; waiting = []; holes = run (w.from i) (w.all i) ∷ []; leases = replicate (length sizes) None }

pub kept_first : {P : Type 0} (number : P → ℕ) (cells : P → List Cell) (range : Range) (sizes : List ℕ) → IsWhole range → 1 ≤ range.arena.cells
    → (n : ℕ) → range.cells ≡ replicate n blank
    → AreSizes range.arena.cells sizes → IsKept number cells (new_holes range (length sizes)) (new_book sizes) (replicate (length sizes) None) 0
kept_first {P} number cells range sizes w some n blanks fit = record {
  desk = record {
    some = some;
    fit = fit;
    replayed = replay_none range.arena.cells sizes ∙ ap (λ (s : DeskState). Some s) (sym (whole_state range sizes (length sizes) w));
    runs = refl;
    of_arena = (refl, tt);
    holds = (holds_first (filed_by cells (replicate (length sizes) None)) range n blanks, tt);
    places = length-replicate (length sizes) (let none : Option P = None in none);
    own = λ job p e. absurd (no_place (length sizes) job p e);
    sized = λ job p e. absurd (no_place (length sizes) job p e);
    all = λ z job k. absurd (omega (arith, k));
  };
  base = λ i. run (w.from i) (w.all i);
  most_out = refl;
  out = record { copied = λ q. sym (ap (λ (rs : List Run). copies q rs) (none_leased (length sizes))); many = sym (ap (λ (rs : List Run). length rs) (none_leased (length sizes))) };
  few = omega arith;
}

copies_length : (rs : List Run) (r : Run) → 1 ≤ copies r rs → 1 ≤ length rs
copies_length [] r c = absurd (omega (arith, c))
copies_length (s ∷ ss) r c = omega arith

place_here : {A : Type 0} (xs : List A) (i : ℕ) (x : A) → i < length xs → slice_get (slice_set xs i x) i ≡ Some x
place_here [] i x m = absurd (omega (arith, m))
place_here (y ∷ xs) zero x m = refl
place_here (y ∷ xs) (suc i) x m = place_here xs i x (omega (arith, m))

-- ---- each move

module _ {P : Type 0} (number : P → ℕ) (cells : P → List Cell) (h : Holed) (b : BookView) (ps : List (Option P)) (w : ℕ) (k : IsKept number cells h b ps w) where
  pub sound : IsSound h.arena.cells b.sizes b.journal (state_of h b)
  sound = sound_behind h.arena.cells b.sizes b.journal (state_of h b) k.desk.some k.desk.fit k.desk.replayed

  -- an event that gives nothing back
  moved_kept : (e : Event) (holes : List Range) (out : List Run) (b' : BookView) → b'.sizes ≡ b.sizes → b'.journal ≡ b.journal ++ e ∷ []
      → after_event b.sizes (state_of h b) e ≡ Some (state_of (with_holes h holes out) b')
      → AreReordered out (leased b'.leases) → OfArena h.arena holes → AllByRecursion (HoldsFiled (filed_by cells ps) (b.journal ++ e ∷ [])) holes
      → ((job : ℕ) → gave_times job (b.journal ++ e ∷ []) ≡ gave_times job b.journal)
      → IsKept number cells (with_holes h holes out) b' ps w
  moved_kept e holes out b' same more after outs of_arena holds gives = record {
    desk = record {
      some = k.desk.some;
      fit = subst (λ (sizes : List ℕ). AreSizes h.arena.cells sizes) (sym same) k.desk.fit;
      replayed =
          subst (λ (sizes : List ℕ). replay h.arena.cells sizes b'.journal ≡ Some (state_of (with_holes h holes out) b')) (sym same)
          (subst (λ (es : List Event). replay h.arena.cells b.sizes es ≡ Some (state_of (with_holes h holes out) b')) (sym more)
          (replay_more h.arena.cells b.sizes b.journal (state_of h b) (state_of (with_holes h holes out) b') e k.desk.replayed after));
      runs = refl;
      of_arena = of_arena;
      holds = subst (λ (es : List Event). AllByRecursion (HoldsFiled (filed_by cells ps) es) holes) (sym more) holds;
      places = k.desk.places ∙ ap (λ (sizes : List ℕ). length sizes) (sym same);
      own = λ job p e'. ((k.desk.own job p e').0, omega (arith, (k.desk.own job p e').1, gives job, ap (gave_times job) more));
      sized = λ job p e'. subst (λ (sizes : List ℕ). slice_get sizes job ≡ Some (length (cells p))) (sym same) (k.desk.sized job p e');
      all = λ z job m. k.desk.all z job (omega (arith, m, gives job, ap (gave_times job) more));
    };
    base = k.base;
    most_out = k.most_out ∙ ap (λ (sizes : List ℕ). length sizes) (sym same);
    out = outs;
    few = omega (arith, k.few, ap (λ (es : List Event). length es) more, length-append b.journal (e ∷ []));
  }

  -- ---- the next job

  pub next_ready : (size : ℕ) → slice_get b.sizes b.asked ≡ Some size
      → (1 ≤ size) × (length h.out < h.most_out) × (slice_get b.leases b.asked ≡ Some None) × (length b.journal < 3 * length b.sizes) × (b.asked < length b.sizes)
  next_ready size is =
      let less : b.asked < length b.sizes = slice_get_within b.sizes b.asked size is in
      let n = not_yet h.arena.cells b.sizes b.journal (state_of h b) sound less in
      ((size_at h.arena.cells b.sizes b.asked size k.desk.fit is).0, omega (arith, k.out.many, k.most_out, room_out b.leases b.asked n.0, sound.places), n.0, omega (arith, sound.few, less), less)

  taken_holds : (size : ℕ) (range : Range) (holes : List Range) (e : Event) → take_cells h.holes size ≡ Some (taken_cells range holes)
      → ((i : ℕ) (known : Option Cell) → cell_after (filed_by cells ps) i known e ≡ known)
      → AllByRecursion (HoldsFiled (filed_by cells ps) (b.journal ++ e ∷ [])) holes
  taken_holds size range holes e fits stays =
      all_more (filed_by cells ps) b.journal e holes stays
      (from_all (Known (filed_by cells ps) b.journal) holes
      (taken_all (Known (filed_by cells ps) b.journal) h.holes size (taken_cells range holes) fits (to_all (Known (filed_by cells ps) b.journal) h.holes k.desk.holds)).1)

  next_told : (size : ℕ) (range : Range) (holes : List Range) → slice_get b.sizes b.asked ≡ Some size → take_cells h.holes size ≡ Some (taken_cells range holes)
      → next_move b.sizes (state_of h b)
      ≡ Some (move (event.Took b.asked range.first (length range.cells)) (took_next (state_of h b) b.asked (taken (run_of range) (map run_of holes))))
  next_told size range holes is fits =
      let t = taken_runs h.holes size (taken_cells range holes) fits in
      next_is b.sizes (state_of h b) size (Some (taken (run_of range) (map run_of holes))) is t.0
      ∙ ap (λ n. Some (move (event.Took b.asked range.first n) (took_next (state_of h b) b.asked (taken (run_of range) (map run_of holes))))) (sym t.1)

  pub next_kept : (size : ℕ) (range : Range) (holes : List Range) → slice_get b.sizes b.asked ≡ Some size
      → take_cells h.holes size ≡ Some (taken_cells range holes)
      → IsKept number cells (with_holes h holes (with_run h.out (run_of range))) (with_asked (with_lease b b.asked (Some (run_of range)) (event.Took b.asked range.first (length range.cells)))) ps w
  next_kept size range holes is fits =
      moved_kept (event.Took b.asked range.first (length range.cells)) holes (with_run h.out (run_of range))
      (with_asked (with_lease b b.asked (Some (run_of range)) (event.Took b.asked range.first (length range.cells)))) refl refl
      (after_next b.sizes (state_of h b) (event.Took b.asked range.first (length range.cells)) (took_next (state_of h b) b.asked (taken (run_of range) (map run_of holes))) (next_told size range holes is fits))
      (out_more h.out b.leases b.asked (run_of range) (next_ready size is).2 k.out)
      (taken_arena h.arena h.holes size (taken_cells range holes) fits k.desk.of_arena).1
      (taken_holds size range holes (event.Took b.asked range.first (length range.cells)) fits (λ i known. refl))
      (λ job. omega (arith, gave_more job b.journal (event.Took b.asked range.first (length range.cells))))

  pub next_takes : (size : ℕ) (range : Range) (holes : List Range) → slice_get b.sizes b.asked ≡ Some size
      → take_cells h.holes size ≡ Some (taken_cells range holes)
      → Takes (next_move b.sizes (state_of h b)) (desk_of h b ps w)
      (desk_of (with_holes h holes (with_run h.out (run_of range))) (with_asked (with_lease b b.asked (Some (run_of range)) (event.Took b.asked range.first (length range.cells)))) ps w)
      (lease b.asked range)
  next_takes size range holes is fits = record {
    told = next_told size range holes is fits;
    cells = subst (λ n. take_cells h.holes n ≡ Some (taken_cells range holes)) (sym (taken_runs h.holes size (taken_cells range holes) fits).1) fits;
    arena = (taken_arena h.arena h.holes size (taken_cells range holes) fits k.desk.of_arena).0;
    free = (next_ready size is).2;
    leases = refl;
    rest = refl;
  }

  -- the next job waits
  waits_told : (size : ℕ) → slice_get b.sizes b.asked ≡ Some size → take_cells h.holes size ≡ None
      → next_move b.sizes (state_of h b) ≡ Some (move (event.Full b.asked size (largest (map run_of h.holes))) (waits (state_of h b) b.asked))
  waits_told size is fits = next_is b.sizes (state_of h b) size None is (not_taken h.holes size fits)

  pub waits_kept : (size most : ℕ) → slice_get b.sizes b.asked ≡ Some size → take_cells h.holes size ≡ None → most ≡ largest (map run_of h.holes)
      → IsKept number cells h (with_waiting b (event.Full b.asked size most)) ps w
  waits_kept size most is fits e =
      subst (λ n. IsKept number cells h (with_waiting b (event.Full b.asked size n)) ps w) (sym e)
      (moved_kept (event.Full b.asked size (largest (map run_of h.holes))) h.holes h.out (with_waiting b (event.Full b.asked size (largest (map run_of h.holes)))) refl refl
      (after_next b.sizes (state_of h b) (event.Full b.asked size (largest (map run_of h.holes))) (waits (state_of h b) b.asked) (waits_told size is fits))
      k.out k.desk.of_arena
      (all_more (filed_by cells ps) b.journal (event.Full b.asked size (largest (map run_of h.holes))) h.holes (λ i known. refl) k.desk.holds)
      (λ job. omega (arith, gave_more job b.journal (event.Full b.asked size (largest (map run_of h.holes))))))

  pub waits_waits : (size most : ℕ) → slice_get b.sizes b.asked ≡ Some size → take_cells h.holes size ≡ None → most ≡ largest (map run_of h.holes)
      → Waits (desk_of h b ps w) (desk_of h (with_waiting b (event.Full b.asked size most)) ps w) b.asked size most
  waits_waits size most is fits e =
      subst (λ n. Waits (desk_of h b ps w) (desk_of h (with_waiting b (event.Full b.asked size n)) ps w) b.asked size n) (sym e)
      (record {
        told = waits_told size is fits;
        short = none_taken (map run_of h.holes) size (next_ready size is).0 (not_taken h.holes size fits);
        leases = refl;
        rest = refl;
      })

  -- every job was asked for
  pub over_is : slice_get b.sizes b.asked ≡ None → next_move b.sizes (state_of h b) ≡ None
  over_is e = ap (option_map (λ size. _)) e

  pub all_asked : slice_get b.sizes b.asked ≡ None → b.asked ≡ length b.sizes
  all_asked e = by_order (cases_lt b.asked (length b.sizes))
    where
      by_order : (b.asked < length b.sizes) ⊎ (length b.sizes ≤ b.asked) → b.asked ≡ length b.sizes
      by_order (inl less) = absurd (none-some (get_or b.sizes b.asked 0) (sym e ∙ slice_get-get_or b.sizes b.asked 0 less))
      by_order (inr most) = omega (arith, most, sound.most)

  -- ---- jobs that wait

  waiting_is : (job : ℕ) → slice_get b.waiting 0 ≡ Some job → b.waiting ≡ job ∷ drop 1 b.waiting
  waiting_is job e = by_list b.waiting e
    where
      by_list : (ws : List ℕ) → slice_get ws 0 ≡ Some job → ws ≡ job ∷ drop 1 ws
      by_list [] e = absurd (grind arith)
      by_list (j ∷ ws) e = ap (λ n. n ∷ ws) (some_same j job e)

  pub left_sized : (job : ℕ) → job < length b.sizes → (size : ℕ) × (slice_get b.sizes job ≡ Some size)
  left_sized job less = (get_or b.sizes job 0, slice_get-get_or b.sizes job 0 less)

  pub left_ready : (job : ℕ) → slice_get b.waiting 0 ≡ Some job
      → (job < length b.sizes) × (1 ≤ length b.waiting) × (length h.out < h.most_out) × (slice_get b.leases job ≡ Some None) × (length b.journal < 3 * length b.sizes)
  left_ready job e =
      let n = waits_at h.arena.cells b.sizes b.journal (state_of h b) sound job (drop 1 b.waiting) (waiting_is job e) in
      let some : 1 ≤ length b.waiting = omega (arith, slice_get_within b.waiting 0 job e) in
      (omega (arith, n.0, sound.most), some, omega (arith, k.out.many, k.most_out, room_out b.leases job n.1, sound.places), n.1, omega (arith, sound.few, some, sound.most))

  pub left_size : (job size : ℕ) → slice_get b.sizes job ≡ Some size → 1 ≤ size
  left_size job size is = (size_at h.arena.cells b.sizes job size k.desk.fit is).0

  -- where no lease is out, each job fits
  pub left_never : (job size : ℕ) → leased b.leases ≡ [] → slice_get b.sizes job ≡ Some size → take_cells h.holes size ≡ None → ⊥
  left_never job size none is fits =
      left_fits h.arena.cells b.sizes b.journal (state_of h b) job size k.desk.some sound k.desk.fit none is (not_taken h.holes size fits)

  left_told : (job size : ℕ) (range : Range) (holes : List Range) → b.asked ≡ length b.sizes → leased b.leases ≡ []
      → slice_get b.waiting 0 ≡ Some job → slice_get b.sizes job ≡ Some size
      → take_cells h.holes size ≡ Some (taken_cells range holes)
      → left_move b.sizes (state_of h b)
      ≡ Some (move (event.Took job range.first (length range.cells)) (took_left (state_of h b) (drop 1 b.waiting) job (taken (run_of range) (map run_of holes))))
  left_told job size range holes all none e is fits =
      let t = taken_runs h.holes size (taken_cells range holes) fits in
      left_is b.sizes (state_of h b) job size (drop 1 b.waiting) (taken (run_of range) (map run_of holes)) all none (waiting_is job e) is t.0
      ∙ ap (λ n. Some (move (event.Took job range.first n) (took_left (state_of h b) (drop 1 b.waiting) job (taken (run_of range) (map run_of holes))))) (sym t.1)

  pub left_kept : (job size : ℕ) (range : Range) (holes : List Range) → b.asked ≡ length b.sizes → leased b.leases ≡ []
      → slice_get b.waiting 0 ≡ Some job → slice_get b.sizes job ≡ Some size
      → take_cells h.holes size ≡ Some (taken_cells range holes)
      → IsKept number cells (with_holes h holes (with_run h.out (run_of range))) (with_served (with_lease b job (Some (run_of range)) (event.Took job range.first (length range.cells)))) ps w
  left_kept job size range holes all none e is fits =
      moved_kept (event.Took job range.first (length range.cells)) holes (with_run h.out (run_of range))
      (with_served (with_lease b job (Some (run_of range)) (event.Took job range.first (length range.cells)))) refl refl
      (after_left b.sizes (state_of h b) (event.Took job range.first (length range.cells)) (took_left (state_of h b) (drop 1 b.waiting) job (taken (run_of range) (map run_of holes))) all
      (left_told job size range holes all none e is fits))
      (out_more h.out b.leases job (run_of range) (left_ready job e).3 k.out)
      (taken_arena h.arena h.holes size (taken_cells range holes) fits k.desk.of_arena).1
      (taken_holds size range holes (event.Took job range.first (length range.cells)) fits (λ i known. refl))
      (λ j. omega (arith, gave_more j b.journal (event.Took job range.first (length range.cells))))

  pub left_takes : (job size : ℕ) (range : Range) (holes : List Range) → b.asked ≡ length b.sizes → leased b.leases ≡ []
      → slice_get b.waiting 0 ≡ Some job → slice_get b.sizes job ≡ Some size
      → take_cells h.holes size ≡ Some (taken_cells range holes)
      → Takes (left_move b.sizes (state_of h b)) (desk_of h b ps w)
      (desk_of (with_holes h holes (with_run h.out (run_of range))) (with_served (with_lease b job (Some (run_of range)) (event.Took job range.first (length range.cells)))) ps w)
      (lease job range)
  left_takes job size range holes all none e is fits = record {
    told = left_told job size range holes all none e is fits;
    cells = subst (λ n. take_cells h.holes n ≡ Some (taken_cells range holes)) (sym (taken_runs h.holes size (taken_cells range holes) fits).1) fits;
    arena = (taken_arena h.arena h.holes size (taken_cells range holes) fits k.desk.of_arena).0;
    free = (left_ready job e).3;
    leases = refl;
    rest = refl;
  }

  pub none_waits : slice_get b.waiting 0 ≡ None → b.waiting ≡ []
  none_waits e = by_list b.waiting e
    where
      by_list : (ws : List ℕ) → slice_get ws 0 ≡ None → ws ≡ []
      by_list [] e = refl
      by_list (j ∷ ws) e = absurd (grind arith)

  -- ---- a lease that comes back

  pub give_ready : (l : LeaseView) → IsLeaseOf (desk_of h b ps w) l
      → (IsOut h.out (run_of l.range)) × (length b.journal < 3 * length b.sizes) × (l.job < length ps) × (gave_times l.job b.journal ≡ 0) × (l.job < length b.sizes)
  give_ready l e =
      let c = is_copied b.leases l.job (run_of l.range) e.1 in
      let less : l.job < length b.leases = slice_get_within b.leases l.job (Some (run_of l.range)) e.1 in
      let o = sound.once l.job in
      let one : one_out (slice_get b.leases l.job) ≡ 1 = ap one_out e.1 in
      let most : one_asked l.job (state_of h b) ≤ 1 = one_at_most b.asked l.job in
      let out : 1 ≤ length (leased b.leases) = copies_length (leased b.leases) (run_of l.range) c in (
        is_out h.out (run_of l.range) (omega (arith, k.out.copied (run_of l.range), c)),
        omega (arith, sound.few, sound.most, out),
        omega (arith, less, sound.places, k.desk.places),
        omega (arith, o, one, most),
        omega (arith, less, sound.places),
      )

  -- with these payloads, which differ from those before at the job's place alone, if at all
  gave_kept : (l : LeaseView) (qs : List (Option P)) (v : ℕ) → IsLeaseOf (desk_of h b ps w) l
      → length qs ≡ length ps → ((job : ℕ) → ((l.job ≡ job) → ⊥) → slice_get qs job ≡ slice_get ps job)
      → ((cells_in cells (slice_get qs l.job) ≡ None) ⊎ (cells_in cells (slice_get qs l.job) ≡ Some l.range.cells))
      → ((p : P) → slice_get qs l.job ≡ Some (Some p) → number p ≡ l.job)
      → ((p : P) → slice_get qs l.job ≡ Some (Some p) → slice_get b.sizes l.job ≡ Some (length (cells p)))
      → (v ≡ 0 → (w ≡ 0) × ((p : P) × (slice_get qs l.job ≡ Some (Some p))))
      → v ≤ suc w
      → IsKept number cells (with_holes h (give_cells h.holes l.range) (without_run h.out l.range.first)) (with_lease b l.job None (event.Gave l.job l.range.first (length l.range.cells))) qs v
  gave_kept l qs v e len others filed own long all few =
      let n = give_ready l e in
      record {
        desk = record {
          some = k.desk.some;
          fit = k.desk.fit;
          replayed = replay_more h.arena.cells b.sizes b.journal (state_of h b) (state_of (with_holes h (give_cells h.holes l.range) (without_run h.out l.range.first)) (with_lease b l.job None (event.Gave l.job l.range.first (length l.range.cells))))
              (event.Gave l.job l.range.first (length l.range.cells)) k.desk.replayed
              (after_back b.sizes (state_of h b) l.job (run_of l.range) e.1
              ∙ ap (λ (holes : List Run). Some (let s : DeskState = record { asked = b.asked; waiting = b.waiting; holes = holes; leases = slice_set b.leases l.job None } in s)) (sym (given_runs h.holes l.range)));
          runs = refl;
          of_arena = given_arena h.arena h.holes l.range k.desk.of_arena e.0;
          holds = all_given (filed_by cells ps) (filed_by cells qs) b.journal l.job l.range h.holes
              (λ job m. by_filed job m (cases_eq l.job job) n.3) filed (is_free h.arena.cells b.sizes b.journal (state_of h b) sound l.job (run_of l.range) e.1) k.desk.holds;
          places = len ∙ k.desk.places;
          own = λ job p q. by_own job p q (cases_eq l.job job);
          sized = λ job p q. by_long job p q (cases_eq l.job job);
          all = λ z job m. by_all z job m (cases_eq l.job job);
        };
        base = k.base;
        most_out = k.most_out;
        out = out_less h.out b.leases l.job (run_of l.range) e.1 k.out (λ j s q. (size_at h.arena.cells b.sizes j s.size k.desk.fit (sound.sized j s q)).0)
            (λ i. omega (arith, sound.cells i, at_most_one (run 0 h.arena.cells) i));
        few = omega (arith, few, k.few, length-append b.journal (event.Gave l.job l.range.first (length l.range.cells) ∷ []));
      }
    where
      by_filed : (job : ℕ) → 1 ≤ gave_times job b.journal → (l.job ≡ job) ⊎ ((l.job ≡ job) → ⊥) → gave_times l.job b.journal ≡ 0
          → filed_by cells ps job ≡ filed_by cells qs job
      by_filed job m (inl here) z = absurd (omega (arith, m, z, ap (λ j. gave_times j b.journal) here))
      by_filed job m (inr there) z = ap (cells_in cells) (sym (others job there))

      by_own : (job : ℕ) (p : P) → slice_get qs job ≡ Some (Some p) → (l.job ≡ job) ⊎ ((l.job ≡ job) → ⊥)
          → (number p ≡ job) × (1 ≤ gave_times job (b.journal ++ event.Gave l.job l.range.first (length l.range.cells) ∷ []))
      by_own job p q (inl here) =
          subst (λ j. (number p ≡ j) × (1 ≤ gave_times j (b.journal ++ event.Gave l.job l.range.first (length l.range.cells) ∷ []))) here
          (own p (subst (λ j. slice_get qs j ≡ Some (Some p)) (sym here) q), omega (arith, gave_more l.job b.journal (event.Gave l.job l.range.first (length l.range.cells)), same_one l.job))
      by_own job p q (inr there) =
          let f = k.desk.own job p (sym (others job there) ∙ q) in
          (f.0, omega (arith, f.1, gave_more job b.journal (event.Gave l.job l.range.first (length l.range.cells))))

      by_long : (job : ℕ) (p : P) → slice_get qs job ≡ Some (Some p) → (l.job ≡ job) ⊎ ((l.job ≡ job) → ⊥) → slice_get b.sizes job ≡ Some (length (cells p))
      by_long job p q (inl here) = subst (λ j. slice_get b.sizes j ≡ Some (length (cells p))) here (long p (subst (λ j. slice_get qs j ≡ Some (Some p)) (sym here) q))
      by_long job p q (inr there) = k.desk.sized job p (sym (others job there) ∙ q)

      by_all : v ≡ 0 → (job : ℕ) → 1 ≤ gave_times job (b.journal ++ event.Gave l.job l.range.first (length l.range.cells) ∷ [])
          → (l.job ≡ job) ⊎ ((l.job ≡ job) → ⊥)
          → (p : P) × (slice_get qs job ≡ Some (Some p))
      by_all z job m (inl here) = subst (λ j. (p : P) × (slice_get qs j ≡ Some (Some p))) here (all z).1
      by_all z job m (inr there) =
          let f = k.desk.all (all z).0 job (omega (arith, m, gave_more job b.journal (event.Gave l.job l.range.first (length l.range.cells)), other_one l.job job there)) in
          (f.0, others job there ∙ f.1)

  -- with the job's payload
  pub filed_kept : (l : LeaseView) (p : P) → IsLeaseOf (desk_of h b ps w) l → number p ≡ l.job → cells p ≡ l.range.cells
      → IsKept number cells (with_holes h (give_cells h.holes l.range) (without_run h.out l.range.first)) (with_lease b l.job None (event.Gave l.job l.range.first (length l.range.cells)))
      (slice_set ps l.job (Some p)) w
  filed_kept l p e num cs =
      let n = give_ready l e in
      let here : slice_get (slice_set ps l.job (Some p)) l.job ≡ Some (Some p) = place_here ps l.job (Some p) n.2 in
      gave_kept l (slice_set ps l.job (Some p)) w e (length-set ps l.job (Some p)) (λ job ne. set_there ps l.job job (Some p) ne)
      (inr (ap (cells_in cells) here ∙ ap (λ (c : List Cell). Some c) cs))
      (λ q f. subst (λ (x : P). number x ≡ l.job) (some_same p q (some_same (Some p) (Some q) (sym here ∙ f))) num)
      (λ q f. subst (λ (x : P). slice_get b.sizes l.job ≡ Some (length (cells x))) (some_same p q (some_same (Some p) (Some q) (sym here ∙ f)))
      (sound.sized l.job (run_of l.range) e.1 ∙ ap (λ (c : List Cell). Some (length c)) (sym cs)))
      (λ z. (z, (p, here))) (omega arith)

  -- with none
  pub withdrawn_kept : (l : LeaseView) → IsLeaseOf (desk_of h b ps w) l
      → IsKept number cells (with_holes h (give_cells h.holes l.range) (without_run h.out l.range.first)) (with_lease b l.job None (event.Gave l.job l.range.first (length l.range.cells))) ps (w + 1)
  withdrawn_kept l e =
      let n = give_ready l e in
      gave_kept l ps (w + 1) e refl (λ job ne. refl) (inl (by_place (slice_get ps l.job) refl n.3)) (λ p f. (k.desk.own l.job p f).0) (λ p f. k.desk.sized l.job p f) (λ z. absurd (omega (arith, z))) (omega arith)
    where
      by_place : (o : Option (Option P)) → slice_get ps l.job ≡ o → gave_times l.job b.journal ≡ 0 → cells_in cells o ≡ None
      by_place None f z = refl
      by_place (Some None) f z = refl
      by_place (Some (Some p)) f z = absurd (omega (arith, z, (k.desk.own l.job p f).1))

  pub given_is : (l : LeaseView) (qs : List (Option P)) (v : ℕ)
      → desk_of (with_holes h (give_cells h.holes l.range) (without_run h.out l.range.first)) (with_lease b l.job None (event.Gave l.job l.range.first (length l.range.cells))) qs v
      ≡ given_back (desk_of h b ps w) l qs v
  given_is l qs v =
      ap (λ (holes : List Run). let d : DeskView P = record {
        arena = h.arena;
        sizes = b.sizes;
        state = record { asked = b.asked; waiting = b.waiting; holes = holes; leases = slice_set b.leases l.job None };
        holes = give_cells h.holes l.range;
        journal = b.journal ++ event.Gave l.job l.range.first (length l.range.cells) ∷ [];
        payloads = qs;
        withdrawn = v;
      } in d) (given_runs h.holes l.range)

  -- ---- the end

  pub legal_of : leased b.leases ≡ [] → b.asked ≡ length b.sizes → b.waiting ≡ [] → IsLegal h.arena.cells b.sizes b.journal
  legal_of none all waiting = record { fit = k.desk.fit; last = state_of h b; replayed = k.desk.replayed; over = record { all = all; none_waits = waiting; none_out = none } }

  pub returned_filed : w ≡ 0 → (job : ℕ) → job < b.asked → times_at job b.waiting ≡ 0 → one_out (slice_get b.leases job) ≡ 0 → HasPayload number ps job
  returned_filed z job less waits out =
      let asked : one_asked job (state_of h b) ≡ 1 = asked_one b.asked job less in
      let p = k.desk.all z job (omega (arith, sound.once job, waits, out, asked)) in
      (p.0, p.1, (k.desk.own job p.0 p.1).0)

  pub filed_of : leased b.leases ≡ [] → b.asked ≡ length b.sizes → b.waiting ≡ [] → w ≡ 0 → AllFiled number (length b.sizes) ps
  filed_of none all waiting z job less = returned_filed z job (omega (arith, all, less)) (ap (times_at job) waiting) (none_out_at b.leases job none)

  pub out_is_none : leased b.leases ≡ [] → h.out ≡ []
  out_is_none none = out_none h.out b.leases k.out none

  -- and its arena is whole
  pub whole_of : (r : Range) → run_of r ≡ h.base → r.arena ≡ h.arena → IsWhole r
  whole_of r is arena =
      let same : run_of r ≡ run 0 h.arena.cells = is ∙ k.base in
      record { from = ap (λ (x : Run). x.first) same; all = ap (λ (x : Run). x.size) same ∙ ap (λ (a : Arena). a.cells) (sym arena) }
