-- Laws, for the laws of journals and for the proofs of this crate.
-- What holds of the state behind each journal: it holds at first, and each move keeps it.
use Rattle.std.proofs.Common.{◌≡◌, ℕ, zero, suc, ◌+◌, ◌<◌, ◌≤◌, ◌==◌, nat_lt, ◌&&◌, Bool, true, false, if◌then◌else◌, ◌⊎◌, inl, inr, List, [], ◌∷◌, ◌++◌, length, replicate, Option, Some, None, refl, sym, ap, ◌∙◌, subst, arith, length-append, append-nil, append_assoc}
use Rattle.std.specs.Prelude.{slice_get, slice_set}
use Rattle.std.specs.Option.{option_map}
use Rattle.std.proofs.lemmas.Bool.{cases_eq}
use Rattle.std.proofs.lemmas.List.{length-set, length-replicate}
use Rattle.std.proofs.lemmas.Option.{slice_get_within}
use Rattle.hole_list.specs.declared.run.Run.{Run}
use Rattle.hole_list.specs.Placing.{in_run, run, Taken, take_run, largest, times_in, total}
use Rattle.lease_desk.specs.declared.event.Event.{Event}
use Rattle.lease_desk.specs.declared.event.Event.TheVariants as event
use Rattle.lease_desk.specs.Journal.{DeskState, opened, leased, Move, move, took_next, waits, took_left, gave, asked_for, next_move, left_with, first_left, is_none_out, left_move, give_lease, give_move, after_event, after_events, replay, AreSizes}
use Rattle.lease_desk.specs.Progress.{one_if, times_at, one_out, one_took, one_gave, took_times, gave_times, IsSound}
use Rattle.hole_list.specs.PlacingLaws.{at_most_one, some_same, TakenOf, taken_of, taken_apart, give_times, give_total, give_apart, free_of, one_hole, none_taken}
use Rattle.lease_desk.specs.theory.Leases.{sum_times, sum_total, sum_length, sum_out, sum_back, set_here, set_there, get_within, out_cells}
use Rattle.lease_desk.specs.theory.Moves.{Moves, next, left, back, moved, none_after}

-- ---- counts

pub took_more : (job : ℕ) (es : List Event) (e : Event) → took_times job (es ++ e ∷ []) ≡ took_times job es + one_took job e
took_more job [] e = omega arith
took_more job (f ∷ es) e = omega (arith, took_more job es e)

pub gave_more : (job : ℕ) (es : List Event) (e : Event) → gave_times job (es ++ e ∷ []) ≡ gave_times job es + one_gave job e
gave_more job [] e = omega arith
gave_more job (f ∷ es) e = omega (arith, gave_more job es e)

times_more : (job : ℕ) (js : List ℕ) (j : ℕ) → times_at job (js ++ j ∷ []) ≡ times_at job js + one_if (j == job)
times_more job [] j = omega arith
times_more job (k ∷ js) j = omega (arith, times_more job js j)

pub same_one : (a : ℕ) → one_if (a == a) ≡ 1
same_one a = grind arith

pub other_one : (a b : ℕ) → ((a ≡ b) → ⊥) → one_if (a == b) ≡ 0
other_one a b ne = grind arith

asked_now : (n : ℕ) → one_if (nat_lt n (suc n)) ≡ 1
asked_now n = grind arith

asked_not : (n : ℕ) → one_if (nat_lt n n) ≡ 0
asked_not n = grind arith

asked_else : (n job : ℕ) → ((n ≡ job) → ⊥) → one_if (nat_lt job (suc n)) ≡ one_if (nat_lt job n)
asked_else n job ne = grind arith

asked_none : (job : ℕ) → one_if (nat_lt job 0) ≡ 0
asked_none job = grind arith

asked_yes : (n job : ℕ) → 1 ≤ one_if (nat_lt job n) → job < n
asked_yes n job k = grind arith

pub size_at : (arena : ℕ) (sizes : List ℕ) (k size : ℕ) → AreSizes arena sizes → slice_get sizes k ≡ Some size → (1 ≤ size) × (size ≤ arena)
size_at arena [] k size a e = absurd (grind arith)
size_at arena (x ∷ xs) zero size a e = subst (λ n. (1 ≤ n) × (n ≤ arena)) (some_same x size e) a.0
size_at arena (x ∷ xs) (suc k) size a e = size_at arena xs k size a.1 e

-- ---- at first

pub none_leased : (n : ℕ) → leased (replicate n None) ≡ []
none_leased zero = refl
none_leased (suc n) = none_leased n

none_at : (n job : ℕ) (o : Option Run) → slice_get (replicate n None) job ≡ Some o → o ≡ None
none_at zero job o e = absurd (grind arith)
none_at (suc n) zero o e = sym (some_same None o e)
none_at (suc n) (suc job) o e = none_at n job o e

none_once : (n job : ℕ) → one_out (slice_get (replicate n None) job) ≡ 0
none_once zero job = refl
none_once (suc n) zero = refl
none_once (suc n) (suc job) = none_once n job

pub sound_first : (arena : ℕ) (sizes : List ℕ) → 1 ≤ arena → IsSound arena sizes [] (opened arena (length sizes))
sound_first arena sizes some = record {
  places = length-replicate (length sizes) None;
  most = omega arith;
  cells = λ i. omega (arith, ap (λ (rs : List Run). times_in rs i) (none_leased (length sizes)));
  sum = omega (arith, ap (λ (rs : List Run). total rs) (none_leased (length sizes)));
  apart = some;
  sized = λ job r e. absurd (let q : Some r ≡ None = none_at (length sizes) job (Some r) e in grind arith);
  once = λ job. omega (arith, none_once (length sizes) job, asked_none job);
  took = λ job. omega (arith, asked_none job);
  few = omega (arith, ap (λ (rs : List Run). length rs) (none_leased (length sizes)));
}

-- ---- each move

-- the place of a job that wasn't asked for
pub not_yet : (arena : ℕ) (sizes : List ℕ) (es : List Event) (s : DeskState) → IsSound arena sizes es s → s.asked < length sizes
    → (slice_get s.leases s.asked ≡ Some None) × (times_at s.asked s.waiting ≡ 0) × (gave_times s.asked es ≡ 0) × (took_times s.asked es ≡ 0)
not_yet arena sizes es s k less =
    let o = k.once s.asked in
    let n = asked_not s.asked in
    let out : one_out (slice_get s.leases s.asked) ≡ 0 = omega (arith, o, n) in
    (get_within s.leases s.asked (omega (arith, less, k.places)) out, omega (arith, o, n), omega (arith, o, n), omega (arith, k.took s.asked, n))

one_of_some : (ls : List (Option Run)) (job : ℕ) (o : Option Run) (q : Option (Option Run)) → slice_get ls job ≡ q → one_out (slice_get ls job) ≡ one_out q
one_of_some ls job o q e = ap one_out e

module _ (arena : ℕ) (sizes : List ℕ) (es : List Event) (s : DeskState) (k : IsSound arena sizes es s) where
  -- a lease that goes out, at a place that is free
  out_cells_are : (job : ℕ) (t : Taken) (size i : ℕ) → slice_get s.leases job ≡ Some None → TakenOf s.holes size t
      → times_in t.holes i + times_in (leased (slice_set s.leases job (Some t.run))) i ≡ in_run (run 0 arena) i
  out_cells_are job t size i free tk =
      omega (arith, k.cells i, tk.times i, sum_out (λ r. in_run r i) s.leases job t.run free, sum_times i (leased s.leases), sum_times i (leased (slice_set s.leases job (Some t.run))))

  out_sum_is : (job : ℕ) (t : Taken) (size : ℕ) → slice_get s.leases job ≡ Some None → TakenOf s.holes size t
      → total t.holes + total (leased (slice_set s.leases job (Some t.run))) ≡ arena
  out_sum_is job t size free tk =
      omega (arith, k.sum, tk.sum, tk.sized, sum_out (λ r. r.size) s.leases job t.run free, sum_total (leased s.leases), sum_total (leased (slice_set s.leases job (Some t.run))))

  out_length_is : (job : ℕ) (r : Run) → slice_get s.leases job ≡ Some None → length (leased (slice_set s.leases job (Some r))) ≡ length (leased s.leases) + 1
  out_length_is job r free =
      omega (arith, sum_out (λ q. 1) s.leases job r free, sum_length (leased s.leases), sum_length (leased (slice_set s.leases job (Some r))))

  out_sized : (job size : ℕ) (t : Taken) → TakenOf s.holes size t → slice_get sizes job ≡ Some size → job < length s.leases
      → (j : ℕ) (r : Run) → slice_get (slice_set s.leases job (Some t.run)) j ≡ Some (Some r) → slice_get sizes j ≡ Some r.size
  out_sized job size t tk is within j r e = by_job (cases_eq job j)
    where
      by_job : (job ≡ j) ⊎ ((job ≡ j) → ⊥) → slice_get sizes j ≡ Some r.size
      by_job (inl here) =
          let q : Some t.run ≡ Some r = some_same (Some t.run) (Some r) (sym (set_here s.leases job (Some t.run) within) ∙ subst (λ n. slice_get (slice_set s.leases job (Some t.run)) n ≡ Some (Some r)) (sym here) e) in
          subst (λ n. slice_get sizes n ≡ Some r.size) here (is ∙ ap (λ n. Some n) (sym tk.sized ∙ ap (λ (x : Run). x.size) (some_same t.run r q)))
      by_job (inr there) = k.sized j r (sym (set_there s.leases job j (Some t.run) there) ∙ e)

  pub sound_took : (size : ℕ) (t : Taken) → slice_get sizes s.asked ≡ Some size → take_run s.holes size ≡ Some t → AreSizes arena sizes
      → IsSound arena sizes (es ++ event.Took s.asked t.run.first size ∷ []) (took_next s s.asked t)
  sound_took size t is fits a =
      let less : s.asked < length sizes = slice_get_within sizes s.asked size is in
      let n = not_yet arena sizes es s k less in
      let tk = taken_of s.holes size t fits in
      let within : s.asked < length s.leases = omega (arith, less, k.places) in
      record {
        places = length-set s.leases s.asked (Some t.run) ∙ k.places;
        most = omega (arith, less);
        cells = λ i. out_cells_are s.asked t size i n.0 tk;
        sum = out_sum_is s.asked t size n.0 tk;
        apart = (taken_apart s.holes size t fits k.apart).0;
        sized = out_sized s.asked size t tk is within;
        once = λ job. by_once job n within (cases_eq s.asked job);
        took = λ job. by_took job n (cases_eq s.asked job);
        few = omega (arith, k.few, out_length_is s.asked t.run n.0, length-append es (event.Took s.asked t.run.first size ∷ []));
      }
    where
      by_once : (job : ℕ) → (slice_get s.leases s.asked ≡ Some None) × (times_at s.asked s.waiting ≡ 0) × (gave_times s.asked es ≡ 0)
          × (took_times s.asked es ≡ 0) → s.asked < length s.leases
          → (s.asked ≡ job) ⊎ ((s.asked ≡ job) → ⊥)
          → times_at job s.waiting + one_out (slice_get (slice_set s.leases s.asked (Some t.run)) job) + gave_times job (es ++ event.Took s.asked t.run.first size ∷ []) ≡ one_if (nat_lt job (suc s.asked))
      by_once job n within (inl here) =
          subst (λ j. times_at j s.waiting + one_out (slice_get (slice_set s.leases s.asked (Some t.run)) j) + gave_times j (es ++ event.Took s.asked t.run.first size ∷ []) ≡ one_if (nat_lt j (suc s.asked)))
          here (omega (arith, n.1, n.2, gave_more s.asked es (event.Took s.asked t.run.first size), ap one_out (set_here s.leases s.asked (Some t.run) within), asked_now s.asked))
      by_once job n within (inr there) =
          omega (arith, k.once job, gave_more job es (event.Took s.asked t.run.first size), ap one_out (set_there s.leases s.asked job (Some t.run) there), asked_else s.asked job there)

      by_took : (job : ℕ) → (slice_get s.leases s.asked ≡ Some None) × (times_at s.asked s.waiting ≡ 0) × (gave_times s.asked es ≡ 0)
          × (took_times s.asked es ≡ 0)
          → (s.asked ≡ job) ⊎ ((s.asked ≡ job) → ⊥) → times_at job s.waiting + took_times job (es ++ event.Took s.asked t.run.first size ∷ []) ≡ one_if (nat_lt job (suc s.asked))
      by_took job n (inl here) =
          subst (λ j. times_at j s.waiting + took_times j (es ++ event.Took s.asked t.run.first size ∷ []) ≡ one_if (nat_lt j (suc s.asked)))
          here (omega (arith, n.1, n.3, took_more s.asked es (event.Took s.asked t.run.first size), same_one s.asked, asked_now s.asked))
      by_took job n (inr there) = omega (arith, k.took job, took_more job es (event.Took s.asked t.run.first size), other_one s.asked job there, asked_else s.asked job there)

  pub sound_full : (size most : ℕ) → slice_get sizes s.asked ≡ Some size → IsSound arena sizes (es ++ event.Full s.asked size most ∷ []) (waits s s.asked)
  sound_full size most is =
      let less : s.asked < length sizes = slice_get_within sizes s.asked size is in
      record {
        places = k.places;
        most = omega (arith, less);
        cells = k.cells;
        sum = k.sum;
        apart = k.apart;
        sized = k.sized;
        once = λ job. by_once job (cases_eq s.asked job);
        took = λ job. by_took job (cases_eq s.asked job);
        few = omega (arith, k.few, length-append es (event.Full s.asked size most ∷ []), length-append s.waiting (s.asked ∷ []));
      }
    where
      by_once : (job : ℕ) → (s.asked ≡ job) ⊎ ((s.asked ≡ job) → ⊥)
          → times_at job (s.waiting ++ s.asked ∷ []) + one_out (slice_get s.leases job) + gave_times job (es ++ event.Full s.asked size most ∷ []) ≡ one_if (nat_lt job (suc s.asked))
      by_once job (inl here) =
          subst (λ j. times_at j (s.waiting ++ s.asked ∷ []) + one_out (slice_get s.leases j) + gave_times j (es ++ event.Full s.asked size most ∷ []) ≡ one_if (nat_lt j (suc s.asked))) here
          (omega (arith, k.once s.asked, asked_not s.asked, asked_now s.asked, times_more s.asked s.waiting s.asked, same_one s.asked, gave_more s.asked es (event.Full s.asked size most)))
      by_once job (inr there) =
          omega (arith, k.once job, asked_else s.asked job there, times_more job s.waiting s.asked, other_one s.asked job there, gave_more job es (event.Full s.asked size most))

      by_took : (job : ℕ) → (s.asked ≡ job) ⊎ ((s.asked ≡ job) → ⊥)
          → times_at job (s.waiting ++ s.asked ∷ []) + took_times job (es ++ event.Full s.asked size most ∷ []) ≡ one_if (nat_lt job (suc s.asked))
      by_took job (inl here) =
          subst (λ j. times_at j (s.waiting ++ s.asked ∷ []) + took_times j (es ++ event.Full s.asked size most ∷ []) ≡ one_if (nat_lt j (suc s.asked))) here
          (omega (arith, k.took s.asked, asked_not s.asked, asked_now s.asked, times_more s.asked s.waiting s.asked, same_one s.asked, took_more s.asked es (event.Full s.asked size most)))
      by_took job (inr there) =
          omega (arith, k.took job, asked_else s.asked job there, times_more job s.waiting s.asked, other_one s.asked job there, took_more job es (event.Full s.asked size most))

  -- the place of a job that waits
  pub waits_at : (job : ℕ) (ws : List ℕ) → s.waiting ≡ job ∷ ws
      → (job < s.asked) × (slice_get s.leases job ≡ Some None) × (times_at job ws ≡ 0) × (gave_times job es ≡ 0) × (took_times job es ≡ 0)
  waits_at job ws e =
      let t : times_at job s.waiting ≡ one_if (job == job) + times_at job ws = ap (times_at job) e in
      let one = same_one job in
      let o = k.once job in
      let w = k.took job in
      let most : one_if (nat_lt job s.asked) ≤ 1 = grind arith in
      let asked : job < s.asked = asked_yes s.asked job (omega (arith, t, one, o)) in
      let out : one_out (slice_get s.leases job) ≡ 0 = omega (arith, t, one, o, most) in
      (asked, get_within s.leases job (omega (arith, asked, k.most, k.places)) out, omega (arith, t, one, o, most), omega (arith, t, one, o, most), omega (arith, t, one, w, most))

  pub sound_left : (job size : ℕ) (ws : List ℕ) (t : Taken) → s.waiting ≡ job ∷ ws → slice_get sizes job ≡ Some size → take_run s.holes size ≡ Some t
      → IsSound arena sizes (es ++ event.Took job t.run.first size ∷ []) (took_left s ws job t)
  sound_left job size ws t e is fits =
      let n = waits_at job ws e in
      let tk = taken_of s.holes size t fits in
      let within : job < length s.leases = omega (arith, n.0, k.places, k.most) in
      record {
        places = length-set s.leases job (Some t.run) ∙ k.places;
        most = k.most;
        cells = λ i. out_cells_are job t size i n.1 tk;
        sum = out_sum_is job t size n.1 tk;
        apart = (taken_apart s.holes size t fits k.apart).0;
        sized = out_sized job size t tk is within;
        once = λ j. by_once j n within (cases_eq job j);
        took = λ j. by_took j n (cases_eq job j);
        few = omega (arith, k.few, ap (λ (js : List ℕ). length js) e, out_length_is job t.run n.1, length-append es (event.Took job t.run.first size ∷ []));
      }
    where
      by_once : (j : ℕ) → (job < s.asked) × (slice_get s.leases job ≡ Some None) × (times_at job ws ≡ 0) × (gave_times job es ≡ 0)
          × (took_times job es ≡ 0) → job < length s.leases
          → (job ≡ j) ⊎ ((job ≡ j) → ⊥)
          → times_at j ws + one_out (slice_get (slice_set s.leases job (Some t.run)) j) + gave_times j (es ++ event.Took job t.run.first size ∷ []) ≡ one_if (nat_lt j s.asked)
      by_once j n within (inl here) =
          subst (λ i. times_at i ws + one_out (slice_get (slice_set s.leases job (Some t.run)) i) + gave_times i (es ++ event.Took job t.run.first size ∷ []) ≡ one_if (nat_lt i s.asked)) here
          (let asked : one_if (nat_lt job s.asked) ≡ 1 = grind (arith, n.0) in
          omega (arith, n.2, n.3, asked, gave_more job es (event.Took job t.run.first size), ap one_out (set_here s.leases job (Some t.run) within)))
      by_once j n within (inr there) =
          omega (arith, k.once j, ap (times_at j) e, other_one job j there, gave_more j es (event.Took job t.run.first size), ap one_out (set_there s.leases job j (Some t.run) there))

      by_took : (j : ℕ) → (job < s.asked) × (slice_get s.leases job ≡ Some None) × (times_at job ws ≡ 0) × (gave_times job es ≡ 0) × (took_times job es ≡ 0)
          → (job ≡ j) ⊎ ((job ≡ j) → ⊥) → times_at j ws + took_times j (es ++ event.Took job t.run.first size ∷ []) ≡ one_if (nat_lt j s.asked)
      by_took j n (inl here) =
          subst (λ i. times_at i ws + took_times i (es ++ event.Took job t.run.first size ∷ []) ≡ one_if (nat_lt i s.asked)) here
          (let asked : one_if (nat_lt job s.asked) ≡ 1 = grind (arith, n.0) in
          omega (arith, n.2, n.4, asked, same_one job, took_more job es (event.Took job t.run.first size)))
      by_took j n (inr there) = omega (arith, k.took j, ap (times_at j) e, other_one job j there, took_more j es (event.Took job t.run.first size))

  -- the run of a lease that is out has a cell, and no hole has any of its cells
  pub is_free : (job : ℕ) (r : Run) → slice_get s.leases job ≡ Some (Some r) → (i : ℕ) → times_in s.holes i + in_run r i ≤ 1
  is_free job r e i = omega (arith, k.cells i, out_cells s.leases job r i e, at_most_one (run 0 arena) i)

  pub sound_gave : (job : ℕ) (r : Run) → slice_get s.leases job ≡ Some (Some r) → AreSizes arena sizes
      → IsSound arena sizes (es ++ event.Gave job r.first r.size ∷ []) (gave s job r)
  sound_gave job r e a =
      let some : 1 ≤ r.size = (size_at arena sizes job r.size a (k.sized job r e)).0 in
      let within : job < length s.leases = slice_get_within s.leases job (Some r) e in
      record {
        places = length-set s.leases job None ∙ k.places;
        most = k.most;
        cells = λ i. omega (arith, k.cells i, give_times s.holes r i, sum_back (λ q. in_run q i) s.leases job r e, sum_times i (leased s.leases), sum_times i (leased (slice_set s.leases job None)));
        sum = omega (arith, k.sum, give_total s.holes r, sum_back (λ q. q.size) s.leases job r e, sum_total (leased s.leases), sum_total (leased (slice_set s.leases job None)));
        apart = (give_apart s.holes r some k.apart (free_of s.holes r some k.apart (is_free job r e))).0;
        sized = λ j q is. by_sized j q is within (cases_eq job j);
        once = λ j. by_once j within (cases_eq job j);
        took = λ j. omega (arith, k.took j, took_more j es (event.Gave job r.first r.size));
        few = omega (arith, k.few, sum_back (λ q. 1) s.leases job r e, sum_length (leased s.leases), sum_length (leased (slice_set s.leases job None)), length-append es (event.Gave job r.first r.size ∷ []));
      }
    where
      by_sized : (j : ℕ) (q : Run) → slice_get (slice_set s.leases job None) j ≡ Some (Some q) → job < length s.leases → (job ≡ j) ⊎ ((job ≡ j) → ⊥)
          → slice_get sizes j ≡ Some q.size
      by_sized j q is within (inl here) =
          absurd (let z : None ≡ Some q = some_same None (Some q) (sym (set_here s.leases job None within) ∙ subst (λ n. slice_get (slice_set s.leases job None) n ≡ Some (Some q)) (sym here) is) in grind arith)
      by_sized j q is within (inr there) = k.sized j q (sym (set_there s.leases job j None there) ∙ is)

      by_once : (j : ℕ) → job < length s.leases → (job ≡ j) ⊎ ((job ≡ j) → ⊥)
          → times_at j s.waiting + one_out (slice_get (slice_set s.leases job None) j) + gave_times j (es ++ event.Gave job r.first r.size ∷ []) ≡ one_if (nat_lt j s.asked)
      by_once j within (inl here) =
          subst (λ i. times_at i s.waiting + one_out (slice_get (slice_set s.leases job None) i) + gave_times i (es ++ event.Gave job r.first r.size ∷ []) ≡ one_if (nat_lt i s.asked)) here
          (omega (arith, k.once job, ap one_out e, ap one_out (set_here s.leases job None within), gave_more job es (event.Gave job r.first r.size), same_one job))
      by_once j within (inr there) =
          omega (arith, k.once j, ap one_out (set_there s.leases job j None there), gave_more j es (event.Gave job r.first r.size), other_one job j there)

-- ---- behind each journal

-- what the next move is
pub next_is : (sizes : List ℕ) (s : DeskState) (size : ℕ) (o : Option Taken) → slice_get sizes s.asked ≡ Some size → take_run s.holes size ≡ o
    → next_move sizes s ≡ Some (asked_for s s.asked size o)
next_is sizes s size o is fits =
    ap (option_map (λ n. asked_for s s.asked n (take_run s.holes n))) is ∙ ap (λ (t : Option Taken). Some (asked_for s s.asked size t)) fits

pub none_out_leased : (ls : List (Option Run)) → is_none_out ls ≡ true → leased ls ≡ []
none_out_leased [] e = refl
none_out_leased (None ∷ ls) e = none_out_leased ls e
none_out_leased (Some r ∷ ls) e = absurd (grind arith)

pub leased_none_out : (ls : List (Option Run)) → leased ls ≡ [] → is_none_out ls ≡ true
leased_none_out [] e = refl
leased_none_out (None ∷ ls) e = leased_none_out ls e
leased_none_out (Some r ∷ ls) e = absurd (grind arith)

pub left_is : (sizes : List ℕ) (s : DeskState) (job size : ℕ) (ws : List ℕ) (t : Taken) → s.asked ≡ length sizes → leased s.leases ≡ [] → s.waiting ≡ job ∷ ws
    → slice_get sizes job ≡ Some size → take_run s.holes size ≡ Some t → left_move sizes s ≡ Some (move (event.Took job t.run.first size) (took_left s ws job t))
left_is sizes s job size ws t all none e is fits =
    let eq : (s.asked == length sizes) ≡ true = grind arith in
    ap (λ (b : Bool). if b && is_none_out s.leases then first_left sizes s s.waiting else None) eq
    ∙ ap (λ (b : Bool). if b then first_left sizes s s.waiting else None) (leased_none_out s.leases none)
    ∙ ap (first_left sizes s) e
    ∙ ap (left_with s ws job) is
    ∙ ap (option_map (λ (u : Taken). move (event.Took job u.run.first size) (took_left s ws job u))) fits

module _ (arena : ℕ) (sizes : List ℕ) (es : List Event) (s : DeskState) (k : IsSound arena sizes es s) (a : AreSizes arena sizes) where
  by_next : (m : Move) → next_move sizes s ≡ Some m → IsSound arena sizes (es ++ m.event ∷ []) m.state
  by_next m e = by_size (slice_get sizes s.asked) refl e
    where
      by_taken : (size : ℕ) → slice_get sizes s.asked ≡ Some size → (o : Option Taken) → take_run s.holes size ≡ o → asked_for s s.asked size o ≡ m
          → IsSound arena sizes (es ++ m.event ∷ []) m.state
      by_taken size is None fits e = subst (λ (n : Move). IsSound arena sizes (es ++ n.event ∷ []) n.state) e (sound_full arena sizes es s k size (largest s.holes) is)
      by_taken size is (Some t) fits e = subst (λ (n : Move). IsSound arena sizes (es ++ n.event ∷ []) n.state) e (sound_took arena sizes es s k size t is fits a)

      by_size : (o : Option ℕ) → slice_get sizes s.asked ≡ o → option_map (λ size. asked_for s s.asked size (take_run s.holes size)) o ≡ Some m
          → IsSound arena sizes (es ++ m.event ∷ []) m.state
      by_size None is e = absurd (grind arith)
      by_size (Some size) is e = by_taken size is (take_run s.holes size) refl (some_same (asked_for s s.asked size (take_run s.holes size)) m e)

  by_left : (m : Move) → left_move sizes s ≡ Some m → IsSound arena sizes (es ++ m.event ∷ []) m.state
  by_left m e = by_test ((s.asked == length sizes) && is_none_out s.leases) e
    where
      by_taken : (job : ℕ) (ws : List ℕ) (size : ℕ) → s.waiting ≡ job ∷ ws → slice_get sizes job ≡ Some size → (o : Option Taken) → take_run s.holes size ≡ o
          → option_map (λ (t : Taken). move (event.Took job t.run.first size) (took_left s ws job t)) o ≡ Some m
          → IsSound arena sizes (es ++ m.event ∷ []) m.state
      by_taken job ws size w is None fits e = absurd (grind arith)
      by_taken job ws size w is (Some t) fits e =
          subst (λ (n : Move). IsSound arena sizes (es ++ n.event ∷ []) n.state) (some_same (move (event.Took job t.run.first size) (took_left s ws job t)) m e)
          (sound_left arena sizes es s k job size ws t w is fits)

      by_size : (job : ℕ) (ws : List ℕ) → s.waiting ≡ job ∷ ws → (o : Option ℕ) → slice_get sizes job ≡ o → left_with s ws job o ≡ Some m
          → IsSound arena sizes (es ++ m.event ∷ []) m.state
      by_size job ws w None is e = absurd (grind arith)
      by_size job ws w (Some size) is e = by_taken job ws size w is (take_run s.holes size) refl e

      by_waiting : (ws : List ℕ) → s.waiting ≡ ws → first_left sizes s ws ≡ Some m → IsSound arena sizes (es ++ m.event ∷ []) m.state
      by_waiting [] w e = absurd (grind arith)
      by_waiting (job ∷ ws) w e = by_size job ws w (slice_get sizes job) refl e

      by_test : (b : Bool) → (if b then first_left sizes s s.waiting else None) ≡ Some m → IsSound arena sizes (es ++ m.event ∷ []) m.state
      by_test true e = by_waiting s.waiting refl e
      by_test false e = absurd (grind arith)

  by_back : (m : Move) (job : ℕ) → give_move s job ≡ Some m → IsSound arena sizes (es ++ m.event ∷ []) m.state
  by_back m job e = by_place (slice_get s.leases job) refl e
    where
      by_place : (o : Option (Option Run)) → slice_get s.leases job ≡ o → give_lease s job o ≡ Some m → IsSound arena sizes (es ++ m.event ∷ []) m.state
      by_place None is e = absurd (grind arith)
      by_place (Some None) is e = absurd (grind arith)
      by_place (Some (Some r)) is e =
          subst (λ (n : Move). IsSound arena sizes (es ++ n.event ∷ []) n.state) (some_same (move (event.Gave job r.first r.size) (gave s job r)) m e) (sound_gave arena sizes es s k job r is a)

  pub sound_move : (m : Move) → Moves sizes s m → IsSound arena sizes (es ++ m.event ∷ []) m.state
  sound_move m (next e) = by_next m e
  sound_move m (left e) = by_left m e
  sound_move m (back job e) = by_back m job e

sound_on : (arena : ℕ) (sizes : List ℕ) (s t : DeskState) (done es : List Event) → AreSizes arena sizes → IsSound arena sizes done s
    → after_events sizes (Some s) es ≡ Some t
    → IsSound arena sizes (done ++ es) t
sound_on arena sizes s t done [] a k e =
    subst (λ (js : List Event). IsSound arena sizes js t) (sym (append-nil done)) (subst (λ (x : DeskState). IsSound arena sizes done x) (some_same s t e) k)
sound_on arena sizes s t done (f ∷ es) a k e = by_one (after_event sizes s f) refl (λ v q l. sound_on arena sizes v t (done ++ f ∷ []) es a q l) e
  where
    by_one : (o : Option DeskState) → after_event sizes s f ≡ o
        → ((v : DeskState) → IsSound arena sizes (done ++ f ∷ []) v → after_events sizes (Some v) es ≡ Some t → IsSound arena sizes ((done ++ f ∷ []) ++ es) t)
        → after_events sizes o es ≡ Some t → IsSound arena sizes (done ++ f ∷ es) t
    by_one None is go e = absurd (let q : None ≡ Some t = sym (none_after sizes es) ∙ e in grind arith)
    by_one (Some v) is go e =
        subst (λ (js : List Event). IsSound arena sizes js t) (append_assoc done (f ∷ []) es) (go v (sound_move arena sizes done s k a (move f v) (moved sizes s f v is)) e)

pub sound_behind : (arena : ℕ) (sizes : List ℕ) (es : List Event) (s : DeskState) → 1 ≤ arena → AreSizes arena sizes → replay arena sizes es ≡ Some s
    → IsSound arena sizes es s
unfolding replay
sound_behind arena sizes es s some a e = sound_on arena sizes (opened arena (length sizes)) s [] es a (sound_first arena sizes some) e

-- ---- what follows

pub one_at_most : (n job : ℕ) → one_if (nat_lt job n) ≤ 1
one_at_most n job = grind arith

pub asked_one : (n job : ℕ) → job < n → one_if (nat_lt job n) ≡ 1
asked_one n job less = grind (arith, less)

pub took_once : (arena : ℕ) (sizes : List ℕ) (es : List Event) (s : DeskState) (job : ℕ) → IsSound arena sizes es s → took_times job es ≤ 1
took_once arena sizes es s job k = omega (arith, k.took job, one_at_most s.asked job)

pub gave_once : (arena : ℕ) (sizes : List ℕ) (es : List Event) (s : DeskState) (job : ℕ) → IsSound arena sizes es s → gave_times job es ≤ 1
gave_once arena sizes es s job k = omega (arith, k.once job, one_at_most s.asked job)

-- where no lease is out, the arena is one hole, so that each job fits
pub none_out_one : (arena : ℕ) (sizes : List ℕ) (es : List Event) (s : DeskState) → 1 ≤ arena → IsSound arena sizes es s → leased s.leases ≡ []
    → s.holes ≡ run 0 arena ∷ []
none_out_one arena sizes es s some k none = one_hole (run 0 arena) s.holes some k.apart (λ i. omega (arith, k.cells i, ap (λ (rs : List Run). times_in rs i) none))

pub left_fits : (arena : ℕ) (sizes : List ℕ) (es : List Event) (s : DeskState) (job size : ℕ) → 1 ≤ arena → IsSound arena sizes es s
    → AreSizes arena sizes → leased s.leases ≡ []
    → slice_get sizes job ≡ Some size → take_run s.holes size ≡ None → ⊥
left_fits arena sizes es s job size some k a none is fits =
    let z = size_at arena sizes job size a is in
    omega (arith, z.0, z.1, none_taken s.holes size z.0 fits, ap (λ (hs : List Run). largest hs) (none_out_one arena sizes es s some k none))
