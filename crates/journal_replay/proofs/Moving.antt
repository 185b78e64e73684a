-- The moves of a state, and the events that tell them.
use Rattle.std.proofs.Common.{◌≡◌, ℕ, zero, suc, ◌+◌, ◌≤◌, ◌<◌, ◌==◌, ◌&&◌, Bool, true, false, if◌then◌else◌, List, [], ◌∷◌, ◌++◌, length, drop, get_or, Option, Some, None, refl, sym, ap, ◌∙◌, arith}
use Rattle.std.specs.Prelude.{slice_get, slice_set}
use Rattle.std.specs.Option.{option_map}
use Rattle.std.proofs.lemmas.Bool.Decides.{nat_tests}
use Rattle.std.proofs.lemmas.Option.{slice_get_past}
use Rattle.hole_list.specs.declared.run.Run.{Run}
use Rattle.hole_list.specs.Placing.{Taken, give_run, largest, run, take_run, taken}
use Rattle.hole_list.specs.PlacingLaws.{some_same}
use Rattle.lease_desk.specs.declared.event.Event.{Event}
use Rattle.lease_desk.specs.declared.event.Event.TheVariants as event
use Rattle.lease_desk.specs.Journal.{DeskState, Move, move, asked_for, next_move, left_with, first_left, is_none_out, left_move, give_lease, give_move, is_event, job_of, as_told, or_else, after_event, after_events, replay, opened}
use Rattle.lease_desk.specs.theory.Moves.{is_itself, event_same, none_after}
use Rattle.lease_desk.specs.theory.Sound.{next_is}
use Rattle.journal_replay.specs.Replaying.{are_sizes, told_in, replayed}

-- ---- who waits

pub one_waits : (xs : List ℕ) (served x : ℕ) → served ≤ length xs → drop served (xs ++ x ∷ []) ≡ drop served xs ++ x ∷ []
one_waits xs zero x h = refl
one_waits [] (suc n) x h = absurd (omega (arith, h))
one_waits (y ∷ xs) (suc n) x h = one_waits xs n x (omega (arith, h))

first_waits : (xs : List ℕ) (served job : ℕ) → slice_get xs served ≡ Some job → drop served xs ≡ job ∷ drop (suc served) xs
first_waits [] served job e = absurd (let q : None ≡ Some job = e in grind arith)
first_waits (x ∷ xs) zero job e = ap (λ n. n ∷ xs) (some_same x job e)
first_waits (x ∷ xs) (suc n) job e = first_waits xs n job e

none_waits : (xs : List ℕ) (served : ℕ) → slice_get xs served ≡ None → drop served xs ≡ []
none_waits [] zero e = refl
none_waits [] (suc n) e = refl
none_waits (x ∷ xs) zero e = absurd (let q : Some x ≡ None = e in grind arith)
none_waits (x ∷ xs) (suc n) e = none_waits xs n e

-- ---- moves

abbrev pub state : ℕ → List ℕ → List Run → List (Option Run) → DeskState
state asked waiting holes leases = record { asked = asked; waiting = waiting; holes = holes; leases = leases }

pub next_took : (sizes : List ℕ) (asked job size first next : ℕ) (waiting : List ℕ) (old left : List Run) (ls set : List (Option Run))
    → slice_get sizes asked ≡ Some size → job ≡ asked → next ≡ asked + 1
    → take_run old size ≡ Some (taken (run first size) left) → set ≡ slice_set ls asked (Some (run first size))
    → Some (move (event.Took job first size) (state next waiting left set)) ≡ next_move sizes (state asked waiting old ls)
next_took sizes asked job size first next waiting old left ls set is here more fits put =
    let after : next ≡ suc asked = omega (arith, more) in
    (λ i. Some (move (event.Took (here i) first size) (state (after i) waiting left (put i)))) ∙ sym (next_is sizes (state asked waiting old ls) size (Some (taken (run first size) left)) is fits)

pub next_waits : (sizes : List ℕ) (asked job size most next : ℕ) (waiting longer : List ℕ) (old left : List Run) (ls : List (Option Run))
    → slice_get sizes asked ≡ Some size → job ≡ asked → next ≡ asked + 1
    → take_run old size ≡ None → left ≡ old → most ≡ largest left → longer ≡ waiting ++ job ∷ []
    → Some (move (event.Full job size most) (state next longer left ls)) ≡ next_move sizes (state asked waiting old ls)
next_waits sizes asked job size most next waiting longer old left ls is here more fits same greatest behind =
    let after : next ≡ suc asked = omega (arith, more) in
    let large : most ≡ largest old = greatest ∙ ap largest same in
    let long : longer ≡ waiting ++ asked ∷ [] = behind ∙ ap (λ n. waiting ++ n ∷ []) here in
    (λ i. Some (move (event.Full (here i) size (large i)) (state (after i) (long i) (same i) ls))) ∙ sym (next_is sizes (state asked waiting old ls) size None is fits)

left_first : (sizes : List ℕ) (asked : ℕ) (waiting : List ℕ) (old : List Run) (ls : List (Option Run)) → asked ≡ length sizes → is_none_out ls ≡ true
    → left_move sizes (state asked waiting old ls) ≡ first_left sizes (state asked waiting old ls) waiting
left_first sizes asked waiting old ls all none =
    let eq : (asked == length sizes) ≡ true = grind (arith, nat_tests, all) in
    ap (λ (b : Bool). if b && is_none_out ls then first_left sizes (state asked waiting old ls) waiting else None) eq ∙ ap (λ (b : Bool). if b then first_left sizes (state asked waiting old ls) waiting else None) none

left_sized : (sizes : List ℕ) (asked job size served : ℕ) (xs : List ℕ) (old : List Run) (ls : List (Option Run)) → asked ≡ length sizes
    → is_none_out ls ≡ true → slice_get xs served ≡ Some job → (o : Option ℕ) → slice_get sizes job ≡ o
    → left_move sizes (state asked (drop served xs) old ls) ≡ left_with (state asked (drop served xs) old ls) (drop (suc served) xs) job o
left_sized sizes asked job size served xs old ls all none first o is =
    left_first sizes asked (drop served xs) old ls all none ∙ ap (first_left sizes (state asked (drop served xs) old ls)) (first_waits xs served job first)
    ∙ ap (left_with (state asked (drop served xs) old ls) (drop (suc served) xs) job) is

pub left_took : (sizes : List ℕ) (asked job size first served next : ℕ) (xs : List ℕ) (old left : List Run) (ls set : List (Option Run))
    → asked ≡ length sizes → is_none_out ls ≡ true → slice_get xs served ≡ Some job
    → slice_get sizes job ≡ Some size → next ≡ served + 1 → take_run old size ≡ Some (taken (run first size) left) → set ≡ slice_set ls job (Some (run first size))
    → Some (move (event.Took job first size) (state asked (drop next xs) left set)) ≡ left_move sizes (state asked (drop served xs) old ls)
left_took sizes asked job size first served next xs old left ls set all none here is more fits put =
    let after : next ≡ suc served = omega (arith, more) in
    (λ i. Some (move (event.Took job first size) (state asked (drop (after i) xs) left (put i))))
    ∙ sym (ap (option_map (λ (t : Taken). move (event.Took job t.run.first size) (state asked (drop (suc served) xs) t.holes (slice_set ls job (Some t.run))))) fits)
    ∙ sym (left_sized sizes asked job size served xs old ls all none here (Some size) is)

pub left_large : (sizes : List ℕ) (asked job size served : ℕ) (xs : List ℕ) (old : List Run) (ls : List (Option Run)) → asked ≡ length sizes
    → is_none_out ls ≡ true → slice_get xs served ≡ Some job
    → slice_get sizes job ≡ Some size → take_run old size ≡ None → None ≡ left_move sizes (state asked (drop served xs) old ls)
left_large sizes asked job size served xs old ls all none here is fits =
    sym (ap (option_map (λ (t : Taken). move (event.Took job t.run.first size) (state asked (drop (suc served) xs) t.holes (slice_set ls job (Some t.run))))) fits)
    ∙ sym (left_sized sizes asked job size served xs old ls all none here (Some size) is)

pub left_beyond : (sizes : List ℕ) (asked job served : ℕ) (xs : List ℕ) (old : List Run) (ls : List (Option Run)) → asked ≡ length sizes
    → is_none_out ls ≡ true → slice_get xs served ≡ Some job → slice_get sizes job ≡ None
    → None ≡ left_move sizes (state asked (drop served xs) old ls)
left_beyond sizes asked job served xs old ls all none here is = sym (left_sized sizes asked job 0 served xs old ls all none here None is)

pub left_none : (sizes : List ℕ) (asked served : ℕ) (xs : List ℕ) (old : List Run) (ls : List (Option Run)) → asked ≡ length sizes
    → is_none_out ls ≡ true → slice_get xs served ≡ None
    → None ≡ left_move sizes (state asked (drop served xs) old ls)
left_none sizes asked served xs old ls all none is = sym (left_first sizes asked (drop served xs) old ls all none ∙ ap (first_left sizes (state asked (drop served xs) old ls)) (none_waits xs served is))

pub back_gave : (asked job : ℕ) (waiting : List ℕ) (old holes : List Run) (ls set : List (Option Run)) (r : Run) → slice_get ls job ≡ Some (Some r)
    → holes ≡ give_run old r → set ≡ slice_set ls job None
    → Some (move (event.Gave job r.first r.size) (state asked waiting holes set)) ≡ give_move (state asked waiting old ls) job
back_gave asked job waiting old holes ls set r is back put =
    (λ i. Some (move (event.Gave job r.first r.size) (state asked waiting (back i) (put i)))) ∙ sym (ap (give_lease (state asked waiting old ls) job) is)

-- ---- events

only_first : (a : Option DeskState) → or_else a None ≡ a
only_first None = refl
only_first (Some s) = refl

module _ (sizes : List ℕ) (s : DeskState) where
  next_not_gave : (j f z : ℕ) → as_told (event.Gave j f z) (next_move sizes s) ≡ None
  next_not_gave j f z = by_size (slice_get sizes s.asked)
    where
      by_take : (size : ℕ) (o : Option Taken) → as_told (event.Gave j f z) (Some (asked_for s s.asked size o)) ≡ None
      by_take size None = refl
      by_take size (Some t) = refl

      by_size : (o : Option ℕ) → as_told (event.Gave j f z) (option_map (λ size. asked_for s s.asked size (take_run s.holes size)) o) ≡ None
      by_size None = refl
      by_size (Some size) = by_take size (take_run s.holes size)

  left_took_only : (e : Event) → ((j size : ℕ) (t : Taken) → is_event e (event.Took j t.run.first size) ≡ false) → as_told e (left_move sizes s) ≡ None
  left_took_only e never = by_test ((s.asked == length sizes) && is_none_out s.leases)
    where
      by_take : (ws : List ℕ) (j size : ℕ) (o : Option Taken)
          → as_told e (option_map (λ (t : Taken). move (event.Took j t.run.first size) (state s.asked ws t.holes (slice_set s.leases j (Some t.run)))) o) ≡ None
      by_take ws j size None = refl
      by_take ws j size (Some t) = ap (λ (b : Bool). if b then Some (state s.asked ws t.holes (slice_set s.leases j (Some t.run))) else None) (never j size t)

      by_size : (ws : List ℕ) (j : ℕ) (o : Option ℕ) → as_told e (left_with s ws j o) ≡ None
      by_size ws j None = refl
      by_size ws j (Some size) = by_take ws j size (take_run s.holes size)

      by_waiting : (ws : List ℕ) → as_told e (first_left sizes s ws) ≡ None
      by_waiting [] = refl
      by_waiting (j ∷ ws) = by_size ws j (slice_get sizes j)

      by_test : (b : Bool) → as_told e (if b then first_left sizes s s.waiting else None) ≡ None
      by_test true = by_waiting s.waiting
      by_test false = refl

  back_gave_only : (e : Event) (job : ℕ) → ((r : Run) → is_event e (event.Gave job r.first r.size) ≡ false) → as_told e (give_move s job) ≡ None
  back_gave_only e job never = by_lease (slice_get s.leases job)
    where
      by_lease : (o : Option (Option Run)) → as_told e (give_lease s job o) ≡ None
      by_lease None = refl
      by_lease (Some None) = refl
      by_lease (Some (Some r)) = ap (λ (b : Bool). if b then Some (state s.asked s.waiting (give_run s.holes r) (slice_set s.leases job None)) else None) (never r)

  pub told_gave : (j f z : ℕ) (o : Option Move) → o ≡ give_move s j → as_told (event.Gave j f z) o ≡ after_event sizes s (event.Gave j f z)
  unfolding after_event
  told_gave j f z o is =
      ap (as_told (event.Gave j f z)) is
      ∙ sym (ap (λ a. or_else a (or_else (as_told (event.Gave j f z) (left_move sizes s)) (as_told (event.Gave j f z) (give_move s j)))) (next_not_gave j f z)
      ∙ ap (λ a. or_else a (as_told (event.Gave j f z) (give_move s j))) (left_took_only (event.Gave j f z) (λ job size t. refl)))

  no_left : s.asked < length sizes → left_move sizes s ≡ None
  no_left less = let other : (s.asked == length sizes) ≡ false = grind (arith, nat_tests, less) in ap (λ (b : Bool). if b && is_none_out s.leases then first_left sizes s s.waiting else None) other

  told_next : (e : Event) (o : Option Move) → ((r : Run) → is_event e (event.Gave (job_of e) r.first r.size) ≡ false) → s.asked < length sizes
      → o ≡ next_move sizes s → as_told e o ≡ after_event sizes s e
  unfolding after_event
  told_next e o never less is =
      ap (as_told e) is
      ∙ sym (ap (λ a. or_else (as_told e (next_move sizes s)) (or_else (as_told e a) (as_told e (give_move s (job_of e))))) (no_left less)
      ∙ ap (λ a. or_else (as_told e (next_move sizes s)) a) (back_gave_only e (job_of e) never) ∙ only_first (as_told e (next_move sizes s)))

  told_left : (e : Event) (o : Option Move) → ((r : Run) → is_event e (event.Gave (job_of e) r.first r.size) ≡ false) → length sizes ≤ s.asked
      → o ≡ left_move sizes s → as_told e o ≡ after_event sizes s e
  unfolding after_event
  told_left e o never over is =
      ap (as_told e) is
      ∙ sym (ap (λ a. or_else (as_told e (option_map (λ size. asked_for s s.asked size (take_run s.holes size)) a)) (or_else (as_told e (left_move sizes s)) (as_told e (give_move s (job_of e))))) (slice_get_past sizes s.asked over)
      ∙ ap (λ a. or_else (as_told e (left_move sizes s)) a) (back_gave_only e (job_of e) never) ∙ only_first (as_told e (left_move sizes s)))

  pub took_next : (j f z : ℕ) (o : Option Move) → s.asked < length sizes → o ≡ next_move sizes s
      → as_told (event.Took j f z) o ≡ after_event sizes s (event.Took j f z)
  took_next j f z o less is = told_next (event.Took j f z) o (λ r. refl) less is

  pub full_next : (j f z : ℕ) (o : Option Move) → s.asked < length sizes → o ≡ next_move sizes s
      → as_told (event.Full j f z) o ≡ after_event sizes s (event.Full j f z)
  full_next j f z o less is = told_next (event.Full j f z) o (λ r. refl) less is

  pub took_left : (j f z : ℕ) (o : Option Move) → length sizes ≤ s.asked → o ≡ left_move sizes s
      → as_told (event.Took j f z) o ≡ after_event sizes s (event.Took j f z)
  took_left j f z o over is = told_left (event.Took j f z) o (λ r. refl) over is

  pub full_left : (j f z : ℕ) (o : Option Move) → length sizes ≤ s.asked → o ≡ left_move sizes s
      → as_told (event.Full j f z) o ≡ after_event sizes s (event.Full j f z)
  full_left j f z o over is = told_left (event.Full j f z) o (λ r. refl) over is

pub same_event : (e told : Event) (s : DeskState) (o : Option DeskState) → told ≡ e → as_told e (Some (move told s)) ≡ o → Some s ≡ o
same_event e told s o same is = sym (ap (λ (b : Bool). if b then Some s else None) (ap (is_event e) same ∙ is_itself e)) ∙ is

pub other_event : (e told : Event) (s : DeskState) (o : Option DeskState) → ((told ≡ e) → ⊥) → as_told e (Some (move told s)) ≡ o → None ≡ o
other_event e told s o other is = by_test (is_event e told) refl
  where
    by_test : (b : Bool) → is_event e told ≡ b → None ≡ o
    by_test true k = absurd (other (sym (event_same e told k)))
    by_test false k = sym (ap (λ (b : Bool). if b then Some s else None) k) ∙ is

-- ---- journals

pub replays : (arena : ℕ) (sizes : List ℕ) (journal : List Event) → after_events sizes (Some (opened arena (length sizes))) journal ≡ replay arena sizes journal
unfolding replay
replays arena sizes journal = refl

-- an event that no move tells ends them
pub stops : (arena : ℕ) (sizes : List ℕ) (s : DeskState) (rest journal : List Event) (d : Event) (o : Option DeskState) → 1 ≤ length rest
    → o ≡ after_event sizes s (get_or rest 0 d) → o ≡ None
    → after_events sizes (Some s) rest ≡ replay arena sizes journal → None ≡ replayed arena sizes journal
stops arena sizes s [] journal d o some is none whole = absurd (omega (arith, some))
stops arena sizes s (e ∷ es) journal d o some is none whole = by_test (are_sizes arena sizes)
  where
    stopped : replay arena sizes journal ≡ None
    stopped = sym whole ∙ ap (λ q. after_events sizes q es) (sym is ∙ none) ∙ none_after sizes es

    by_test : (b : Bool) → None ≡ (if b then option_map told_in (replay arena sizes journal) else None)
    by_test true = ap (option_map told_in) (sym stopped)
    by_test false = refl
