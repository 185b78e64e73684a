-- Laws, for the theory of journals.
-- An event of a journal is a move of the desk, and a move's event goes on with its journal.
use Rattle.std.proofs.Common.{◌≡◌, ℕ, ◌==◌, ◌&&◌, Bool, true, false, if◌then◌else◌, List, [], ◌∷◌, ◌++◌, length, Option, Some, None, refl, sym, ap, ◌∙◌, subst, arith}
use Rattle.std.specs.Prelude.{slice_get}
use Rattle.std.specs.Option.{option_map}
use Rattle.std.proofs.lemmas.Option.{slice_get_past}
use Rattle.hole_list.specs.declared.run.Run.{Run}
use Rattle.hole_list.specs.Placing.{Taken, take_run}
use Rattle.lease_desk.specs.declared.event.Event.{Event}
use Rattle.lease_desk.specs.declared.event.Event.TheVariants as event
use Rattle.lease_desk.specs.Journal.{DeskState, Move, move, took_left, gave, asked_for, next_move, left_with, first_left, is_none_out, left_move, give_lease, give_move, is_event, job_of, as_told, or_else, after_event, after_events, replay, opened}
use Rattle.hole_list.specs.PlacingLaws.{some_same}

-- ---- events

pub is_itself : (e : Event) → is_event e e ≡ true
is_itself (event.Took job first size) = grind arith
is_itself (event.Full job need most) = grind arith
is_itself (event.Gave job first size) = grind arith

three : (a b c a' b' c' : ℕ) → ((a == a') && ((b == b') && (c == c'))) ≡ true → (a ≡ a') × (b ≡ b') × (c ≡ c')
three a b c a' b' c' e = (grind arith, grind arith, grind arith)

pub event_same : (e e' : Event) → is_event e e' ≡ true → e ≡ e'
event_same (event.Took a b c) (event.Took a' b' c') e = let q = three a b c a' b' c' e in λ i. event.Took (q.0 i) (q.1 i) (q.2 i)
event_same (event.Took a b c) (event.Full a' b' c') e = absurd (grind arith)
event_same (event.Took a b c) (event.Gave a' b' c') e = absurd (grind arith)
event_same (event.Full a b c) (event.Took a' b' c') e = absurd (grind arith)
event_same (event.Full a b c) (event.Full a' b' c') e = let q = three a b c a' b' c' e in λ i. event.Full (q.0 i) (q.1 i) (q.2 i)
event_same (event.Full a b c) (event.Gave a' b' c') e = absurd (grind arith)
event_same (event.Gave a b c) (event.Took a' b' c') e = absurd (grind arith)
event_same (event.Gave a b c) (event.Full a' b' c') e = absurd (grind arith)
event_same (event.Gave a b c) (event.Gave a' b' c') e = let q = three a b c a' b' c' e in λ i. event.Gave (q.0 i) (q.1 i) (q.2 i)

pub told_itself : (e : Event) (s : DeskState) → as_told e (Some (move e s)) ≡ Some s
told_itself e s = ap (λ (b : Bool). if b then Some s else None) (is_itself e)

told_same : (e : Event) (o : Option Move) (s : DeskState) → as_told e o ≡ Some s → o ≡ Some (move e s)
told_same e None s is = absurd (grind arith)
told_same e (Some m) s is = by_test (is_event e m.event) refl is
  where
    by_test : (b : Bool) → is_event e m.event ≡ b → (if b then Some m.state else None) ≡ Some s → Some m ≡ Some (move e s)
    by_test true k is = λ i. Some (move (sym (event_same e m.event k) i) (some_same m.state s is i))
    by_test false k is = absurd (grind arith)

-- ---- a move for each event

pub data Moves (sizes : List ℕ) (s : DeskState) (m : Move) : Type 0 where
  next : next_move sizes s ≡ Some m → Moves sizes s m
  left : left_move sizes s ≡ Some m → Moves sizes s m
  back : (job : ℕ) → give_move s job ≡ Some m → Moves sizes s m

pub moved : (sizes : List ℕ) (s : DeskState) (e : Event) (t : DeskState) → after_event sizes s e ≡ Some t → Moves sizes s (move e t)
unfolding after_event
moved sizes s e t is = by_three (as_told e (next_move sizes s)) (as_told e (left_move sizes s)) (as_told e (give_move s (job_of e)))
    (λ k. next (told_same e (next_move sizes s) t k)) (λ k. left (told_same e (left_move sizes s) t k)) (λ k. back (job_of e) (told_same e (give_move s (job_of e)) t k)) is
  where
    by_three : (a b c : Option DeskState) → (a ≡ Some t → Moves sizes s (move e t)) → (b ≡ Some t → Moves sizes s (move e t))
        → (c ≡ Some t → Moves sizes s (move e t))
        → or_else a (or_else b c) ≡ Some t → Moves sizes s (move e t)
    by_three (Some x) b c f g h is = f is
    by_three None (Some x) c f g h is = g is
    by_three None None c f g h is = h is

pub after_next : (sizes : List ℕ) (s : DeskState) (e : Event) (t : DeskState) → next_move sizes s ≡ Some (move e t) → after_event sizes s e ≡ Some t
unfolding after_event
after_next sizes s e t is = ap (λ o. or_else o (or_else (as_told e (left_move sizes s)) (as_told e (give_move s (job_of e))))) (ap (as_told e) is ∙ told_itself e t)

none_left : (sizes : List ℕ) (s : DeskState) → s.asked ≡ length sizes → next_move sizes s ≡ None
none_left sizes s all = ap (option_map (λ size. asked_for s s.asked size (take_run s.holes size))) (slice_get_past sizes s.asked (omega (arith, all)))

pub after_left : (sizes : List ℕ) (s : DeskState) (e : Event) (t : DeskState) → s.asked ≡ length sizes → left_move sizes s ≡ Some (move e t)
    → after_event sizes s e ≡ Some t
unfolding after_event
after_left sizes s e t all is =
    ap (λ o. or_else (as_told e o) (or_else (as_told e (left_move sizes s)) (as_told e (give_move s (job_of e))))) (none_left sizes s all)
    ∙ ap (λ o. or_else o (as_told e (give_move s (job_of e)))) (ap (as_told e) is ∙ told_itself e t)

-- no other move tells that a lease came back
next_not_gave : (sizes : List ℕ) (s : DeskState) (job first size : ℕ) → as_told (event.Gave job first size) (next_move sizes s) ≡ None
next_not_gave sizes s job first size = by_size (slice_get sizes s.asked)
  where
    by_taken : (need : ℕ) (o : Option Taken) → as_told (event.Gave job first size) (Some (asked_for s s.asked need o)) ≡ None
    by_taken need None = refl
    by_taken need (Some t) = refl

    by_size : (o : Option ℕ) → as_told (event.Gave job first size) (option_map (λ n. asked_for s s.asked n (take_run s.holes n)) o) ≡ None
    by_size None = refl
    by_size (Some n) = by_taken n (take_run s.holes n)

left_not_gave : (sizes : List ℕ) (s : DeskState) (job first size : ℕ) → as_told (event.Gave job first size) (left_move sizes s) ≡ None
left_not_gave sizes s job first size = by_test ((s.asked == length sizes) && is_none_out s.leases) (by_waiting s.waiting)
  where
    by_taken : (ws : List ℕ) (j n : ℕ) (o : Option Taken)
        → as_told (event.Gave job first size) (option_map (λ t. move (event.Took j t.run.first n) (took_left s ws j t)) o) ≡ None
    by_taken ws j n None = refl
    by_taken ws j n (Some t) = refl

    by_size : (ws : List ℕ) (j : ℕ) (o : Option ℕ) → as_told (event.Gave job first size) (left_with s ws j o) ≡ None
    by_size ws j None = refl
    by_size ws j (Some n) = by_taken ws j n (take_run s.holes n)

    by_waiting : (ws : List ℕ) → as_told (event.Gave job first size) (first_left sizes s ws) ≡ None
    by_waiting [] = refl
    by_waiting (j ∷ ws) = by_size ws j (slice_get sizes j)

    by_test : (b : Bool) → as_told (event.Gave job first size) (first_left sizes s s.waiting) ≡ None
        → as_told (event.Gave job first size) (if b then first_left sizes s s.waiting else None) ≡ None
    by_test true k = k
    by_test false k = refl

pub after_back : (sizes : List ℕ) (s : DeskState) (job : ℕ) (r : Run) → slice_get s.leases job ≡ Some (Some r)
    → after_event sizes s (event.Gave job r.first r.size) ≡ Some (gave s job r)
unfolding after_event
after_back sizes s job r is =
    ap (λ o. or_else o (or_else (as_told (event.Gave job r.first r.size) (left_move sizes s)) (as_told (event.Gave job r.first r.size) (give_move s job)))) (next_not_gave sizes s job r.first r.size)
    ∙ ap (λ o. or_else o (as_told (event.Gave job r.first r.size) (give_move s job))) (left_not_gave sizes s job r.first r.size)
    ∙ ap (λ o. as_told (event.Gave job r.first r.size) (give_lease s job o)) is
    ∙ told_itself (event.Gave job r.first r.size) (gave s job r)

-- ---- journals

pub none_after : (sizes : List ℕ) (es : List Event) → after_events sizes None es ≡ None
none_after sizes [] = refl
none_after sizes (e ∷ es) = refl

-- one event more
pub one_more : (sizes : List ℕ) (s t u : DeskState) (es : List Event) (e : Event) → after_events sizes (Some s) es ≡ Some t → after_event sizes t e ≡ Some u
    → after_events sizes (Some s) (es ++ e ∷ []) ≡ Some u
one_more sizes s t u [] e is so = let same : s ≡ t = some_same s t is in subst (λ x. after_event sizes x e ≡ Some u) (sym same) so
one_more sizes s t u (f ∷ es) e is so = by_one (after_event sizes s f) (λ v k. one_more sizes v t u es e k so) is
  where
    by_one : (o : Option DeskState) → ((v : DeskState) → after_events sizes (Some v) es ≡ Some t → after_events sizes (Some v) (es ++ e ∷ []) ≡ Some u)
        → after_events sizes o es ≡ Some t → after_events sizes o (es ++ e ∷ []) ≡ Some u
    by_one None k is = absurd (let q : None ≡ Some t = sym (none_after sizes es) ∙ is in grind arith)
    by_one (Some v) k is = k v is

pub replay_more : (arena : ℕ) (sizes : List ℕ) (es : List Event) (t u : DeskState) (e : Event) → replay arena sizes es ≡ Some t → after_event sizes t e ≡ Some u
    → replay arena sizes (es ++ e ∷ []) ≡ Some u
unfolding replay
replay_more arena sizes es t u e is so = one_more sizes (opened arena (length sizes)) t u es e is so

-- a front has a replay where the whole has one
pub front_replayed : (sizes : List ℕ) (s t : DeskState) (es later : List Event) → after_events sizes (Some s) (es ++ later) ≡ Some t
    → (u : DeskState) × (after_events sizes (Some s) es ≡ Some u)
front_replayed sizes s t [] later is = (s, refl)
front_replayed sizes s t (e ∷ es) later is = by_one (after_event sizes s e) (λ v k. front_replayed sizes v t es later k) is
  where
    by_one : (o : Option DeskState) → ((v : DeskState) → after_events sizes (Some v) (es ++ later) ≡ Some t → (u : DeskState) × (after_events sizes (Some v) es ≡ Some u))
        → after_events sizes o (es ++ later) ≡ Some t → (u : DeskState) × (after_events sizes o es ≡ Some u)
    by_one None k is = absurd (let q : None ≡ Some t = sym (none_after sizes (es ++ later)) ∙ is in grind arith)
    by_one (Some v) k is = k v is
