-- Laws, for the functions of laws.rt.
-- A journal that comes to something goes on to a legal one: what is out goes back, then each job that wasn't asked for
-- is taken and goes back, and then each that waits.
use Rattle.std.proofs.Common.{◌≡◌, ℕ, zero, suc, ◌+◌, ◌-◌, ◌<◌, ◌≤◌, nat_le, ◌&&◌, Bool, true, false, if◌then◌else◌, ◌⊎◌, inl, inr, List, [], ◌∷◌, ◌++◌, length, get_or, Option, Some, None, refl, sym, ap, ◌∙◌, subst, arith, append_assoc, append-nil}
use Rattle.std.specs.Prelude.{slice_get, slice_set}
use Rattle.std.specs.Option.{option_map}
use Rattle.std.proofs.lemmas.Bool.{cases_lt}
use Rattle.std.proofs.lemmas.Bool.Decides.{nat_tests}
use Rattle.std.proofs.lemmas.Option.{slice_get_within, slice_get-get_or}
use Rattle.hole_list.specs.declared.run.Run.{Run}
use Rattle.hole_list.specs.Placing.{Taken, take_run}
use Rattle.lease_desk.specs.declared.event.Event.{Event}
use Rattle.lease_desk.specs.declared.event.Event.TheVariants as event
use Rattle.lease_desk.specs.Journal.{DeskState, leased, took_next, took_left, gave, after_event, replay, AreSizes, IsLegal}
use Rattle.lease_desk.specs.Progress.{IsSound}
use Rattle.lease_desk.specs.theory.Leases.{sum_out, sum_back, sum_length, set_here}
use Rattle.lease_desk.specs.theory.Moves.{after_next, after_left, after_back, replay_more}
use Rattle.lease_desk.specs.theory.Sound.{sound_behind, not_yet, waits_at, next_is, left_is, left_fits}
use Rattle.lease_desk.specs.JournalLaws.{legal_fronts}
use Rattle.journal_replay.specs.Replaying.{Told, are_sizes, told_in, replayed}

no_items : {A : Type 0} (xs : List A) → length xs ≡ 0 → xs ≡ []
no_items [] h = refl
no_items (x ∷ xs) h = absurd (omega (arith, h))

-- a lease that went out and came back
none_again : (ls : List (Option Run)) (job : ℕ) (r : Run) → slice_get ls job ≡ Some None → leased ls ≡ []
    → leased (slice_set (slice_set ls job (Some r)) job None) ≡ []
none_again ls job r free none =
    let within = slice_get_within ls job None free in
    let out = sum_out (λ q. 1) ls job r free in
    let back = sum_back (λ q. 1) (slice_set ls job (Some r)) job r (set_here ls job (Some r) within) in
    let before = ap (λ (rs : List Run). length rs) none in
    no_items (leased (slice_set (slice_set ls job (Some r)) job None))
    (omega (arith, out, back, before, sum_length (leased ls), sum_length (leased (slice_set (slice_set ls job (Some r)) job None))))

-- the first lease that is out
first_out : (ls : List (Option Run)) (n : ℕ) → length (leased ls) ≡ suc n → (job : ℕ) × ((r : Run) × (slice_get ls job ≡ Some (Some r)))
first_out [] n h = absurd (omega (arith, h))
first_out (None ∷ ls) n h = let f = first_out ls n h in (suc f.0, f.1)
first_out (Some r ∷ ls) n h = (0, (r, refl))

module _ (arena : ℕ) (sizes : List ℕ) (some : 1 ≤ arena) (fit : AreSizes arena sizes) where
  abbrev Goes : List Event → Type 0
  Goes es = (later : List Event) × IsLegal arena sizes (es ++ later)

  abbrev Rest : ℕ → Type 0
  Rest n = (es : List Event) (s : DeskState) → replay arena sizes es ≡ Some s → leased s.leases ≡ [] → (length sizes - s.asked) + length s.waiting ≤ n → Goes es

  longer : (es : List Event) (e : Event) → Goes (es ++ e ∷ []) → Goes es
  longer es e g = (e ∷ g.0, subst (λ l. IsLegal arena sizes l) (append_assoc es (e ∷ []) g.0) g.1)

  over : (es : List Event) (s : DeskState) → replay arena sizes es ≡ Some s → leased s.leases ≡ [] → s.asked ≡ length sizes → s.waiting ≡ [] → Goes es
  over es s is none all waits =
      ([], subst (λ l. IsLegal arena sizes l) (sym (append-nil es)) (record { fit = fit; last = s; replayed = is; over = record { all = all; none_waits = waits; none_out = none } }))

  -- a job is taken, and goes back at once
  round : (n : ℕ) → Rest n → (es : List Event) (s s' : DeskState) (job size : ℕ) (t : Taken) → replay arena sizes es ≡ Some s → leased s.leases ≡ []
      → slice_get s.leases job ≡ Some None
      → s'.leases ≡ slice_set s.leases job (Some t.run) → after_event sizes s (event.Took job t.run.first size) ≡ Some s' → (length sizes - s'.asked) + length s'.waiting ≤ n → Goes es
  round n go es s s' job size t is none free set took few =
      let e = event.Took job t.run.first size in
      let e' = event.Gave job t.run.first t.run.size in
      let after = replay_more arena sizes es s s' e is took in
      let within = slice_get_within s.leases job None free in
      let here : slice_get s'.leases job ≡ Some (Some t.run) = ap (λ ls. slice_get ls job) set ∙ set_here s.leases job (Some t.run) within in
      let back = replay_more arena sizes (es ++ e ∷ []) s' (gave s' job t.run) e' after (after_back sizes s' job t.run here) in
      longer es e (longer (es ++ e ∷ []) e' (go ((es ++ e ∷ []) ++ e' ∷ []) (gave s' job t.run) back (ap (λ ls. leased (slice_set ls job None)) set ∙ none_again s.leases job t.run free none) few))

  ask : (n : ℕ) → Rest n → (es : List Event) (s : DeskState) → replay arena sizes es ≡ Some s → leased s.leases ≡ [] → s.asked < length sizes
      → (length sizes - s.asked) + length s.waiting ≤ suc n → Goes es
  ask n go es s is none less few = by_take (take_run s.holes size) refl
    where
      size : ℕ
      size = get_or sizes s.asked 0

      sound : IsSound arena sizes es s
      sound = sound_behind arena sizes es s some fit is

      by_take : (o : Option Taken) → take_run s.holes (get_or sizes s.asked 0) ≡ o → Goes es
      by_take None fits = absurd (left_fits arena sizes es s s.asked (get_or sizes s.asked 0) some (sound_behind arena sizes es s some fit is) fit none (slice_get-get_or sizes s.asked 0 less) fits)
      by_take (Some t) fits =
          round n go es s (took_next s s.asked t) s.asked (get_or sizes s.asked 0) t is none (not_yet arena sizes es s (sound_behind arena sizes es s some fit is) less).0 refl
          (after_next sizes s (event.Took s.asked t.run.first (get_or sizes s.asked 0)) (took_next s s.asked t) (next_is sizes s (get_or sizes s.asked 0) (Some t) (slice_get-get_or sizes s.asked 0 less) fits))
          (omega (arith, less, few))

  wait : (n : ℕ) → Rest n → (es : List Event) (s : DeskState) (job : ℕ) (ws : List ℕ) → replay arena sizes es ≡ Some s → leased s.leases ≡ []
      → s.asked ≡ length sizes → s.waiting ≡ job ∷ ws
      → (length sizes - s.asked) + length s.waiting ≤ suc n → Goes es
  wait n go es s job ws is none all waits few = by_take (take_run s.holes (get_or sizes job 0)) refl
    where
      there : (job < s.asked) × (slice_get s.leases job ≡ Some None)
      there = let w = waits_at arena sizes es s (sound_behind arena sizes es s some fit is) job ws waits in (w.0, w.1)

      sized : slice_get sizes job ≡ Some (get_or sizes job 0)
      sized = slice_get-get_or sizes job 0 (let w = (waits_at arena sizes es s (sound_behind arena sizes es s some fit is) job ws waits).0 in omega (arith, w, all))

      by_take : (o : Option Taken) → take_run s.holes (get_or sizes job 0) ≡ o → Goes es
      by_take None fits = absurd (left_fits arena sizes es s job (get_or sizes job 0) some (sound_behind arena sizes es s some fit is) fit none sized fits)
      by_take (Some t) fits =
          round n go es s (took_left s ws job t) job (get_or sizes job 0) t is none there.1 refl
          (after_left sizes s (event.Took job t.run.first (get_or sizes job 0)) (took_left s ws job t) all (left_is sizes s job (get_or sizes job 0) ws t all none waits sized fits))
          (let one = ap (λ (l : List ℕ). length l) waits in omega (arith, few, one))

  rest_of : (n : ℕ) → Rest n → Rest (suc n)
  rest_of n go es s is none few = by_asked (cases_lt s.asked (length sizes))
    where
      by_waiting : (ws : List ℕ) → s.waiting ≡ ws → s.asked ≡ length sizes → Goes es
      by_waiting [] waits all = over es s is none all waits
      by_waiting (job ∷ ws) waits all = wait n go es s job ws is none all waits few

      by_asked : (s.asked < length sizes) ⊎ (length sizes ≤ s.asked) → Goes es
      by_asked (inl less) = ask n go es s is none less few
      by_asked (inr least) = let most = (sound_behind arena sizes es s some fit is).most in by_waiting s.waiting refl (omega (arith, least, most))

  last_of : Rest zero
  last_of es s is none few =
      let most = (sound_behind arena sizes es s some fit is).most in
      over es s is none (omega (arith, few, most)) (no_items s.waiting (omega (arith, few)))

  rests : (n : ℕ) → Rest n
  rests zero = last_of
  rests (suc n) = rest_of n (rests n)

  -- what is out goes back first
  backs : (k : ℕ) (es : List Event) (s : DeskState) → replay arena sizes es ≡ Some s → length (leased s.leases) ≡ k → Goes es
  backs zero es s is out = rests ((length sizes - s.asked) + length s.waiting) es s is (no_items (leased s.leases) out) (omega arith)
  backs (suc k) es s is out =
      let f = first_out s.leases k out in
      let e = event.Gave f.0 f.1.0.first f.1.0.size in
      let after = replay_more arena sizes es s (gave s f.0 f.1.0) e is (after_back sizes s f.0 f.1.0 f.1.1) in
      let fewer = sum_back (λ q. 1) s.leases f.0 f.1.0 f.1.1 in
      longer es e (backs k (es ++ e ∷ []) (gave s f.0 f.1.0) after (omega (arith, fewer, out, sum_length (leased s.leases), sum_length (leased (slice_set s.leases f.0 None)))))

sizes_fit : (arena : ℕ) (sizes : List ℕ) → are_sizes arena sizes ≡ true → AreSizes arena sizes
sizes_fit arena [] h = tt
sizes_fit arena (size ∷ sizes) h = by_tests (nat_le 1 size) (nat_le size arena) (are_sizes arena sizes) refl refl (λ k. sizes_fit arena sizes k) h
  where
    by_tests : (a b c : Bool) → nat_le 1 size ≡ a → nat_le size arena ≡ b → (c ≡ true → AreSizes arena sizes) → ((a && b) && c) ≡ true
        → ((1 ≤ size) × (size ≤ arena)) × AreSizes arena sizes
    by_tests true true c p q go k = ((grind (arith, nat_tests, p), grind (arith, nat_tests, q)), go k)
    by_tests true false c p q go k = absurd (grind arith)
    by_tests false b c p q go k = absurd (grind arith)

fit_sizes : (arena : ℕ) (sizes : List ℕ) → AreSizes arena sizes → are_sizes arena sizes ≡ true
fit_sizes arena [] h = refl
fit_sizes arena (size ∷ sizes) h =
    let a : nat_le 1 size ≡ true = (let some = h.0.0 in grind (arith, nat_tests, some)) in
    let b : nat_le size arena ≡ true = (let most = h.0.1 in grind (arith, nat_tests, most)) in
    ap (λ t. (t && nat_le size arena) && are_sizes arena sizes) a ∙ ap (λ t. t && are_sizes arena sizes) b ∙ fit_sizes arena sizes h.1

pub goes_on : (arena : ℕ) (sizes : List ℕ) (journal : List Event) (told : Told) → 1 ≤ arena → replayed arena sizes journal ≡ Some told
    → (later : List Event) × IsLegal arena sizes (journal ++ later)
goes_on arena sizes journal told some is = by_test (are_sizes arena sizes) refl is
  where
    by_state : are_sizes arena sizes ≡ true → (o : Option DeskState) → replay arena sizes journal ≡ o → option_map told_in o ≡ Some told
        → (later : List Event) × IsLegal arena sizes (journal ++ later)
    by_state fit None k q = absurd (let r : None ≡ Some told = q in grind arith)
    by_state fit (Some s) k q = backs arena sizes some (sizes_fit arena sizes fit) (length (leased s.leases)) journal s k refl

    by_test : (b : Bool) → are_sizes arena sizes ≡ b → (if b then option_map told_in (replay arena sizes journal) else None) ≡ Some told
        → (later : List Event) × IsLegal arena sizes (journal ++ later)
    by_test true fit q = by_state fit (replay arena sizes journal) refl q
    by_test false fit q = absurd (let r : None ≡ Some told = q in grind arith)

pub comes_to : (arena : ℕ) (sizes : List ℕ) (journal later : List Event) → IsLegal arena sizes (journal ++ later)
    → (told : Told) × (replayed arena sizes journal ≡ Some told)
comes_to arena sizes journal later legal =
    let f = legal_fronts arena sizes journal later legal in
    (told_in f.0, ap (λ b. if b then option_map told_in (replay arena sizes journal) else None) (fit_sizes arena sizes legal.fit) ∙ ap (option_map told_in) f.1)
