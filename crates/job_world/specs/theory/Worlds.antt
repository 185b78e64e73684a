-- Laws, for the laws of the world.
-- What every world keeps: it holds at first, and each event keeps it.
use Rattle.std.proofs.Common.{◌≡◌, ℕ, zero, suc, ◌+◌, ◌<◌, ◌≤◌, List, [], ◌∷◌, ◌++◌, Bool, true, false, length, take, drop, replicate, Option, Some, None, refl, sym, ap, ◌∙◌, subst, arith, inl, inr}
use Rattle.std.specs.Prelude.{slice_get, slice_set, ◌⊎◌, IsSomeAnd}
use Rattle.std.specs.List.{AllByRecursion}
use Rattle.std.proofs.lemmas.Bool.{cases_eq, cases_lt}
use Rattle.std.proofs.lemmas.List.{length-set, length-replicate}
use Rattle.cell_span.specs.Range.{blank}
use Rattle.hole_list.specs.declared.run.Run.{Run}
use Rattle.hole_list.specs.PlacingLaws.{some_same}
use Rattle.lease_desk.specs.declared.event.Event.{Event}
use Rattle.lease_desk.specs.declared.event.Event.TheVariants as event
use Rattle.lease_desk.specs.Journal.{Move, gave, next_move, left_move, give_lease, after_event, replay, AreSizes, job_of}
use Rattle.lease_desk.specs.Progress.{IsSound}
use Rattle.lease_desk.specs.theory.Leases.{set_there}
use Rattle.lease_desk.specs.theory.Moves.{after_next, after_left, after_back, replay_more}
use Rattle.lease_desk.specs.theory.Sound.{sound_behind}
use Rattle.licence.specs.Licensed.{Licensed}
use Rattle.cell_machine.specs.Plans.{IsPlan}
use Rattle.cell_machine.specs.State.{Final, Machine, Running, Over, cells_of}
use Rattle.job_world.specs.Plans.{Plan, Planned, IsFit, AreFit, leases_of}
use Rattle.job_world.specs.Put.{put_at, Core, Going, Ended, machine_of, core_of, one_step}
use Rattle.job_world.specs.World.{Start, start_of, lone, Worker, World, WorldEvent, Next, Step, Give, first_world, told, loaded, gone_on, either_move, stepped, step_in, after_step, final_in, ended, give_in, after_give, after, behind, world}
use Rattle.job_world.specs.World as worlds
use Rattle.job_world.specs.Isolation.{CanHold, move_of, HasBegun, HasAsked, EndsAlone}
use Rattle.job_world.specs.theory.PutLaws.{put_get, put_length}
use Rattle.job_world.specs.theory.Alone.{Bare, bare_stepped, bare_step_in, bare_take, AreAlone, AreApart}
use Rattle.job_world.specs.theory.AloneLaws.{set_here, step_alone, take_alone, give_alone}
use Rattle.job_world.specs.theory.Desks.{leases_apart, lease_within, Takes, Waits, next_tells, left_tells}
use Rattle.job_world.specs.theory.Starting.{PlanAt, sized_plan, begins, start_is, runs, code_or, machine_or, starts_of, lone_or, goes_on, ends_alone}

abbrev pub bare : World → Bare
bare w = record { cells = w.cells; leases = w.desk.leases; workers = w.workers }

-- The cells are as many as the arena, and the desk is the one behind the journal. Each job has a place for its machine
-- and its end, and each lease a machine, which stands alone. What was filed is what the job's own plan comes to.
pub record IsWorld (arena : ℕ) (ps : Planned) (w : World) : Type 0 where
  pub many : length w.cells ≡ arena
  pub replayed : replay arena (leases_of ps.plans) w.journal ≡ Some w.desk
  pub places : length w.workers ≡ length ps.plans
  pub files : length w.filed ≡ length ps.plans
  pub working : (job : ℕ) (r : Run) → slice_get w.desk.leases job ≡ Some (Some r) → (k : Worker) × (slice_get w.workers job ≡ Some (Some k))
  pub alone : AreAlone (starts_of ps) (bare w)
  pub filed : (job : ℕ) (f : Final) → slice_get w.filed job ≡ Some (Some f) → EndsAlone ps job f

-- plans that an arena with a cell can hold
pub record Holds (arena : ℕ) (ps : Planned) : Type 0 where
  pub some : 1 ≤ arena
  pub fit : AreFit ps
  pub sizes : AreSizes arena (leases_of ps.plans)

abbrev is_full : Event → Bool
is_full (event.Full job need largest) = true
is_full e = false

not_took : {a b c d e f : ℕ} → event.Full a b c ≡ event.Took d e f → ⊥
not_took k = let n : true ≡ false = ap is_full k in absurd cc

-- ---- lists

none_there : {A : Type 0} (n i : ℕ) (x : A) → slice_get (replicate n None) i ≡ Some (Some x) → ⊥
none_there zero i x e = let k : None ≡ Some (Some x) = e in absurd cc
none_there (suc n) zero x e = let k : None ≡ Some x = some_same None (Some x) e in absurd cc
none_there (suc n) (suc i) x e = none_there n i x e

pub item_at : {A : Type 0} (xs : List A) (i : ℕ) → i < length xs → (x : A) × (slice_get xs i ≡ Some x)
item_at [] i h = absurd (omega (arith, h))
item_at (x ∷ xs) zero h = (x, refl)
item_at (x ∷ xs) (suc i) h = item_at xs i (omega (arith, h))

pub within : {A : Type 0} (xs : List A) (i : ℕ) (x : A) → slice_get xs i ≡ Some x → i < length xs
within [] i x e = let k : None ≡ Some x = e in absurd cc
within (y ∷ xs) zero x e = omega arith
within (y ∷ xs) (suc i) x e = omega (arith, within xs i x e)

-- ---- at first

opened_replayed : (arena : ℕ) (ps : Planned) → replay arena (leases_of ps.plans) [] ≡ Some (first_world arena ps).desk
unfolding replay
opened_replayed arena ps = refl

pub first_holds : (arena : ℕ) (ps : Planned) → IsWorld arena ps (first_world arena ps)
first_holds arena ps = record {
  many = length-replicate arena blank;
  replayed = opened_replayed arena ps;
  places = length-replicate (length ps.plans) None;
  files = length-replicate (length ps.plans) None;
  working = λ job r e. absurd (none_there (length (leases_of ps.plans)) job r e);
  alone = λ job r k e f. absurd (none_there (length (leases_of ps.plans)) job r e);
  filed = λ job f e. absurd (none_there (length ps.plans) job f e);
}

-- ---- each event

module _ (arena : ℕ) (ps : Planned) (can : Holds arena ps) (w : World) (k : IsWorld arena ps w) where
  sizes : List ℕ
  sizes = leases_of ps.plans

  pub sound : IsSound arena (leases_of ps.plans) w.journal w.desk
  sound = sound_behind arena (leases_of ps.plans) w.journal w.desk can.some can.sizes k.replayed

  pub apart_now : AreApart (bare w)
  apart_now = leases_apart arena (leases_of ps.plans) w.journal w.desk can.sizes sound

  -- ---- a step

  pub step_holds : (job : ℕ) → IsWorld arena ps (after_step ps w job)
  step_holds job = by_start (start_of ps job) refl (slice_get w.workers job) refl (slice_get w.desk.leases job) refl
    where
      still_working : (q x : Worker) → slice_get w.workers job ≡ Some (Some q) → (j : ℕ) (r : Run) → slice_get w.desk.leases j ≡ Some (Some r)
          → (y : Worker) × (slice_get (slice_set w.workers job (Some x)) j ≡ Some (Some y))
      still_working q x f j r e = by_job (cases_eq job j) (k.working j r e)
        where
          by_job : (job ≡ j) ⊎ (job ≡ j → ⊥) → ((y : Worker) × (slice_get w.workers j ≡ Some (Some y)))
              → (y : Worker) × (slice_get (slice_set w.workers job (Some x)) j ≡ Some (Some y))
          by_job (inl same) y = (x, sym (ap (slice_get (slice_set w.workers job (Some x))) same) ∙ set_here w.workers job (Some x) (Some q) f)
          by_job (inr ne) y = (y.0, set_there w.workers job j (Some x) ne ∙ y.1)

      by_step : (r : Run) (q : Worker) → slice_get w.workers job ≡ Some (Some q) → (o : Option Machine)
          → AreAlone (starts_of ps) (bare_stepped (bare w) job r.first q o) → IsWorld arena ps (stepped w job r.first q o)
      by_step r q f None h = k
      by_step r q f (Some m) h = record {
        many = put_length r.first (cells_of m) w.cells ∙ k.many;
        replayed = k.replayed;
        places = length-set w.workers job _ ∙ k.places;
        files = k.files;
        working = still_working q _ f;
        alone = h;
        filed = k.filed;
      }

      by_start : (o : Option Start) → start_of ps job ≡ o → (v : Option (Option Worker)) → slice_get w.workers job ≡ v → (l : Option (Option Run))
          → slice_get w.desk.leases job ≡ l → IsWorld arena ps (step_in w job o v l)
      by_start None e v f l g = k
      by_start (Some s) e None f l g = k
      by_start (Some s) e (Some None) f l g = k
      by_start (Some s) e (Some (Some q)) f None g = k
      by_start (Some s) e (Some (Some q)) f (Some None) g = k
      by_start (Some s) e (Some (Some q)) f (Some (Some r)) g =
          let a = step_alone (starts_of ps) (goes_on ps can.fit) (bare w) job k.alone apart_now in
          let b : AreAlone (starts_of ps) (bare_step_in (starts_of ps) (bare w) job (Some (Some q)) (slice_get w.desk.leases job)) = subst (λ o. AreAlone (starts_of ps) (bare_step_in (starts_of ps) (bare w) job o (slice_get w.desk.leases job))) f a in
          let c : AreAlone (starts_of ps) (bare_step_in (starts_of ps) (bare w) job (Some (Some q)) (Some (Some r))) = subst (λ o. AreAlone (starts_of ps) (bare_step_in (starts_of ps) (bare w) job (Some (Some q)) o)) g b in
          by_step r q f (one_step s.code (machine_of (drop r.first w.cells) q.core))
          (subst (λ o. AreAlone (starts_of ps) (bare_stepped (bare w) job r.first q (one_step (code_or o) (machine_of (drop r.first w.cells) q.core)))) e c)

  -- ---- asking

  behind_move : (m : Move) → after_event (leases_of ps.plans) w.desk m.event ≡ Some m.state
      → IsSound arena (leases_of ps.plans) (w.journal ++ m.event ∷ []) m.state
  behind_move m to = sound_behind arena (leases_of ps.plans) (w.journal ++ m.event ∷ []) m.state can.some can.sizes (replay_more arena (leases_of ps.plans) w.journal w.desk m.state m.event k.replayed to)

  waits_holds : (m : Move) → after_event (leases_of ps.plans) w.desk m.event ≡ Some m.state → Waits w.desk m
      → IsWorld arena ps (told ps (worlds.moved w m) m.event)
  waits_holds m to t =
      subst (λ e. IsWorld arena ps (told ps (worlds.moved w m) e)) (sym t.event_is)
      (record {
        many = k.many;
        replayed = replay_more arena (leases_of ps.plans) w.journal w.desk m.state m.event k.replayed to;
        places = k.places;
        files = k.files;
        working = λ job r e. k.working job r (sym (ap (λ l. slice_get l job) t.leases) ∙ e);
        alone = λ job r q e f. k.alone job r q (sym (ap (λ l. slice_get l job) t.leases) ∙ e) f;
        filed = k.filed;
      })

  takes_holds : (m : Move) → after_event (leases_of ps.plans) w.desk m.event ≡ Some m.state → Takes (leases_of ps.plans) w.desk m
      → IsWorld arena ps (told ps (worlds.moved w m) m.event)
  takes_holds m to t =
      subst (λ e. IsWorld arena ps (told ps (worlds.moved w m) e)) (sym t.event_is)
      (subst (λ o. IsWorld arena ps (loaded (worlds.moved w m) t.job t.run.first o)) (sym (start_is q.0))
      (record {
        many = put_length t.run.first (begins q.0).begins.cells w.cells ∙ k.many;
        replayed = replay_more arena (leases_of ps.plans) w.journal w.desk m.state m.event k.replayed to;
        places = length-set w.workers t.job _ ∙ k.places;
        files = k.files;
        working = now_working;
        alone = now_alone;
        filed = k.filed;
      }))
    where
      q : (q : PlanAt ps t.job) × (q.plan.lease ≡ t.size)
      q = sized_plan ps t.job t.size can.fit t.size_is

      first : Worker
      first = record { core = core_of (Running (begins q.0).begins); count = 0 }

      lease_place : (o : Option Run) × (slice_get w.desk.leases t.job ≡ Some o)
      lease_place = item_at w.desk.leases t.job (omega (arith, sound.places, within (leases_of ps.plans) t.job t.size t.size_is))

      worker_place : (o : Option Worker) × (slice_get w.workers t.job ≡ Some o)
      worker_place = item_at w.workers t.job (omega (arith, k.places, within ps.plans t.job q.0.plan q.0.is))

      here : slice_get m.state.leases t.job ≡ Some (Some t.run)
      here = ap (λ l. slice_get l t.job) t.leases ∙ set_here w.desk.leases t.job (Some t.run) lease_place.0 lease_place.1

      in_arena : t.run.first + t.run.size ≤ length w.cells
      in_arena = subst (λ n. t.run.first + t.run.size ≤ n) (sym k.many) (lease_within arena (leases_of ps.plans) (w.journal ++ m.event ∷ []) m.state can.sizes (behind_move m to) t.job t.run here)

      loads : length (begins q.0).begins.cells ≡ t.run.size
      loads = (runs q.0).size 0 ∙ q.1 ∙ sym t.fits

      loads_or : length (cells_of (machine_or (start_of ps t.job))) ≡ t.run.size
      loads_or = ap (λ o. length (cells_of (machine_or o))) (start_is q.0) ∙ loads

      apart_then : AreApart (bare_take (starts_of ps) (bare w) t.job t.run)
      apart_then = subst (λ l. AreApart (record { cells = w.cells; leases = l; workers = w.workers })) t.leases (leases_apart arena (leases_of ps.plans) (w.journal ++ m.event ∷ []) m.state can.sizes (behind_move m to))

      taken_alone : AreAlone (starts_of ps) (bare_take (starts_of ps) (bare w) t.job t.run)
      taken_alone = take_alone (starts_of ps) (bare w) t.job t.run lease_place.0 worker_place.0 lease_place.1 worker_place.1 loads_or in_arena k.alone apart_then

      now_alone : AreAlone (starts_of ps) (record { cells = put_at t.run.first (begins q.0).begins.cells w.cells; leases = m.state.leases; workers = slice_set w.workers t.job (Some first) })
      now_alone =
          subst (λ l. AreAlone (starts_of ps) (record { cells = put_at t.run.first (begins q.0).begins.cells w.cells; leases = l; workers = slice_set w.workers t.job (Some first) })) (sym t.leases)
          (subst (λ o. AreAlone (starts_of ps) (record { cells = put_at t.run.first (cells_of (machine_or o)) w.cells; leases = slice_set w.desk.leases t.job (Some t.run); workers = slice_set w.workers t.job (Some (record { core = core_of (machine_or o); count = 0 })) })) (start_is q.0) taken_alone)

      now_working : (j : ℕ) (r : Run) → slice_get m.state.leases j ≡ Some (Some r)
          → (y : Worker) × (slice_get (slice_set w.workers t.job (Some first)) j ≡ Some (Some y))
      now_working j r e = by_job (cases_eq t.job j)
        where
          by_job : (t.job ≡ j) ⊎ (t.job ≡ j → ⊥) → (y : Worker) × (slice_get (slice_set w.workers t.job (Some first)) j ≡ Some (Some y))
          by_job (inl same) = (first, sym (ap (slice_get (slice_set w.workers t.job (Some first))) same) ∙ set_here w.workers t.job (Some first) worker_place.0 worker_place.1)
          by_job (inr ne) =
              let y = k.working j r (sym (set_there w.desk.leases t.job j (Some t.run) ne) ∙ sym (ap (λ l. slice_get l j) t.leases) ∙ e) in
              (y.0, set_there w.workers t.job j (Some first) ne ∙ y.1)

  pub next_holds : IsWorld arena ps (worlds.after_next ps w)
  next_holds = by_next (next_move (leases_of ps.plans) w.desk) refl (left_move (leases_of ps.plans) w.desk) refl
    where
      by_told : (m : Move) → next_move (leases_of ps.plans) w.desk ≡ Some m → Takes (leases_of ps.plans) w.desk m ⊎ Waits w.desk m
          → IsWorld arena ps (told ps (worlds.moved w m) m.event)
      by_told m e (inl t) = takes_holds m (after_next (leases_of ps.plans) w.desk m.event m.state e) t
      by_told m e (inr t) = waits_holds m (after_next (leases_of ps.plans) w.desk m.event m.state e) t

      by_next : (o : Option Move) → next_move (leases_of ps.plans) w.desk ≡ o → (p : Option Move) → left_move (leases_of ps.plans) w.desk ≡ p
          → IsWorld arena ps (gone_on ps w (either_move o p))
      by_next None e None f = k
      by_next None e (Some m) f =
          let t = left_tells (leases_of ps.plans) w.desk m f in
          takes_holds m (after_left (leases_of ps.plans) w.desk m.event m.state t.all f) t.takes
      by_next (Some m) e p f = by_told m e (next_tells (leases_of ps.plans) w.desk m e)

  waits_asked : (m : Move) → Waits w.desk m → HasAsked ps w (told ps (worlds.moved w m) m.event) m
  waits_asked m t =
      subst (λ e. HasAsked ps w (told ps (worlds.moved w m) e) m) (sym t.event_is)
      (record {
        desk = refl;
        journal = refl;
        filed = refl;
        begun = λ job first size e. absurd (let f : event.Full t.job t.need t.largest ≡ event.Took job first size = sym t.event_is ∙ e in not_took f);
        frames = λ other none. refl;
        cells = λ index out. refl;
      })

  takes_asked : (m : Move) → Takes (leases_of ps.plans) w.desk m → HasAsked ps w (told ps (worlds.moved w m) m.event) m
  takes_asked m t =
      subst (λ e. HasAsked ps w (told ps (worlds.moved w m) e) m) (sym t.event_is)
      (subst (λ o. HasAsked ps w (loaded (worlds.moved w m) t.job t.run.first o) m) (sym (start_is q.0))
      (record {
        desk = refl;
        journal = refl;
        filed = refl;
        begun = λ job first size e. subst (HasBegun ps taken) (same_taken job first size e) has_begun;
        frames = λ other none. set_there w.workers t.job other (Some worker) (λ same. none t.run.first t.size (subst (λ n. m.event ≡ event.Took n t.run.first t.size) same t.event_is));
        cells = λ index out. put_get t.run.first (begins q.0).begins.cells w.cells index (outside index (out t.job t.run.first t.size t.event_is));
      }))
    where
      q : (q : PlanAt ps t.job) × (q.plan.lease ≡ t.size)
      q = sized_plan ps t.job t.size can.fit t.size_is

      worker : Worker
      worker = record { core = core_of (Running (begins q.0).begins); count = 0 }

      taken : World
      taken = record {
        cells = put_at t.run.first (begins q.0).begins.cells w.cells;
        desk = m.state;
        journal = w.journal ++ m.event ∷ [];
        workers = slice_set w.workers t.job (Some worker);
        filed = w.filed;
      }

      place : (o : Option Worker) × (slice_get w.workers t.job ≡ Some o)
      place = item_at w.workers t.job (omega (arith, k.places, within ps.plans t.job q.0.plan q.0.is))

      has_begun : HasBegun ps taken t.job
      has_begun = record { start = begins q.0; begins = start_is q.0; is = set_here w.workers t.job (Some worker) place.0 place.1 }

      same_taken : (job first size : ℕ) → m.event ≡ event.Took job first size → t.job ≡ job
      same_taken job first size e = ap job_of (sym t.event_is ∙ e)

      size_is : length (begins q.0).begins.cells ≡ t.size
      size_is = (runs q.0).size 0 ∙ q.1

      outside : (index : ℕ) → (t.run.first ≤ index → index < t.run.first + t.size → ⊥)
          → (index < t.run.first) ⊎ (t.run.first + length (begins q.0).begins.cells ≤ index)
      outside index out = by_first (cases_lt index t.run.first) (cases_lt index (t.run.first + t.size))
        where
          by_first : (index < t.run.first) ⊎ (t.run.first ≤ index) → (index < t.run.first + t.size) ⊎ (t.run.first + t.size ≤ index)
              → (index < t.run.first) ⊎ (t.run.first + length (begins q.0).begins.cells ≤ index)
          by_first (inl h) j = inl h
          by_first (inr h) (inl j) = absurd (out h j)
          by_first (inr h) (inr j) = inr (omega (arith, j, size_is))

  pub next_asked : (m : Move) → move_of ps w ≡ Some m → HasAsked ps w (worlds.after_next ps w) m
  next_asked m is = by_next (next_move (leases_of ps.plans) w.desk) refl (left_move (leases_of ps.plans) w.desk) refl is
    where
      by_told : (n : Move) → n ≡ m → HasAsked ps w (told ps (worlds.moved w n) n.event) n → HasAsked ps w (gone_on ps w (Some n)) m
      by_told n e h = subst (HasAsked ps w (gone_on ps w (Some n))) e h

      by_first : (n : Move) → Takes (leases_of ps.plans) w.desk n ⊎ Waits w.desk n → HasAsked ps w (told ps (worlds.moved w n) n.event) n
      by_first n (inl t) = takes_asked n t
      by_first n (inr t) = waits_asked n t

      by_next : (o : Option Move) → next_move (leases_of ps.plans) w.desk ≡ o → (p : Option Move) → left_move (leases_of ps.plans) w.desk ≡ p
          → either_move o p ≡ Some m → HasAsked ps w (gone_on ps w (either_move o p)) m
      by_next None e None f is = let none : None ≡ Some m = is in absurd cc
      by_next None e (Some n) f is = by_told n (some_same n m is) (takes_asked n (left_tells (leases_of ps.plans) w.desk n f).takes)
      by_next (Some n) e p f is = by_told n (some_same n m is) (by_first n (next_tells (leases_of ps.plans) w.desk n e))

  -- ---- giving back

  pub give_holds : (job : ℕ) → IsWorld arena ps (after_give w job)
  give_holds job = by_worker (slice_get w.workers job) refl (slice_get w.desk.leases job) refl
    where
      ended_holds : (q : Worker) (r : Run) → slice_get w.workers job ≡ Some (Some q) → slice_get w.desk.leases job ≡ Some (Some r) → (c : Core) → q.core ≡ c
          → IsWorld arena ps (ended w job c r (give_lease w.desk job (Some (Some r))))
      ended_holds q r f g (Going rest) e = k
      ended_holds q r f g (Ended end calls peak low) e = record {
        many = k.many;
        replayed = replay_more arena (leases_of ps.plans) w.journal w.desk (gave w.desk job r) (event.Gave job r.first r.size) k.replayed (after_back (leases_of ps.plans) w.desk job r g);
        places = length-set w.workers job None ∙ k.places;
        files = length-set w.filed job _ ∙ k.files;
        working = now_working;
        alone = give_alone (starts_of ps) (bare w) job (Some r) g k.alone;
        filed = now_filed;
      }
        where
          p : (p : PlanAt ps job) × (p.plan.lease ≡ r.size)
          p = sized_plan ps job r.size can.fit (sound.sized job r g)

          final : Final
          final = final_in w.cells r end calls peak low

          over : lone (begins p.0) q.count ≡ Over final
          over = sym (ap (λ o. lone_or o q.count) (start_is p.0)) ∙ sym (k.alone job r q g f).alone ∙ ap (machine_of (take r.size (drop r.first w.cells))) e

          file_place : (o : Option Final) × (slice_get w.filed job ≡ Some o)
          file_place = item_at w.filed job (omega (arith, k.files, within ps.plans job p.0.plan p.0.is))

          not_given : (j : ℕ) (s : Run) → slice_get (slice_set w.desk.leases job None) j ≡ Some (Some s) → job ≡ j → ⊥
          not_given j s is same =
              let z : None ≡ Some s = some_same None (Some s) (sym (set_here w.desk.leases job None (Some r) g) ∙ ap (slice_get (slice_set w.desk.leases job None)) same ∙ is) in
              absurd cc

          now_working : (j : ℕ) (s : Run) → slice_get (slice_set w.desk.leases job None) j ≡ Some (Some s)
              → (y : Worker) × (slice_get (slice_set w.workers job None) j ≡ Some (Some y))
          now_working j s is =
              let ne = not_given j s is in
              let y = k.working j s (sym (set_there w.desk.leases job j None ne) ∙ is) in
              (y.0, set_there w.workers job j None ne ∙ y.1)

          now_filed : (j : ℕ) (h : Final) → slice_get (slice_set w.filed job (Some final)) j ≡ Some (Some h) → EndsAlone ps j h
          now_filed j h is = by_job (cases_eq job j)
            where
              by_job : (job ≡ j) ⊎ (job ≡ j → ⊥) → EndsAlone ps j h
              by_job (inl same) =
                  let one : final ≡ h = some_same final h (some_same (Some final) (Some h) (sym (set_here w.filed job (Some final) file_place.0 file_place.1) ∙ ap (slice_get (slice_set w.filed job (Some final))) same ∙ is)) in
                  subst (λ n. EndsAlone ps n h) same (subst (EndsAlone ps job) one (ends_alone ps job q.count final p.0 over))
              by_job (inr ne) = k.filed j h (sym (set_there w.filed job j (Some final) ne) ∙ is)

      by_worker : (v : Option (Option Worker)) → slice_get w.workers job ≡ v → (l : Option (Option Run)) → slice_get w.desk.leases job ≡ l
          → IsWorld arena ps (give_in w job v l)
      by_worker None f l g = k
      by_worker (Some None) f l g = k
      by_worker (Some (Some q)) f None g = k
      by_worker (Some (Some q)) f (Some None) g = k
      by_worker (Some (Some q)) f (Some (Some r)) g = subst (λ l. IsWorld arena ps (ended w job q.core r (give_lease w.desk job l))) (sym g) (ended_holds q r f g q.core refl)

-- ---- behind all events

keeps : (arena : ℕ) (ps : Planned) → Holds arena ps → (w : World) (e : WorldEvent) → IsWorld arena ps w → IsWorld arena ps (after ps w e)
unfolding after
keeps arena ps can w Next k = next_holds arena ps can w k
keeps arena ps can w (Step job) k = step_holds arena ps can w k job
keeps arena ps can w (Give job) k = give_holds arena ps can w k job

behind_holds : (arena : ℕ) (ps : Planned) → Holds arena ps → (w : World) (es : List WorldEvent) → IsWorld arena ps w → IsWorld arena ps (behind ps w es)
behind_holds arena ps can w [] k = k
behind_holds arena ps can w (e ∷ es) k = behind_holds arena ps can (after ps w e) es (keeps arena ps can w e k)

pub world_holds : (arena : ℕ) (ps : Planned) (events : List WorldEvent) → Holds arena ps → IsWorld arena ps (world arena ps events)
unfolding world
world_holds arena ps events can = behind_holds arena ps can (first_world arena ps) events (first_holds arena ps)

-- ---- an arena without a cell

-- a lease has at least one cell
some_cell : (licences : List Licensed) (p : Plan) → IsFit licences p → 1 ≤ p.lease
some_cell licences p fit = by_licence (slice_get licences p.licence) fit.plan
  where
    by_licence : (o : Option Licensed) → IsSomeAnd o (λ l. IsPlan l p.entry p.args p.fuel p.lease) → 1 ≤ p.lease
    by_licence None h = absurd h
    by_licence (Some l) h = omega (arith, h.lease)

sizes_hold : (arena : ℕ) (licences : List Licensed) (plans : List Plan) → AllByRecursion (IsFit licences) plans
    → AllByRecursion (λ p. p.lease ≤ arena) plans → AreSizes arena (leases_of plans)
sizes_hold arena licences [] fit h = fit
sizes_hold arena licences (p ∷ plans) fit h = ((some_cell licences p fit.0, h.0), sizes_hold arena licences plans fit.1 h.1)

-- the arena has a cell, or there are no plans
pub holds : (arena : ℕ) (ps : Planned) → CanHold arena ps → Holds arena ps ⊎ (ps.plans ≡ [])
holds arena ps can = by_arena (cases_lt 0 arena)
  where
    by_plans : (plans : List Plan) → AllByRecursion (IsFit ps.licences) plans → AllByRecursion (λ p. p.lease ≤ arena) plans → arena ≤ 0 → plans ≡ []
    by_plans [] fit h none = refl
    by_plans (p ∷ plans) fit h none = absurd (omega (arith, some_cell ps.licences p fit.0, h.0, none))

    by_arena : (0 < arena) ⊎ (arena ≤ 0) → Holds arena ps ⊎ (ps.plans ≡ [])
    by_arena (inl some) = inl (record { some = some; fit = can.fit; sizes = sizes_hold arena ps.licences ps.plans can.fit can.within })
    by_arena (inr none) = inr (by_plans ps.plans can.fit can.within none)

none_steps : (w : World) (job : ℕ) (s : Option Start) (l : Option (Option Run)) → step_in w job s None l ≡ w
none_steps w job None l = refl
none_steps w job (Some s) l = refl

stays_with : (arena : ℕ) (licences : List Licensed) (e : WorldEvent) → after (record { licences = licences; plans = [] }) (first_world arena (record { licences = licences; plans = [] })) e ≡ first_world arena (record { licences = licences; plans = [] })
unfolding after
stays_with arena licences Next = refl
stays_with arena licences (Step job) = none_steps (first_world arena (record { licences = licences; plans = [] })) job (start_of (record { licences = licences; plans = [] }) job) None
stays_with arena licences (Give job) = refl

-- without plans nothing happens
pub first_stays : (arena : ℕ) (ps : Planned) (e : WorldEvent) → ps.plans ≡ [] → after ps (first_world arena ps) e ≡ first_world arena ps
first_stays arena ps e none = subst (λ plans. after (record { licences = ps.licences; plans = plans }) (first_world arena (record { licences = ps.licences; plans = plans })) e ≡ first_world arena (record { licences = ps.licences; plans = plans })) (sym none) (stays_with arena ps.licences e)

behind_first : (arena : ℕ) (ps : Planned) (events : List WorldEvent) → ps.plans ≡ [] → behind ps (first_world arena ps) events ≡ first_world arena ps
behind_first arena ps [] none = refl
behind_first arena ps (e ∷ events) none = ap (λ w. behind ps w events) (first_stays arena ps e none) ∙ behind_first arena ps events none

pub world_stays : (arena : ℕ) (ps : Planned) (events : List WorldEvent) → ps.plans ≡ [] → world arena ps events ≡ first_world arena ps
unfolding world
world_stays arena ps events none = behind_first arena ps events none

pub none_out : (arena : ℕ) (ps : Planned) (events : List WorldEvent) (job : ℕ) (r : Run) → ps.plans ≡ []
    → slice_get (world arena ps events).desk.leases job ≡ Some (Some r) → ⊥
none_out arena ps events job r none e = none_there (length (leases_of ps.plans)) job r (sym (ap (λ (w : World). slice_get w.desk.leases job) (world_stays arena ps events none)) ∙ e)

pub none_filed : (arena : ℕ) (ps : Planned) (events : List WorldEvent) (job : ℕ) (f : Final) → ps.plans ≡ []
    → slice_get (world arena ps events).filed job ≡ Some (Some f) → ⊥
none_filed arena ps events job f none e = none_there (length ps.plans) job f (sym (ap (λ (w : World). slice_get w.filed job) (world_stays arena ps events none)) ∙ e)

pub none_asked : (arena : ℕ) (ps : Planned) (events : List WorldEvent) (m : Move) → ps.plans ≡ [] → move_of ps (world arena ps events) ≡ Some m → ⊥
none_asked arena ps events m none e =
    moves_none ps.plans none (sym (ap (move_of ps) (world_stays arena ps events none)) ∙ e)
  where
    moves_none : (plans : List Plan) → plans ≡ [] → move_of (record { licences = ps.licences; plans = plans }) (first_world arena (record { licences = ps.licences; plans = plans })) ≡ Some m → ⊥
    moves_none [] is e = let k : None ≡ Some m = e in absurd cc
    moves_none (p ∷ plans) is e = let k : suc (length plans) ≡ 0 = ap (λ (ps : List Plan). length ps) is in absurd (omega (arith, k))

-- ---- one event more

behind_more : (ps : Planned) (w : World) (events : List WorldEvent) (e : WorldEvent) → behind ps w (events ++ e ∷ []) ≡ after ps (behind ps w events) e
behind_more ps w [] e = refl
behind_more ps w (f ∷ events) e = behind_more ps (after ps w f) events e

pub world_more : (arena : ℕ) (ps : Planned) (events : List WorldEvent) (e : WorldEvent) → world arena ps (events ++ e ∷ []) ≡ after ps (world arena ps events) e
unfolding world
world_more arena ps events e = behind_more ps (first_world arena ps) events e
