-- Laws, for the function of isolation.rt.
-- What holds in each world, from what every world keeps.
use Rattle.std.proofs.Common.{◌≡◌, ℕ, suc, ◌+◌, ◌<◌, ◌≤◌, List, [], length, take, drop, Option, Some, None, refl, sym, ap, ◌∙◌, subst, arith, inl, inr}
use Rattle.std.specs.Prelude.{slice_get, ◌⊎◌}
use Rattle.std.proofs.lemmas.Bool.{cases_lt}
use Rattle.std.proofs.lemmas.List.{length-replicate}
use Rattle.cell_span.specs.declared.cell.Cell.{Cell}
use Rattle.cell_span.specs.Range.{blank}
use Rattle.grail_code.specs.Code.{Func}
use Rattle.hole_list.specs.declared.run.Run.{Run}
use Rattle.hole_list.specs.Placing.{times_in, total}
use Rattle.lease_desk.specs.Journal.{Move, give_lease, give_move}
use Rattle.lease_desk.specs.theory.Leases.{set_there}
use Rattle.lease_desk.specs.theory.Sound.{none_leased}
use Rattle.licence.specs.Licensed.{Licensed}
use Rattle.cell_machine.specs.State.{End, Final, Machine, cells_of}
use Rattle.job_world.specs.Plans.{Plan, Planned, leases_of}
use Rattle.job_world.specs.Put.{Rest, Core, Going, Ended, machine_of, core_of, one_step}
use Rattle.job_world.specs.World.{Start, start_in, start_with, start_at, start_of, Worker, World, WorldEvent, Next, Step, Give, first_world, gone_on, stepped, step_in, after_step, final_in, ended, give_in, after_give, after, world}
use Rattle.job_world.specs.World as worlds
use Rattle.job_world.specs.Isolation.{CanHold, LieApart, IsAlone, IsOutside, StepsApart, HasGoneOn, HasGivenBack, move_of, HasAsked, EndsAlone, HaveSamePlan, AreEqual}
use Rattle.job_world.specs.theory.PutLaws.{put_get}
use Rattle.job_world.specs.theory.AloneLaws.{set_here, has_step, step_puts}
use Rattle.job_world.specs.theory.Starting.{sized_plan, begins, start_is, code_or, starts_of, lone_or, goes_on}
use Rattle.job_world.specs.theory.Worlds.{bare, IsWorld, Holds, item_at, within, first_holds, sound, apart_now, next_asked, world_holds, holds, first_stays, world_stays, none_out, none_filed, none_asked}

-- ---- apart, alone and filed

first_apart : (arena : ℕ) (ps : Planned) → ps.plans ≡ [] → LieApart arena ps (first_world arena ps)
first_apart arena ps none = record {
  size = length-replicate arena blank;
  parts = λ i. omega (arith, ap (λ (rs : List Run). times_in rs i) (none_leased (length (leases_of ps.plans))));
  sum = omega (arith, ap (λ (rs : List Run). total rs) (none_leased (length (leases_of ps.plans))));
  replayed = (first_holds arena ps).replayed;
}

pub lie_apart : (arena : ℕ) (ps : Planned) (events : List WorldEvent) → CanHold arena ps → LieApart arena ps (world arena ps events)
lie_apart arena ps events can = by_plans (holds arena ps can)
  where
    by_plans : Holds arena ps ⊎ (ps.plans ≡ []) → LieApart arena ps (world arena ps events)
    by_plans (inl h) =
        let k = world_holds arena ps events h in
        let s = sound arena ps h (world arena ps events) k in
        record { size = k.many; parts = s.cells; sum = s.sum; replayed = k.replayed }
    by_plans (inr none) = subst (LieApart arena ps) (sym (world_stays arena ps events none)) (first_apart arena ps none)

alone_in : (arena : ℕ) (ps : Planned) (events : List WorldEvent) (job : ℕ) (r : Run) → Holds arena ps
    → slice_get (world arena ps events).desk.leases job ≡ Some (Some r) → IsAlone ps (world arena ps events) job r
alone_in arena ps events job r can g =
    let k = world_holds arena ps events can in
    let s = sound arena ps can (world arena ps events) k in
    let q = sized_plan ps job r.size can.fit (s.sized job r g) in
    let y = k.working job r g in
    record {
      start = begins q.0;
      begins = start_is q.0;
      worker = y.0;
      is = y.1;
      alone = (k.alone job r y.0 g y.1).alone ∙ ap (λ o. lone_or o y.0.count) (start_is q.0);
    }

pub is_alone : (arena : ℕ) (ps : Planned) (events : List WorldEvent) (job : ℕ) (r : Run) → CanHold arena ps
    → slice_get (world arena ps events).desk.leases job ≡ Some (Some r) → IsAlone ps (world arena ps events) job r
is_alone arena ps events job r can g = by_plans (holds arena ps can)
  where
    by_plans : Holds arena ps ⊎ (ps.plans ≡ []) → IsAlone ps (world arena ps events) job r
    by_plans (inl h) = alone_in arena ps events job r h g
    by_plans (inr none) = absurd (none_out arena ps events job r none g)

pub filed_alone : (arena : ℕ) (ps : Planned) (events : List WorldEvent) (job : ℕ) (f : Final) → CanHold arena ps
    → slice_get (world arena ps events).filed job ≡ Some (Some f) → EndsAlone ps job f
filed_alone arena ps events job f can e = by_plans (holds arena ps can)
  where
    by_plans : Holds arena ps ⊎ (ps.plans ≡ []) → EndsAlone ps job f
    by_plans (inl h) = (world_holds arena ps events h).filed job f e
    by_plans (inr none) = absurd (none_filed arena ps events job f none e)

-- ---- a step leaves alone what isn't its own

nothing_new : (w : World) (job : ℕ) → StepsApart w w job
nothing_new w job = record { cells = λ index out. refl; frames = λ other ne. refl; filed = refl; desk = refl; journal = refl }

module _ (arena : ℕ) (ps : Planned) (can : Holds arena ps) (w : World) (k : IsWorld arena ps w) (job : ℕ) where
  outside_of : (r : Run) → slice_get w.desk.leases job ≡ Some (Some r) → (size index : ℕ) → size ≡ r.size → IsOutside w job index
      → (index < r.first) ⊎ (r.first + size ≤ index)
  outside_of r g size index n out = by_first (cases_lt index r.first) (cases_lt index (r.first + size))
    where
      by_first : (index < r.first) ⊎ (r.first ≤ index) → (index < r.first + size) ⊎ (r.first + size ≤ index) → (index < r.first) ⊎ (r.first + size ≤ index)
      by_first (inl h) j = inl h
      by_first (inr h) (inr j) = inr j
      by_first (inr h) (inl j) = absurd (out r g h (omega (arith, j, n)))

  by_step : (s : Start) → start_of ps job ≡ Some s → (q : Worker) → slice_get w.workers job ≡ Some (Some q) → (r : Run)
      → slice_get w.desk.leases job ≡ Some (Some r)
      → (o : Option Machine) → one_step s.code (machine_of (drop r.first w.cells) q.core) ≡ o → StepsApart w (stepped w job r.first q o) job
  by_step s e q f r g None is = nothing_new w job
  by_step s e q f r g (Some m) is =
      let own = k.alone job r q g f in
      let code : code_or (start_of ps job) ≡ s.code = ap code_or e in
      let puts = step_puts (starts_of ps) (goes_on ps can.fit) (bare w) job r q g f own k.alone (apart_now arena ps can w k) m (ap (λ c. one_step c (machine_of (drop r.first w.cells) q.core)) code ∙ is) in
      record {
        cells = λ index out. ap (λ l. slice_get l index) puts.2 ∙ put_get r.first (cells_of puts.0) w.cells index (outside_of r g (length (cells_of puts.0)) index puts.1 out);
        frames = λ other ne. set_there w.workers job other _ (λ same. ne (sym same));
        filed = refl;
        desk = refl;
        journal = refl;
      }

  steps_apart : StepsApart w (after_step ps w job) job
  steps_apart = by_start (start_of ps job) refl (slice_get w.workers job) refl (slice_get w.desk.leases job) refl
    where
      by_start : (o : Option Start) → start_of ps job ≡ o → (v : Option (Option Worker)) → slice_get w.workers job ≡ v → (l : Option (Option Run))
          → slice_get w.desk.leases job ≡ l → StepsApart w (step_in w job o v l) job
      by_start None e v f l g = nothing_new w job
      by_start (Some s) e None f l g = nothing_new w job
      by_start (Some s) e (Some None) f l g = nothing_new w job
      by_start (Some s) e (Some (Some q)) f None g = nothing_new w job
      by_start (Some s) e (Some (Some q)) f (Some None) g = nothing_new w job
      by_start (Some s) e (Some (Some q)) f (Some (Some r)) g = by_step s e q f r g (one_step s.code (machine_of (drop r.first w.cells) q.core)) refl

  -- ---- a step of a machine that isn't over, and a lease that goes back

  goes_on_by : (r : Run) → slice_get w.desk.leases job ≡ Some (Some r) → (q : Worker) → slice_get w.workers job ≡ Some (Some q) → (rest : Rest)
      → q.core ≡ Going rest → HasGoneOn (after_step ps w job) job q
  goes_on_by r g q f rest core =
      let t = sized_plan ps job r.size can.fit ((sound arena ps can w k).sized job r g) in
      let own = k.alone job r q g f in
      let has = has_step (starts_of ps) (goes_on ps can.fit) (bare w) job r q g f own k.alone (apart_now arena ps can w k) rest core in
      let code : (begins t.0).code ≡ code_or (start_of ps job) = sym (ap code_or (start_is t.0)) in
      let one : one_step (begins t.0).code (machine_of (drop r.first w.cells) q.core) ≡ Some has.0 = ap (λ c. one_step c (machine_of (drop r.first w.cells) q.core)) code ∙ has.1 in
      let now : after_step ps w job ≡ stepped w job r.first q (Some has.0) =
      ap (λ o. step_in w job o (slice_get w.workers job) (slice_get w.desk.leases job)) (start_is t.0)
      ∙ ap (λ o. step_in w job (Some (begins t.0)) o (slice_get w.desk.leases job)) f
      ∙ ap (λ o. step_in w job (Some (begins t.0)) (Some (Some q)) o) g
      ∙ ap (stepped w job r.first q) one in
      subst (λ v. HasGoneOn v job q) (sym now)
      (record {
        worker = record { core = core_of has.0; count = suc q.count };
        is = set_here w.workers job (Some (record { core = core_of has.0; count = suc q.count })) (Some q) f;
        more = refl;
      })

  gives_back_by : (r : Run) → slice_get w.desk.leases job ≡ Some (Some r) → (q : Worker) → slice_get w.workers job ≡ Some (Some q)
      → (end : End) (calls peak low : ℕ) → q.core ≡ Ended end calls peak low
      → HasGivenBack w (after_give w job) job r q
  gives_back_by r g q f end calls peak low core =
      let t = sized_plan ps job r.size can.fit ((sound arena ps can w k).sized job r g) in
      let file = item_at w.filed job (omega (arith, k.files, within ps.plans job t.0.plan t.0.is)) in
      let now : after_give w job ≡ ended w job (Ended end calls peak low) r (give_lease w.desk job (Some (Some r))) =
      ap (λ o. give_in w job o (slice_get w.desk.leases job)) f
      ∙ ap (λ o. give_in w job (Some (Some q)) o) g
      ∙ ap (λ c. ended w job c r (give_move w.desk job)) core
      ∙ ap (λ o. ended w job (Ended end calls peak low) r (give_lease w.desk job o)) g in
      subst (λ v. HasGivenBack w v job r q) (sym now)
      (record {
        final = final_in w.cells r end calls peak low;
        is = set_here w.filed job (Some (final_in w.cells r end calls peak low)) file.0 file.1;
        over = ap (machine_of (take r.size (drop r.first w.cells))) core;
        desk = ap (give_lease w.desk job) g;
        journal = refl;
        cells = refl;
        frames = λ other ne. set_there w.workers job other None (λ same. ne (sym same));
        others = λ other ne. set_there w.filed job other (Some (final_in w.cells r end calls peak low)) (λ same. ne (sym same));
      })

pub step_apart : (arena : ℕ) (ps : Planned) (events : List WorldEvent) (job : ℕ) → CanHold arena ps
    → StepsApart (world arena ps events) (after ps (world arena ps events) (Step job)) job
unfolding after
step_apart arena ps events job can = by_plans (holds arena ps can)
  where
    by_plans : Holds arena ps ⊎ (ps.plans ≡ []) → StepsApart (world arena ps events) (after_step ps (world arena ps events) job) job
    by_plans (inl h) = steps_apart arena ps h (world arena ps events) (world_holds arena ps events h) job
    by_plans (inr none) =
        subst (λ w. StepsApart w (after_step ps w job) job) (sym (world_stays arena ps events none))
        (subst (λ w. StepsApart (first_world arena ps) w job) (sym (first_stays arena ps (Step job) none)) (nothing_new (first_world arena ps) job))

pub goes_on_at : (arena : ℕ) (ps : Planned) (events : List WorldEvent) (job : ℕ) (r : Run) (k : Worker) (rest : Rest) → CanHold arena ps
    → slice_get (world arena ps events).desk.leases job ≡ Some (Some r)
    → slice_get (world arena ps events).workers job ≡ Some (Some k) → k.core ≡ Going rest → HasGoneOn (after ps (world arena ps events) (Step job)) job k
unfolding after
goes_on_at arena ps events job r k rest can g f core = by_plans (holds arena ps can)
  where
    by_plans : Holds arena ps ⊎ (ps.plans ≡ []) → HasGoneOn (after_step ps (world arena ps events) job) job k
    by_plans (inl h) = goes_on_by arena ps h (world arena ps events) (world_holds arena ps events h) job r g k f rest core
    by_plans (inr none) = absurd (none_out arena ps events job r none g)

pub gives_back_at : (arena : ℕ) (ps : Planned) (events : List WorldEvent) (job : ℕ) (r : Run) (k : Worker) (end : End) (calls peak low : ℕ)
    → CanHold arena ps → slice_get (world arena ps events).desk.leases job ≡ Some (Some r)
    → slice_get (world arena ps events).workers job ≡ Some (Some k) → k.core ≡ Ended end calls peak low → HasGivenBack (world arena ps events) (after ps (world arena ps events) (Give job)) job r k
unfolding after
gives_back_at arena ps events job r k end calls peak low can g f core = by_plans (holds arena ps can)
  where
    by_plans : Holds arena ps ⊎ (ps.plans ≡ []) → HasGivenBack (world arena ps events) (after_give (world arena ps events) job) job r k
    by_plans (inl h) = gives_back_by arena ps h (world arena ps events) (world_holds arena ps events h) job r g k f end calls peak low core
    by_plans (inr none) = absurd (none_out arena ps events job r none g)

pub asks_at : (arena : ℕ) (ps : Planned) (events : List WorldEvent) (m : Move) → CanHold arena ps → move_of ps (world arena ps events) ≡ Some m
    → HasAsked ps (world arena ps events) (after ps (world arena ps events) Next) m
unfolding after
asks_at arena ps events m can is = by_plans (holds arena ps can)
  where
    by_plans : Holds arena ps ⊎ (ps.plans ≡ []) → HasAsked ps (world arena ps events) (worlds.after_next ps (world arena ps events)) m
    by_plans (inl h) = next_asked arena ps h (world arena ps events) (world_holds arena ps events h) m is
    by_plans (inr none) = absurd (none_asked arena ps events m none is)

-- ---- where nothing is to be done

pub none_asks : (ps : Planned) (w : World) → move_of ps w ≡ None → after ps w Next ≡ w
unfolding after
none_asks ps w none = ap (gone_on ps w) none

pub none_leased_at : (ps : Planned) (w : World) (job : ℕ) → ((r : Run) → slice_get w.desk.leases job ≡ Some (Some r) → ⊥)
    → (after ps w (Step job) ≡ w) × (after ps w (Give job) ≡ w)
unfolding after
none_leased_at ps w job out = by_lease (slice_get w.desk.leases job) refl
  where
    stays : (s : Option Start) (v : Option (Option Worker)) (l : Option (Option Run)) → ((r : Run) → l ≡ Some (Some r) → ⊥)
        → (step_in w job s v l ≡ w) × (give_in w job v l ≡ w)
    stays None None l none = (refl, refl)
    stays None (Some None) l none = (refl, refl)
    stays None (Some (Some k)) None none = (refl, refl)
    stays None (Some (Some k)) (Some None) none = (refl, refl)
    stays None (Some (Some k)) (Some (Some r)) none = absurd (none r refl)
    stays (Some s) None l none = (refl, refl)
    stays (Some s) (Some None) l none = (refl, refl)
    stays (Some s) (Some (Some k)) None none = (refl, refl)
    stays (Some s) (Some (Some k)) (Some None) none = (refl, refl)
    stays (Some s) (Some (Some k)) (Some (Some r)) none = absurd (none r refl)

    by_lease : (l : Option (Option Run)) → slice_get w.desk.leases job ≡ l → (after_step ps w job ≡ w) × (after_give w job ≡ w)
    by_lease l e = stays (start_of ps job) (slice_get w.workers job) (slice_get w.desk.leases job) out

pub over_stays_at : (ps : Planned) (w : World) (job : ℕ) (k : Worker) (end : End) (calls peak low : ℕ) → slice_get w.workers job ≡ Some (Some k)
    → k.core ≡ Ended end calls peak low → after ps w (Step job) ≡ w
unfolding after
over_stays_at ps w job k end calls peak low f core =
    ap (λ o. step_in w job (start_of ps job) o (slice_get w.desk.leases job)) f
    ∙ by_all (start_of ps job) (slice_get w.desk.leases job)
  where
    by_all : (s : Option Start) (l : Option (Option Run)) → step_in w job s (Some (Some k)) l ≡ w
    by_all None l = refl
    by_all (Some s) None = refl
    by_all (Some s) (Some None) = refl
    by_all (Some s) (Some (Some r)) = ap (λ c. stepped w job r.first k (one_step s.code (machine_of (drop r.first w.cells) c))) core

pub going_stays_at : (ps : Planned) (w : World) (job : ℕ) (k : Worker) (rest : Rest) → slice_get w.workers job ≡ Some (Some k) → k.core ≡ Going rest
    → after ps w (Give job) ≡ w
unfolding after
going_stays_at ps w job k rest f core = ap (λ o. give_in w job o (slice_get w.desk.leases job)) f ∙ by_lease (slice_get w.desk.leases job)
  where
    by_move : (r : Run) (o : Option Move) → ended w job (Going rest) r o ≡ w
    by_move r None = refl
    by_move r (Some m) = refl

    by_lease : (l : Option (Option Run)) → give_in w job (Some (Some k)) l ≡ w
    by_lease None = refl
    by_lease (Some None) = refl
    by_lease (Some (Some r)) = ap (λ c. ended w job c r (give_move w.desk job)) core ∙ by_move r (give_move w.desk job)

-- ---- the same plan

abbrev with_licence : (n : ℕ) → Plan → Plan
with_licence n p = record { licence = n; entry = p.entry; args = p.args; fuel = p.fuel; lease = p.lease }

same_in : (l : Licensed) (n : ℕ) (p : Plan) (o : Option Func) → start_in l p o ≡ start_in l (with_licence n p) o
same_in l n p None = refl
same_in l n p (Some f) = refl

same_with : (o : Option Licensed) (n : ℕ) (p : Plan) → start_with o p ≡ start_with o (with_licence n p)
same_with None n p = refl
same_with (Some l) n p = same_in l n p (slice_get l.code.funcs p.entry)

same_start : (ps qs : Planned) (job other : ℕ) → HaveSamePlan ps qs job other → start_of ps job ≡ start_of qs other
unfolding start_of
same_start ps qs job other h =
    ap (start_at ps.licences) h.is
    ∙ same_with (slice_get ps.licences h.plan.licence) h.number h.plan
    ∙ ap (λ o. start_with o (with_licence h.number h.plan)) h.licence
    ∙ ap (start_at qs.licences) (sym h.also)

cells_again : (cells : List Cell) (c : Core) → cells_of (machine_of cells c) ≡ cells
cells_again cells (Going rest) = refl
cells_again cells (Ended end calls peak low) = refl

core_again : (cells : List Cell) (c : Core) → core_of (machine_of cells c) ≡ c
core_again cells (Going rest) = refl
core_again cells (Ended end calls peak low) = refl

worker_same : (k l : Worker) → k.core ≡ l.core → k.count ≡ l.count → l ≡ k
worker_same k l core count = λ i. record { core = sym core i; count = sym count i }

equal_in : (arena size : ℕ) (ps qs : Planned) (events others : List WorldEvent) (job other : ℕ) (r q : Run) (k l : Worker) → Holds arena ps
    → Holds size qs → HaveSamePlan ps qs job other
    → slice_get (world arena ps events).desk.leases job ≡ Some (Some r) → slice_get (world size qs others).desk.leases other ≡ Some (Some q)
    → slice_get (world arena ps events).workers job ≡ Some (Some k) → slice_get (world size qs others).workers other ≡ Some (Some l) → k.count ≡ l.count
    → AreEqual (world arena ps events) (world size qs others) job other r q
equal_in arena size ps qs events others job other r q k l can may h g g' f f' count =
    let a = (world_holds arena ps events can).alone job r k g f in
    let b = (world_holds size qs others may).alone other q l g' f' in
    let machines : machine_of (take r.size (drop r.first (world arena ps events).cells)) k.core ≡ machine_of (take q.size (drop q.first (world size qs others).cells)) l.core =
    a.alone ∙ ap (λ o. lone_or o k.count) (same_start ps qs job other h) ∙ ap (lone_or (start_of qs other)) count ∙ sym b.alone in
    let cores : k.core ≡ l.core = sym (core_again (take r.size (drop r.first (world arena ps events).cells)) k.core) ∙ ap core_of machines ∙ core_again (take q.size (drop q.first (world size qs others).cells)) l.core in
    record {
      worker = k;
      is = f;
      also = f' ∙ ap (λ x. Some (Some x)) (worker_same k l cores count);
      cells = sym (cells_again (take r.size (drop r.first (world arena ps events).cells)) k.core) ∙ ap cells_of machines ∙ cells_again (take q.size (drop q.first (world size qs others).cells)) l.core;
    }

pub are_equal : (arena size : ℕ) (ps qs : Planned) (events others : List WorldEvent) (job other : ℕ) (r q : Run) (k l : Worker) → CanHold arena ps
    → CanHold size qs → HaveSamePlan ps qs job other
    → slice_get (world arena ps events).desk.leases job ≡ Some (Some r) → slice_get (world size qs others).desk.leases other ≡ Some (Some q)
    → slice_get (world arena ps events).workers job ≡ Some (Some k) → slice_get (world size qs others).workers other ≡ Some (Some l) → k.count ≡ l.count
    → AreEqual (world arena ps events) (world size qs others) job other r q
are_equal arena size ps qs events others job other r q k l can may h g g' f f' count = by_plans (holds arena ps can) (holds size qs may)
  where
    by_plans : Holds arena ps ⊎ (ps.plans ≡ []) → Holds size qs ⊎ (qs.plans ≡ []) → AreEqual (world arena ps events) (world size qs others) job other r q
    by_plans (inr none) b = absurd (none_out arena ps events job r none g)
    by_plans (inl a) (inr none) = absurd (none_out size qs others other q none g')
    by_plans (inl a) (inl b) = equal_in arena size ps qs events others job other r q k l a b h g g' f f' count
