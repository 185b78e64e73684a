-- Laws, for the law of schedules.
-- A job whose lease is out comes to its end by steps of its own, and nothing else of the world changes.
use Rattle.std.proofs.Common.{◌≡◌, ℕ, zero, suc, ◌+◌, ◌-◌, ◌*◌, ◌≤◌, List, [], ◌∷◌, ◌++◌, take, drop, Option, Some, None, refl, sym, ap, ◌∙◌, subst, arith}
use Rattle.std.specs.Prelude.{slice_get}
use Rattle.cell_span.specs.declared.cell.Cell.{Cell}
use Rattle.grail_code.specs.Code.{Code}
use Rattle.hole_list.specs.declared.run.Run.{Run}
use Rattle.hole_list.specs.PlacingLaws.{some_same}
use Rattle.cell_machine.specs.State.{End, Final, Machine, Running, Over, most_calls}
use Rattle.cell_machine.specs.Loading.{advance, steps, steps_a_call}
use Rattle.job_world.specs.Plans.{Plan, Planned}
use Rattle.job_world.specs.Put.{Rest, Core, Going, Ended, machine_of}
use Rattle.job_world.specs.World.{Start, start_at, start_of, lone, Worker, World, WorldEvent, Step, after, world}
use Rattle.job_world.specs.Isolation.{CanHold, IsOutside, StepsApart, HasGoneOn}
use Rattle.job_world.specs.WorldLaws.{is_alone, step_apart, goes_on_at}
use Rattle.job_world.specs.theory.AloneLaws.{step_more}
use Rattle.job_world.specs.theory.Starting.{PlanAt, plan_at, begins, start_is, runs}
use Rattle.job_world.specs.theory.Worlds.{world_more}

-- ---- lone machines

over_later : (p : Code) (limit n k : ℕ) (m : Machine) (f : Final) → steps p limit n m ≡ Over f → steps p limit (k + n) m ≡ Over f
over_later p limit n zero m f e = ap (λ j. steps p limit j m) (let z : 0 + n ≡ n = omega arith in z) ∙ e
over_later p limit n (suc k) m f e =
    ap (λ j. steps p limit j m) (let z : suc k + n ≡ suc (k + n) = omega arith in z)
    ∙ step_more p limit (k + n) m
    ∙ ap (advance p limit) (over_later p limit n k m f e)

-- a job that begins has a plan
planned : (ps : Planned) (job : ℕ) (s : Start) → start_of ps job ≡ Some s → (p : Plan) × (slice_get ps.plans job ≡ Some p)
unfolding start_of
planned ps job s e = by_plan (slice_get ps.plans job) refl e
  where
    by_plan : (o : Option Plan) → slice_get ps.plans job ≡ o → start_at ps.licences o ≡ Some s → (p : Plan) × (slice_get ps.plans job ≡ Some p)
    by_plan None is k = absurd cc
    by_plan (Some p) is k = (p, is)

pub plan_of : (arena : ℕ) (ps : Planned) (job : ℕ) (s : Start) → CanHold arena ps → start_of ps job ≡ Some s → PlanAt ps job
plan_of arena ps job s can e = let p = planned ps job s e in plan_at ps job p.0 can.fit p.1

-- the steps that a job's run takes at most
abbrev pub all_steps : {ps : Planned} {job : ℕ} → PlanAt ps job → ℕ
all_steps q = steps_a_call * q.plan.fuel

over_by_then : {ps : Planned} {job : ℕ} (q : PlanAt ps job) (s : Start) (count : ℕ) → start_of ps job ≡ Some s → all_steps q ≤ count
    → lone s count ≡ Over (runs q).ends.final
over_by_then {ps} {job} q s count e enough =
    let same : s ≡ begins q = some_same s (begins q) (sym e ∙ start_is q) in
    let more : (count - all_steps q) + all_steps q ≡ count = omega (arith, enough) in
    ap (λ t. lone t count) same
    ∙ sym (ap (lone (begins q)) more)
    ∙ over_later q.licence.code most_calls (all_steps q) (count - all_steps q) (Running (begins q).begins) (runs q).ends.final (runs q).ends.is

-- ---- to the end

-- Behind these events the job's machine is over, and nothing has changed since but its own frames and cells.
pub record Finished (arena : ℕ) (ps : Planned) (events : List WorldEvent) (job : ℕ) : Type 0 where
  pub more : List WorldEvent
  pub desk : (world arena ps more).desk ≡ (world arena ps events).desk
  pub journal : (world arena ps more).journal ≡ (world arena ps events).journal
  pub cells : (index : ℕ) → IsOutside (world arena ps events) job index → slice_get (world arena ps more).cells index ≡ slice_get (world arena ps events).cells index
  pub worker : Worker
  pub is : slice_get (world arena ps more).workers job ≡ Some (Some worker)
  pub end : End
  pub calls : ℕ
  pub peak : ℕ
  pub low : ℕ
  pub over : worker.core ≡ Ended end calls peak low

goes_not : (cells : List Cell) (rest : Rest) (f : Final) → machine_of cells (Going rest) ≡ Over f → ⊥
goes_not cells rest f e = absurd cc

module _ (arena : ℕ) (ps : Planned) (can : CanHold arena ps) (job : ℕ) (r : Run) (q : PlanAt ps job) where
  abbrev now : List WorldEvent → World
  now events = world arena ps events

  still_going : (events : List WorldEvent) (k : Worker) → slice_get (world arena ps events).desk.leases job ≡ Some (Some r)
      → slice_get (world arena ps events).workers job ≡ Some (Some k) → (rest : Rest) → k.core ≡ Going rest → all_steps q ≤ k.count → ⊥
  still_going events k g f rest e enough =
      let a = is_alone arena ps events job r can g in
      let same : a.worker ≡ k = some_same a.worker k (some_same (Some a.worker) (Some k) (sym a.is ∙ f)) in
      let cells : List Cell = take r.size (drop r.first (world arena ps events).cells) in
      let over : lone a.start k.count ≡ Over (runs q).ends.final = over_by_then q a.start k.count a.begins enough in
      let alone : machine_of (take r.size (drop r.first (world arena ps events).cells)) k.core ≡ lone a.start k.count = subst (λ (x : Worker). machine_of (take r.size (drop r.first (world arena ps events).cells)) x.core ≡ lone a.start x.count) same a.alone in
      goes_not (take r.size (drop r.first (world arena ps events).cells)) rest (runs q).ends.final (sym (ap (machine_of (take r.size (drop r.first (world arena ps events).cells))) e) ∙ alone ∙ over)

  -- one step more
  one_more : (events : List WorldEvent) (k : Worker) → slice_get (world arena ps events).desk.leases job ≡ Some (Some r)
      → slice_get (world arena ps events).workers job ≡ Some (Some k) → (rest : Rest) → k.core ≡ Going rest
      → ((l : Worker) → slice_get (world arena ps (events ++ Step job ∷ [])).desk.leases job ≡ Some (Some r)
      → slice_get (world arena ps (events ++ Step job ∷ [])).workers job ≡ Some (Some l) → l.count ≡ suc k.count → Finished arena ps (events ++ Step job ∷ []) job)
      → Finished arena ps events job
  one_more events k g f rest e go =
      let is : world arena ps (events ++ Step job ∷ []) ≡ after ps (world arena ps events) (Step job) = world_more arena ps events (Step job) in
      let apart : StepsApart (world arena ps events) (world arena ps (events ++ Step job ∷ [])) job = subst (λ v. StepsApart (world arena ps events) v job) (sym is) (step_apart arena ps events job can) in
      let on : HasGoneOn (world arena ps (events ++ Step job ∷ [])) job k = subst (λ v. HasGoneOn v job k) (sym is) (goes_on_at arena ps events job r k rest can g f e) in
      let h = go on.worker (ap (λ d. slice_get d.leases job) apart.desk ∙ g) on.is on.more in
      record {
        more = h.more;
        desk = h.desk ∙ apart.desk;
        journal = h.journal ∙ apart.journal;
        cells = λ index out. h.cells index (λ s is'. out s (sym (ap (λ d. slice_get d.leases job) apart.desk) ∙ is')) ∙ apart.cells index out;
        worker = h.worker;
        is = h.is;
        end = h.end;
        calls = h.calls;
        peak = h.peak;
        low = h.low;
        over = h.over;
      }

  finish : (n : ℕ) (events : List WorldEvent) (k : Worker) → slice_get (world arena ps events).desk.leases job ≡ Some (Some r)
      → slice_get (world arena ps events).workers job ≡ Some (Some k) → all_steps q ≤ n + k.count → Finished arena ps events job
  finish zero events k g f enough = by_core k.core refl
    where
      by_core : (c : Core) → k.core ≡ c → Finished arena ps events job
      by_core (Going rest) e = absurd (still_going events k g f rest e (omega (arith, enough)))
      by_core (Ended end calls peak low) e = record {
        more = events;
        desk = refl;
        journal = refl;
        cells = λ index out. refl;
        worker = k;
        is = f;
        end = end;
        calls = calls;
        peak = peak;
        low = low;
        over = e;
      }
  finish (suc n) events k g f enough = by_core (λ l g' f' more. finish n (events ++ Step job ∷ []) l g' f' (omega (arith, enough, more))) k.core refl
    where
      by_core : ((l : Worker) → slice_get (world arena ps (events ++ Step job ∷ [])).desk.leases job ≡ Some (Some r)
          → slice_get (world arena ps (events ++ Step job ∷ [])).workers job ≡ Some (Some l) → l.count ≡ suc k.count → Finished arena ps (events ++ Step job ∷ []) job)
          → (c : Core) → k.core ≡ c → Finished arena ps events job
      by_core go (Going rest) e = one_more events k g f rest e go
      by_core go (Ended end calls peak low) e = record {
        more = events;
        desk = refl;
        journal = refl;
        cells = λ index out. refl;
        worker = k;
        is = f;
        end = end;
        calls = calls;
        peak = peak;
        low = low;
        over = e;
      }

-- a job whose lease is out comes to its end
pub finishes : (arena : ℕ) (ps : Planned) (events : List WorldEvent) (job : ℕ) (r : Run) → CanHold arena ps
    → slice_get (world arena ps events).desk.leases job ≡ Some (Some r) → Finished arena ps events job
finishes arena ps events job r can g =
    let a = is_alone arena ps events job r can g in
    let q = plan_of arena ps job a.start can a.begins in
    finish arena ps can job r q (all_steps q) events a.worker g a.is (omega arith)
