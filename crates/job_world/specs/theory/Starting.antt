-- Laws, for the laws of the world.
-- How the jobs of fitting plans begin, and that their lone machines go on.
use Rattle.std.proofs.Common.{◌≡◌, ℕ, suc, ◌*◌, ◌≤◌, [], length, Option, Some, None, refl, sym, ap, ◌∙◌, subst}
use Rattle.std.specs.Prelude.{slice_get, IsSomeAnd}
use Rattle.std.specs.Option.{option_map}
use Rattle.std.proofs.lemmas.Option.{slice_get-map}
use Rattle.camelot_values.specs.Typing.{ArgumentsFit}
use Rattle.grail_code.specs.Code.{Func, Code}
use Rattle.grail_code.specs.Meaning.{run_of}
use Rattle.grail_code.specs.PlaceLaws.{all_at}
use Rattle.licence.specs.Licensed.{Licensed, IsLicensed}
use Rattle.cell_machine.specs.State.{Configuration, Final, OutOfFuel, Machine, Running, Over, cells_of, most_calls}
use Rattle.cell_machine.specs.Steps.{step}
use Rattle.cell_machine.specs.Loading.{begun, go_on, advance, steps, steps_a_call}
use Rattle.cell_machine.specs.Coming.{EndsRight}
use Rattle.cell_machine.specs.Plans.{IsPlan, planned_state, RunsAsPlanned}
use Rattle.cell_machine.specs.PlanLaws.{runs_as_planned}
use Rattle.cell_machine.specs.MachineLaws.{over_stays, one_final}
use Rattle.job_world.specs.Plans.{Plan, Planned, IsFit, AreFit, leases_of, run_with, run_at, cells_with, cells_at, job_run, job_cells}
use Rattle.job_world.specs.Plans as plans
use Rattle.job_world.specs.World.{Start, start_in, start_with, start_at, start_of, lone}
use Rattle.job_world.specs.Isolation.{EndsAlone}
use Rattle.job_world.specs.theory.Alone.{Starts, GoOn}
use Rattle.job_world.specs.theory.AloneLaws.{step_more}

-- ---- a job of fitting plans

pub record PlanAt (ps : Planned) (job : ℕ) : Type 0 where
  pub plan : Plan
  pub is : slice_get ps.plans job ≡ Some plan
  pub licence : Licensed
  pub licence_is : slice_get ps.licences plan.licence ≡ Some licence
  pub licensed : IsLicensed licence
  pub fit : IsPlan licence plan.entry plan.args plan.fuel plan.lease
  pub few : plan.lease ≤ 2147483648
  pub func : Func
  pub func_is : slice_get licence.code.funcs plan.entry ≡ Some func

there : {A : Type 0} (P : A → Type 0) (o : Option A) → IsSomeAnd o P → (x : A) × (o ≡ Some x) × P x
there P None h = absurd h
there P (Some x) h = (x, refl, h)

pub plan_at : (ps : Planned) (job : ℕ) (p : Plan) → AreFit ps → slice_get ps.plans job ≡ Some p → PlanAt ps job
plan_at ps job p fit is =
    let f = all_at (IsFit ps.licences) ps.plans job p fit is in
    let l = there IsLicensed (slice_get ps.licences p.licence) f.licensed in
    let plan : IsPlan l.0 p.entry p.args p.fuel p.lease = subst (λ o. IsSomeAnd o (λ l. IsPlan l p.entry p.args p.fuel p.lease)) l.1 f.plan in
    let g = there (λ g. ArgumentsFit l.0.code.types g.params p.args) (slice_get l.0.code.funcs p.entry) plan.fits in
    record { plan = p; is = is; licence = l.0; licence_is = l.1; licensed = l.2; fit = plan; few = f.few; func = g.0; func_is = g.1 }

-- a job that has a size has a plan
pub sized_plan : (ps : Planned) (job size : ℕ) → AreFit ps → slice_get (leases_of ps.plans) job ≡ Some size → (q : PlanAt ps job) × (q.plan.lease ≡ size)
unfolding plan_at
sized_plan ps job size fit e = by_plan (slice_get ps.plans job) refl (sym (slice_get-map (λ (p : Plan). p.lease) ps.plans job) ∙ e)
  where
    by_plan : (o : Option Plan) → slice_get ps.plans job ≡ o → option_map (λ (p : Plan). p.lease) o ≡ Some size → (q : PlanAt ps job) × (q.plan.lease ≡ size)
    by_plan None is k = absurd cc
    by_plan (Some p) is k = let same : p.lease ≡ size = cc in (plan_at ps job p fit is, same)

-- how it begins
abbrev pub begins : {ps : Planned} {job : ℕ} → PlanAt ps job → Start
begins q = record { code = q.licence.code; begins = begun q.licence.code q.plan.entry q.func q.plan.args q.plan.fuel q.plan.lease }

pub start_is : {ps : Planned} {job : ℕ} (q : PlanAt ps job) → start_of ps job ≡ Some (begins q)
unfolding start_of
start_is {ps} {job} q = ap (start_at ps.licences) q.is ∙ ap (λ o. start_with o q.plan) q.licence_is ∙ ap (start_in q.licence q.plan) q.func_is

pub run_is : {ps : Planned} {job : ℕ} (q : PlanAt ps job) → job_run ps job ≡ run_of q.licence.code most_calls q.plan.entry q.plan.fuel q.plan.args
unfolding job_run
run_is {ps} {job} q = ap (run_at ps.licences) q.is ∙ ap (λ o. run_with o q.plan) q.licence_is

pub cells_are : {ps : Planned} {job : ℕ} (q : PlanAt ps job)
    → job_cells ps job ≡ cells_of (planned_state q.licence q.plan.entry q.func q.plan.args q.plan.fuel q.plan.lease (steps_a_call * q.plan.fuel))
unfolding job_cells
cells_are {ps} {job} q = ap (cells_at ps.licences) q.is ∙ ap (λ o. cells_with o q.plan) q.licence_is ∙ ap (plans.cells_of q.licence q.plan) q.func_is

pub runs : {ps : Planned} {job : ℕ} (q : PlanAt ps job) → RunsAsPlanned q.licence q.plan.entry q.func q.plan.args q.plan.fuel q.plan.lease
runs q = runs_as_planned q.licence q.plan.entry q.func q.plan.args q.plan.fuel q.plan.lease q.licensed q.fit q.few q.func_is

-- ---- all lone machines

abbrev pub code_or : Option Start → Code
code_or None = record { types = []; funcs = [] }
code_or (Some s) = s.code

abbrev pub machine_or : Option Start → Machine
machine_or None = Over (record { cells = []; end = OutOfFuel; calls = 0; peak = 0; low = 0 })
machine_or (Some s) = Running s.begins

abbrev pub starts_of : Planned → Starts
starts_of ps = record { code = λ job. code_or (start_of ps job); machine = λ job. machine_or (start_of ps job) }

abbrev pub lone_or : Option Start → ℕ → Machine
lone_or s count = steps (code_or s) most_calls count (machine_or s)

-- a machine that goes on has a step, which keeps the number of cells
goes_with : {ps : Planned} {job : ℕ} (q : PlanAt ps job) (count : ℕ) (s : Configuration) → lone (begins q) count ≡ Running s
    → (n : Machine) × (step q.licence.code most_calls s ≡ Some n) × (length (cells_of n) ≡ length s.cells)
goes_with q count s e =
    let r = runs q in
    let g = r.goes count s e in
    let next : lone (begins q) (suc count) ≡ g.0 = step_more q.licence.code most_calls count (Running (begins q).begins) ∙ ap (advance q.licence.code most_calls) e ∙ ap (go_on (Running s)) g.1 in
    let now : length s.cells ≡ q.plan.lease = sym (ap (λ m. length (cells_of m)) e) ∙ r.size count in
    let then_ : length (cells_of g.0) ≡ q.plan.lease = sym (ap (λ m. length (cells_of m)) next) ∙ r.size (suc count) in
    (g.0, g.1, then_ ∙ sym now)

none_begins : (ps : Planned) (job : ℕ) → slice_get ps.plans job ≡ None → start_of ps job ≡ None
unfolding start_of
none_begins ps job is = ap (start_at ps.licences) is

pub goes_on : (ps : Planned) → AreFit ps → GoOn (starts_of ps)
goes_on ps fit job count s e = by_plan (slice_get ps.plans job) refl
  where
    by_plan : (o : Option Plan) → slice_get ps.plans job ≡ o
        → (n : Machine) × (step (code_or (start_of ps job)) most_calls s ≡ Some n) × (length (cells_of n) ≡ length s.cells)
    by_plan None is =
        let over : lone_or (start_of ps job) count ≡ Over (record { cells = []; end = OutOfFuel; calls = 0; peak = 0; low = 0 }) = ap (λ o. lone_or o count) (none_begins ps job is) ∙ over_stays (record { types = []; funcs = [] }) most_calls count (record { cells = []; end = OutOfFuel; calls = 0; peak = 0; low = 0 }) in
        let k : Running s ≡ Over (record { cells = []; end = OutOfFuel; calls = 0; peak = 0; low = 0 }) = sym e ∙ over in absurd cc
    by_plan (Some p) is =
        let q = plan_at ps job p fit is in
        subst (λ o. (n : Machine) × (step (code_or o) most_calls s ≡ Some n) × (length (cells_of n) ≡ length s.cells)) (sym (start_is q))
        (goes_with q count s (sym (ap (λ o. lone_or o count) (start_is q)) ∙ e))

-- ---- ends

-- a lone machine that is over ends as the code means, with the cells of the job
pub ends_alone : (ps : Planned) (job count : ℕ) (f : Final) (q : PlanAt ps job) → lone (begins q) count ≡ Over f → EndsAlone ps job f
ends_alone ps job count f q e =
    let m = (runs q).ends in
    let same : m.final ≡ f = one_final q.licence.code most_calls (steps_a_call * q.plan.fuel) count (Running (begins q).begins) m.final f m.is e in
    record {
      start = begins q;
      begins = start_is q;
      right = subst (λ g. EndsRight q.licence.code (job_run ps job) g g.end) same (subst (λ o. EndsRight q.licence.code o m.final m.final.end) (sym (run_is q)) m.right);
      cells = sym (cells_are q ∙ ap cells_of m.is ∙ ap (λ (g : Final). g.cells) same);
    }
