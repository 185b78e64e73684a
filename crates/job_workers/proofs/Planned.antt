-- What the plan of a job says of its run.
use Rattle.std.proofs.Common.{◌≡◌, ℕ, zero, suc, Bool, ◌<◌, List, [], ◌∷◌, length, Option, Some, None, refl, sym, ap, ◌∙◌, subst, arith}
use Rattle.std.specs.Prelude.{slice_get, IsSomeAnd}
use Rattle.std.specs.List.{AllByRecursion}
use Rattle.std.proofs.lemmas.Option.{slice_get_within}
use Rattle.job_workers.proofs.Turns.{leases_many}
use Rattle.cell_span.specs.declared.cell.Cell.{Cell}
use Rattle.grail_code.specs.Code.{Func}
use Rattle.grail_code.specs.Meaning.{run_of}
use Rattle.licence.specs.Licensed.{Licensed}
use Rattle.cell_machine.specs.State.{most_calls}
use Rattle.cell_machine.specs.Plans.{IsPlan}
use Rattle.cell_machine.specs.Loading.{last_cells}
use Rattle.camelot_values.specs.Outcome.{Outcome}
use Rattle.job_workers.specs.Serving.{IsStackAt, IsRoomFor, IsServed}
use Rattle.lease_desk.specs.Lease.{LeaseView, ClaimView, lease, claim_of}
use Rattle.cell_span.specs.Range.{Range}
use Rattle.camelot_values.specs.Value.{Value}
use Rattle.cell_machine.specs.Laid.{SameRange}
use Rattle.cell_machine.specs.Views.{IsStackFor}
use Rattle.cell_machine.specs.declared.machine.Stack.{Stack}
use Rattle.cell_machine.specs.declared.room.Room.{Room}
use Rattle.job_world.specs.Plans.{Plan, Planned, IsFit, AreFit, leases_of, run_with, run_at, cells_of, cells_with, cells_at, job_run, job_cells}

pub record RunIs (ps : Planned) (job : ℕ) (p : Plan) (l : Licensed) (cells : ℕ) : Type 0 where
  pub licence : slice_get ps.licences p.licence ≡ Some l
  pub lease : p.lease ≡ cells
  pub plan : IsPlan l p.entry p.args p.fuel cells
  pub run : job_run ps job ≡ run_of l.code most_calls p.entry p.fuel p.args
  pub left : (found : List Cell) → ((f : Func) → slice_get l.code.funcs p.entry ≡ Some f → found ≡ last_cells l.code most_calls p.entry f p.args p.fuel cells) → found ≡ job_cells ps job

lease_at : (plans : List Plan) (job : ℕ) (p : Plan) (cells : ℕ) → slice_get plans job ≡ Some p → slice_get (leases_of plans) job ≡ Some cells → p.lease ≡ cells
lease_at [] job p cells e f = let c : None ≡ Some p = e in absurd cc
lease_at (q ∷ plans) zero p cells e f = let same : q ≡ p = cc in let is : q.lease ≡ cells = cc in sym (ap (λ (r : Plan). r.lease) same) ∙ is
lease_at (q ∷ plans) (suc job) p cells e f = lease_at plans job p cells e f

fit_at : (licences : List Licensed) (plans : List Plan) (job : ℕ) (p : Plan) → AllByRecursion (IsFit licences) plans → slice_get plans job ≡ Some p
    → IsFit licences p
fit_at licences [] job p h e = let c : None ≡ Some p = e in absurd cc
fit_at licences (q ∷ plans) zero p h e = let same : q ≡ p = cc in subst (IsFit licences) same h.0
fit_at licences (q ∷ plans) (suc job) p h e = fit_at licences plans job p h.1 e

func_there : (funcs : Option Func) (l : Licensed) (p : Plan) (P : Func → Type 0) (found : List Cell) → IsSomeAnd funcs P
    → ((f : Func) → funcs ≡ Some f → found ≡ last_cells l.code most_calls p.entry f p.args p.fuel p.lease) → found ≡ cells_of l p funcs
func_there None l p P found h g = absurd h
func_there (Some f) l p P found h g = g f refl

pub run_is : (ps : Planned) (job : ℕ) (p : Plan) (l : Licensed) (cells : ℕ) → AreFit ps → slice_get ps.plans job ≡ Some p
    → IsSomeAnd (slice_get ps.plans job) (λ p. slice_get ps.licences p.licence ≡ Some l)
    → slice_get (leases_of ps.plans) job ≡ Some cells → RunIs ps job p l cells
unfolding job_run job_cells
run_is ps job p l cells fit e known size =
    let licence : slice_get ps.licences p.licence ≡ Some l = subst (λ (o : Option Plan). IsSomeAnd o (λ p. slice_get ps.licences p.licence ≡ Some l)) e known in
    let lease : p.lease ≡ cells = lease_at ps.plans job p cells e size in
    let fits : IsFit ps.licences p = fit_at ps.licences ps.plans job p fit e in
    let plan : IsPlan l p.entry p.args p.fuel p.lease = subst (λ (o : Option Licensed). IsSomeAnd o (λ l. IsPlan l p.entry p.args p.fuel p.lease)) licence fits.plan in
    record {
      licence = licence;
      lease = lease;
      plan = subst (IsPlan l p.entry p.args p.fuel) lease plan;
      run = ap (run_at ps.licences) e ∙ ap (λ o. run_with o p) licence;
      left = λ found g. func_there (slice_get l.code.funcs p.entry) l p _ found plan.fits (λ f is. g f is ∙ sym (ap (last_cells l.code most_calls p.entry f p.args p.fuel) lease))
          ∙ sym (ap (cells_at ps.licences) e ∙ ap (λ o. cells_with o p) licence);
    }

-- the stack that is kept is one for this licence
pub kept_fits : (licences : List Licensed) (kept number : ℕ) (l : Licensed) (stack : Stack) → IsStackAt licences kept stack → kept ≡ number
    → slice_get licences number ≡ Some l → IsStackFor l.code stack
kept_fits licences kept number l stack h same at = h l (ap (slice_get licences) same ∙ at)

-- ---- the run of a lease

-- a job with a size of the name has a plan, whose lease is that size
pub due_now : (ps qs : Planned) (sizes : List ℕ) (job many : ℕ) → ps ≡ qs → sizes ≡ leases_of qs.plans → slice_get sizes job ≡ Some many
    → (job < length ps.plans) × (slice_get (leases_of ps.plans) job ≡ Some many)
due_now ps qs sizes job many plans named at =
    let size : slice_get (leases_of ps.plans) job ≡ Some many = ap (λ (x : Planned). slice_get (leases_of x.plans) job) plans ∙ sym (ap (λ xs. slice_get xs job) named) ∙ at in
    (omega (arith, slice_get_within (leases_of ps.plans) job many size, leases_many ps.plans), size)

pub lease_now : (ps : Planned) (job : ℕ) (l : LeaseView) (p : Plan) (li : Licensed) → AreFit ps → job ≡ l.job
    → slice_get (leases_of ps.plans) l.job ≡ Some (length l.range.cells)
    → slice_get ps.plans job ≡ Some p → IsSomeAnd (slice_get ps.plans job) (λ p. slice_get ps.licences p.licence ≡ Some li) → RunIs ps job p li (length l.range.cells)
lease_now ps job l p li fit same size at known = run_is ps job p li (length l.range.cells) fit at known (ap (slice_get (leases_of ps.plans)) same ∙ size)

pub plan_now : (ps : Planned) (job : ℕ) (l : LeaseView) (p : Plan) (li : Licensed) → RunIs ps job p li (length l.range.cells)
    → (range_in : Range) (args : List Value) → range_in ≡ l.range → args ≡ p.args
    → IsPlan li p.entry args p.fuel (length range_in.cells)
plan_now ps job l p li now range_in args is same = subst (λ args. IsPlan li p.entry args p.fuel (length range_in.cells)) (sym same) (subst (IsPlan li p.entry p.args p.fuel) (sym (ap (λ (r : Range). length r.cells) is)) now.plan)

pub room_now : (ps : Planned) (job : ℕ) (l : LeaseView) (p : Plan) (li : Licensed) → RunIs ps job p li (length l.range.cells)
    → (asks : Bool) (range_in : Range) (room : Option Room) → range_in ≡ l.range → IsRoomFor asks p.lease room
    → IsRoomFor asks (length range_in.cells) room
room_now ps job l p li now asks range_in room is has =
    subst (λ n. IsRoomFor asks n room) (now.lease ∙ sym (ap (λ (r : Range). length r.cells) is)) has

-- what is kept of the run is kept of the job's
pub meant_now : (ps : Planned) (job : ℕ) (l : LeaseView) (p : Plan) (li : Licensed) → RunIs ps job p li (length l.range.cells)
    → {K : Type 0} (keeps : Outcome Value → K → Type 0) (args : List Value) (kept : K) → args ≡ p.args
    → keeps (run_of li.code most_calls p.entry p.fuel args) kept → keeps (job_run ps job) kept
meant_now ps job l p li now keeps args kept same is =
    subst (λ o. keeps o kept) (ap (run_of li.code most_calls p.entry p.fuel) same ∙ sym now.run) is

pub served_now : (ps : Planned) (job : ℕ) (l : LeaseView) (p : Plan) (li : Licensed) → RunIs ps job p li (length l.range.cells)
    → (range_in : Range) (claim : ClaimView) (ran : Range) (args : List Value)
    (back : LeaseView) (number : ℕ) → job ≡ l.job → range_in ≡ l.range → claim ≡ claim_of l → args ≡ p.args → SameRange range_in ran
    → ((f : Func) → slice_get li.code.funcs p.entry ≡ Some f → ran.cells ≡ last_cells li.code most_calls p.entry f args p.fuel (length range_in.cells))
    → back ≡ lease claim.job ran → number ≡ job → IsServed ps l back number
served_now ps job l p li now range_in claim ran args back number is opened claimed same range cells closed numbered = record {
  job = ap (λ (m : LeaseView). m.job) closed ∙ ap (λ (m : ClaimView). m.job) claimed;
  first = ap (λ (m : LeaseView). m.range.first) closed ∙ range.first ∙ ap (λ (r : Range). r.first) opened;
  size = ap (λ (m : LeaseView). length m.range.cells) closed ∙ range.cells ∙ ap (λ (r : Range). length r.cells) opened;
  cells = ap (λ (m : LeaseView). m.range.cells) closed
      ∙ now.left ran.cells (λ f at. cells f at ∙ ap (λ args. last_cells li.code most_calls p.entry f args p.fuel (length range_in.cells)) same
      ∙ ap (λ (r : Range). last_cells li.code most_calls p.entry f p.args p.fuel (length r.cells)) opened)
      ∙ ap (job_cells ps) (sym numbered);
  same = numbered ∙ is;
}

-- the stack that a run hands back may be kept for the next one
pub stack_now : (ps qs : Planned) (job : ℕ) (l : LeaseView) (p : Plan) (li : Licensed) → RunIs ps job p li (length l.range.cells) → (stack : Stack)
    → ps ≡ qs → IsStackFor li.code stack
    → IsStackAt qs.licences p.licence stack
stack_now ps qs job l p li now stack plans fits other at = subst (λ (m : Licensed). IsStackFor m.code stack) (some_is li other (sym now.licence ∙ ap (λ (ps : Planned). slice_get ps.licences p.licence) plans ∙ at)) fits
  where
    some_is : (x y : Licensed) → Some x ≡ Some y → x ≡ y
    some_is x y e = grind arith

-- the number of a plan's licence leads to it, among those of the name too
pub licence_now : (ps qs : Planned) (job : ℕ) (l : LeaseView) (p : Plan) (li : Licensed) → RunIs ps job p li (length l.range.cells) → ps ≡ qs
    → slice_get qs.licences p.licence ≡ Some li
licence_now ps qs job l p li now plans = sym (ap (λ (ps : Planned). slice_get ps.licences p.licence) plans) ∙ now.licence
