-- Laws, for the proofs of this crate and of those above it.
-- Plans of licensed code: the lease has cells for the run, so that it goes as the machine's laws say.
use Rattle.std.proofs.Common.{◌≡◌, ℕ, zero, suc, ◌+◌, ◌-◌, ◌≤◌, List, length, Option, Some, None, refl, sym, ap, ◌∙◌, subst, arith, length-append}
use Rattle.std.specs.Prelude.{slice_get, IsSomeAnd}
use Rattle.camelot_values.specs.Value.{Value, parts}
use Rattle.camelot_values.specs.Counts.{cells_among}
use Rattle.camelot_values.specs.Typing.{ArgumentsFit}
use Rattle.camelot_values.specs.Outcome.{Outcome, peak_of}
use Rattle.grail_code.specs.Code.{Func, Code}
use Rattle.grail_code.specs.Limits.{IsWithinLimits}
use Rattle.grail_code.specs.Meaning.{run_of}
use Rattle.grail_code.specs.WellFormed.{IsWellFormed}
use Rattle.licence.specs.Bound.{lease}
use Rattle.licence.specs.Licensed.{Licensed, IsLicensed, FitsEntry}
use Rattle.licence.specs.PotentialLaws.{lease_suffices}
use Rattle.cell_machine.specs.Endings.{CanRun}
use Rattle.cell_machine.specs.Plans.{IsPlan, planned_state, RunsAsPlanned}
use Rattle.cell_machine.specs.State.{Configuration, Machine, Running, Over, cells_of, most_calls}
use Rattle.cell_machine.specs.Steps.{step}
use Rattle.cell_machine.specs.Loading.{cells_from, free_from, begun, go_on, steps}
use Rattle.cell_machine.specs.Coming.{KeepsCourse, IsOnWay}
use Rattle.cell_machine.specs.theory.Beginning.{length_free}
use Rattle.cell_machine.specs.theory.Course.{blocks_there}
use Rattle.cell_machine.specs.theory.Laying.{argument_cells}
use Rattle.cell_machine.specs.MachineLaws.{step_goes, each_on_way, ends_as_meant, over_stays}

-- ---- cells enough

cells_suffice : (l : Licensed) (entry : ℕ) (args : List Value) (fuel : ℕ) → IsLicensed l → FitsEntry l entry args
    → cells_among l.code.types args + peak_of (run_of l.code most_calls entry fuel args) ≤ lease l.code l.cert entry args
cells_suffice l entry args fuel h fit = by_func (slice_get l.code.funcs entry) refl fit
  where
    by_func : (o : Option Func) → slice_get l.code.funcs entry ≡ o → IsSomeAnd o (λ f. ArgumentsFit l.code.types f.params args)
        → cells_among l.code.types args + peak_of (run_of l.code most_calls entry fuel args) ≤ lease l.code l.cert entry args
    by_func None e g = absurd g
    by_func (Some f) e g = lease_suffices l.code l.cert h.well (blocks_there l.code h.limits) h.limits.types h.grants.pays most_calls entry fuel args f e g

-- A plan can run.
pub can_run : (l : Licensed) (entry : ℕ) (args : List Value) (fuel cells : ℕ) → IsLicensed l → IsPlan l entry args fuel cells
    → CanRun l.code entry args fuel cells
can_run l entry args fuel cells h plan = record {
  well = h.well;
  fits = plan.fits;
  few = plan.few;
  some_fuel = plan.some_fuel;
  cells = subst (λ n. cells_among l.code.types args + peak_of (run_of l.code most_calls entry fuel args) ≤ n) (sym plan.lease) (cells_suffice l entry args fuel h plan.fits);
}

-- with this code, which is the licence's
pub can_run_code : (p : Code) (l : Licensed) (entry : ℕ) (args : List Value) (fuel cells : ℕ) → p ≡ l.code → IsLicensed l
    → IsPlan l entry args fuel cells → CanRun p entry args fuel cells
can_run_code p l entry args fuel cells same h plan = subst (λ q. CanRun q entry args fuel cells) (sym same) (can_run l entry args fuel cells h plan)

-- ---- the number of cells

size_stays : (p : Code) (limit room : ℕ) (outcome : Outcome Value) → IsWellFormed p → IsWithinLimits p → (count : ℕ) (m : Machine)
    → IsOnWay p limit room outcome m → length (cells_of (steps p limit count m)) ≡ length (cells_of m)
size_stays p limit room outcome well limits zero m c = refl
size_stays p limit room outcome well limits (suc n) (Over f) c = ap (λ m. length (cells_of m)) (over_stays p limit n f)
size_stays p limit room outcome well limits (suc n) (Running s) c = by_step (λ m d. size_stays p limit room outcome well limits n m d) (step p limit s) (step_goes p limit room outcome s well limits c)
  where
    by_step : ((m : Machine) → IsOnWay p limit room outcome m → length (cells_of (steps p limit n m)) ≡ length (cells_of m))
        → (o : Option Machine) → KeepsCourse p limit room outcome s o → length (cells_of (steps p limit n (go_on (Running s) o))) ≡ length s.cells
    by_step go None g = absurd g
    by_step go (Some (Running t)) g = go (Running t) g.0 ∙ g.2
    by_step go (Some (Over f)) g = go (Over f) g.0 ∙ g.1

-- ---- a plan's run

has_step : (p : Code) (limit room : ℕ) (outcome : Outcome Value) (s : Configuration) (o : Option Machine) → KeepsCourse p limit room outcome s o
    → (m : Machine) × (o ≡ Some m)
has_step p limit room outcome s None g = absurd g
has_step p limit room outcome s (Some m) g = (m, refl)

pub runs_as_planned : (l : Licensed) (entry : ℕ) (f : Func) (args : List Value) (fuel cells : ℕ) → IsLicensed l → IsPlan l entry args fuel cells
    → cells ≤ 2147483648 → slice_get l.code.funcs entry ≡ Some f
    → RunsAsPlanned l entry f args fuel cells
runs_as_planned l entry f args fuel cells h plan few is = record {
  ends = ends_as_meant l.code most_calls entry f args fuel cells h.well h.limits is fits plan.some_fuel enough few;
  goes = λ count s e. has_step l.code most_calls room (run_of l.code most_calls entry fuel args) s (step l.code most_calls s)
      (step_goes l.code most_calls room (run_of l.code most_calls entry fuel args) s h.well h.limits (subst (IsOnWay l.code most_calls room (run_of l.code most_calls entry fuel args)) e (way count)));
  size = λ count. size_stays l.code most_calls room (run_of l.code most_calls entry fuel args) h.well h.limits count (Running (begun l.code entry f args fuel cells)) (way 0)
      ∙ omega (
        arith,
        enough,
        length-append (cells_from l.code.types 0 (parts args)) (free_from (length (cells_from l.code.types 0 (parts args))) (cells - length (cells_from l.code.types 0 (parts args)))),
        length_free (length (cells_from l.code.types 0 (parts args))) (cells - length (cells_from l.code.types 0 (parts args))),
      );
}
  where
    room : ℕ
    room = cells - length (cells_from l.code.types 0 (parts args))

    fits : ArgumentsFit l.code.types f.params args
    fits = subst (λ o. IsSomeAnd o (λ f. ArgumentsFit l.code.types f.params args)) is plan.fits

    enough : length (cells_from l.code.types 0 (parts args)) + peak_of (run_of l.code most_calls entry fuel args) ≤ cells
    enough = omega (arith, argument_cells l.code.types f.params args h.limits.types.each fits, (can_run l entry args fuel cells h plan).cells)

    way : (count : ℕ) → IsOnWay l.code most_calls room (run_of l.code most_calls entry fuel args) (planned_state l entry f args fuel cells count)
    way count = each_on_way l.code most_calls entry f args fuel cells h.well h.limits is fits plan.some_fuel enough few count
