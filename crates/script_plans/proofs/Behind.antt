-- Plans behind others: their numbers, their lines, and that earlier lines stay.
use Rattle.std.proofs.Common.{◌≡◌, ℕ, zero, suc, ◌+◌, ◌<◌, ◌≤◌, List, [], ◌∷◌, ◌++◌, length, refl, sym, ap, ◌∙◌, arith, append_assoc, append-nil}
use Rattle.std.specs.Prelude.{slice_get}
use Rattle.std.specs.List.{AllByRecursion, range_with_len}
use Rattle.std.proofs.lemmas.List.FromFn.{length-range_with_len}
use Rattle.licence.specs.Licensed.{Licensed}
use Rattle.job_world.specs.Plans.{Plan, job_run}
use Rattle.job_world.specs.PlanLaws.{front_stays, run_stays}
use Rattle.run_reports.specs.Told.{Ended, TooLarge, Refused}
use Rattle.script_plans.specs.declared.types.JobPlan.{JobPlan}
use Rattle.script_plans.specs.declared.types.JobPlan.TheVariants as plan
use Rattle.script_plans.specs.Lines.{types_at, fuel_at, planned_line, planned_lines, run_number, run_numbers}

-- ---- numbers

pub numbers_end : (plans : List JobPlan) (p : JobPlan) → run_numbers (plans ++ p ∷ []) ≡ run_numbers plans ++ run_number p
numbers_end [] p = append-nil (run_number p)
numbers_end (q ∷ plans) p = ap (λ l. run_number q ++ l) (numbers_end plans p) ∙ sym (append_assoc (run_number q) (run_numbers plans) (run_number p))

pub numbers_few : (plans : List JobPlan) → length (run_numbers plans) ≤ length plans
numbers_few [] = omega arith
numbers_few (plan.Runs job bound ∷ plans) = omega (arith, numbers_few plans)
numbers_few (plan.TooLarge needs ∷ plans) = omega (arith, numbers_few plans)
numbers_few (plan.Refused cause ∷ plans) = omega (arith, numbers_few plans)

-- a plan is of one run at most
pub one_run : (p : JobPlan) (first count : ℕ) → run_number p ≡ range_with_len first count → count ≤ 1
one_run (plan.Runs job bound) first count e = omega (arith, ap length e, length-range_with_len first count)
one_run (plan.TooLarge needs) first count e = omega (arith, ap length e, length-range_with_len first count)
one_run (plan.Refused cause) first count e = omega (arith, ap length e, length-range_with_len first count)

range_parts : (first m n : ℕ) → range_with_len first (m + n) ≡ range_with_len first m ++ range_with_len (first + m) n
range_parts first zero n =
    let none : zero + n ≡ n = omega arith in
    let same : first ≡ first + zero = omega arith in
    ap (range_with_len first) none ∙ ap (λ k. range_with_len k n) same
range_parts first (suc m) n =
    let one : suc m + n ≡ suc (m + n) = omega arith in
    let same : first + 1 + m ≡ first + suc m = omega arith in
    ap (range_with_len first) one ∙ ap (λ l. first ∷ l) (range_parts (first + 1) m n) ∙ ap (λ k. range_with_len first (suc m) ++ range_with_len k n) same

-- the numbers of these, and of those behind them
pub range_more : (m n : ℕ) → range_with_len 0 m ++ range_with_len m n ≡ range_with_len 0 (m + n)
range_more m n = let same : m ≡ 0 + m = omega arith in ap (λ k. range_with_len 0 m ++ range_with_len k n) same ∙ sym (range_parts 0 m n)

-- ---- lines

pub lines_stay : (licences : List Licensed) (old more : List Plan) (arena : ℕ) (plans : List JobPlan) → AllByRecursion (λ n. n < length old) (run_numbers plans)
    → planned_lines (record { licences = licences; plans = old ++ more }) arena plans ≡ planned_lines (record { licences = licences; plans = old }) arena plans
lines_stay licences old more arena [] h = refl
lines_stay licences old more arena (plan.Runs job bound ∷ plans) h =
    let later = planned_lines (record { licences = licences; plans = old ++ more }) arena plans in
    ap (λ o. Ended (types_at licences o) (job_run (record { licences = licences; plans = old ++ more }) job) (fuel_at o) bound ∷ later) (front_stays old more job h.0)
    ∙ ap (λ r. Ended (types_at licences (slice_get old job)) r (fuel_at (slice_get old job)) bound ∷ later) (run_stays licences old more job h.0)
    ∙ ap (λ l. planned_line (record { licences = licences; plans = old }) arena (plan.Runs job bound) ∷ l) (lines_stay licences old more arena plans h.1)
lines_stay licences old more arena (plan.TooLarge needs ∷ plans) h = ap (λ l. TooLarge needs arena ∷ l) (lines_stay licences old more arena plans h)
lines_stay licences old more arena (plan.Refused cause ∷ plans) h = ap (λ l. Refused cause ∷ l) (lines_stay licences old more arena plans h)
