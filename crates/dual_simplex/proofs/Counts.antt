-- The count of a run's pivots agrees with its outcome.
use Rattle.std.proofs.Common.{◌≡◌, ℕ, suc, zero, ◌+◌, ◌≤◌, Bool, true, false, cond, ◌&&◌, arith, sym, ◌∙◌, refl, subst, None, Some, map}
use Rattle.std.specs.Prelude.{Option}
use Rattle.dual_simplex.specs.declared.tableau.Candidate.{Candidate}
use Rattle.dual_simplex.specs.declared.tableau.Choice.{Choice}
use Rattle.dual_simplex.specs.Equation.{Equation}
use Rattle.dual_simplex.specs.Tableau.{Tableau, all_fit, pivoted, line_at}
use Rattle.dual_simplex.specs.Run.{Outcome, Least, Nothing, Wide, Spent, ended}
use Rattle.dual_simplex.specs.Scans.{leaving, entering, after_entering, after_leaving, turn, run_from, outcome_of, count_entering, count_leaving, pivots_from, pivots_of}
use Rattle.dual_simplex.specs.Systems.{Inequalities, first_tableau}
use Rattle.dual_simplex.specs.Answer.{values_of, prices_of, unit_of, unit_fits, in_unit}
use Rattle.dual_simplex.specs.Promises.{SaysPivots}

-- the same with any number of pivots allowed
abbrev pub Agrees : ℕ → ℕ → Outcome → Type 0
Agrees most pivots (Least unit values price_unit prices) = pivots ≤ most
Agrees most pivots (Nothing variable) = pivots ≤ most
Agrees most pivots (Wide pivot) = (pivots ≡ pivot) × (pivots ≤ most)
Agrees most pivots Spent = pivots ≡ most

module _ (most pivot : ℕ) (less : pivot ≤ most) (t : Tableau) where
  ended_by : (b : Bool) (pivots : ℕ) → pivots ≡ pivot
      → Agrees most pivots (cond b (Least (unit_of (values_of t)) (map (in_unit (unit_of (values_of t))) (values_of t)) (unit_of (prices_of t)) (map (in_unit (unit_of (prices_of t))) (prices_of t))) (Wide pivot))
  ended_by true pivots e = omega arith
  ended_by false pivots e = (e, omega arith)

  ended_agrees : (pivots : ℕ) → pivots ≡ pivot → Agrees most pivots (ended pivot t)
  ended_agrees pivots e = ended_by (unit_fits (unit_of (values_of t)) (values_of t) && unit_fits (unit_of (prices_of t)) (prices_of t)) pivots e

  module _ (next : Tableau → Outcome) (count : Tableau → ℕ) (goes : (x : Tableau) → Agrees most (suc pivot + count x) (next x)) where
    entering_agrees : (line : Equation) (o : Option Choice) → Agrees most (pivot + count_entering t line count o) (after_entering t line next o)
    entering_agrees line None = omega arith
    entering_agrees line (Some choice) =
        let x = pivoted t line choice.place in
        let same : suc pivot + count x ≡ pivot + suc (count x) = omega arith in
        subst (λ k. Agrees most k (next x)) same (goes x)

    leaving_agrees : (o : Option Candidate) → Agrees most (pivot + count_leaving t count o) (after_leaving pivot t next o)
    leaving_agrees None = ended_agrees (pivot + 0) (omega arith)
    leaving_agrees (Some c) = entering_agrees (line_at t c.place) (entering t (line_at t c.place))

    turn_by : (b : Bool) → Agrees most (pivot + cond b (count_leaving t count (leaving t)) 0) (cond b (after_leaving pivot t next (leaving t)) (Wide pivot))
    turn_by true = leaving_agrees (leaving t)
    turn_by false = (omega arith, omega arith)

  module _ (last : pivot ≡ most) where
    last_entering : (line : Equation) (o : Option Choice) → Agrees most pivot (after_entering t line (λ _. Spent) o)
    last_entering line None = less
    last_entering line (Some choice) = last

    last_leaving : (o : Option Candidate) → Agrees most pivot (after_leaving pivot t (λ _. Spent) o)
    last_leaving None = ended_agrees pivot refl
    last_leaving (Some c) = last_entering (line_at t c.place) (entering t (line_at t c.place))

    last_by : (b : Bool) → Agrees most pivot (cond b (after_leaving pivot t (λ _. Spent) (leaving t)) (Wide pivot))
    last_by true = last_leaving (leaving t)
    last_by false = (refl, less)

run_agrees : (most left pivot : ℕ) (t : Tableau) → pivot + left ≡ most → Agrees most (pivot + pivots_from left t) (run_from left pivot t)
unfolding run_from pivots_from
run_agrees most zero pivot t e =
    let same : pivot ≡ pivot + 0 = omega arith in
    subst (λ k. Agrees most k (turn pivot t (λ _. Spent))) same (last_by most pivot (omega arith) t (omega arith) (all_fit t))
run_agrees most (suc left) pivot t e =
    turn_by most pivot (omega arith) t (run_from left (suc pivot)) (pivots_from left) (λ x. run_agrees most left (suc pivot) x (omega arith)) (all_fit t)

said : (n pivots : ℕ) (o : Outcome) → n ≡ pivots → Agrees 4096 n o → SaysPivots pivots o
said n pivots (Least unit values price_unit prices) e h = omega arith
said n pivots (Nothing variable) e h = omega arith
said n pivots (Wide pivot) e h = (sym e ∙ h.0, omega (arith, h.1))
said n pivots Spent e h = sym e ∙ h

pub count_says : (system : Inequalities) → SaysPivots (pivots_of system) (outcome_of system)
count_says system =
    let n = pivots_from 4096 (first_tableau system) in
    said (0 + n) n (outcome_of system) (omega arith) (run_agrees 4096 4096 0 (first_tableau system) refl)

-- for the code's answer
pub answer_pivots : (system : Inequalities) (pivots : ℕ) (o : Outcome) → o ≡ outcome_of system → pivots ≡ pivots_of system → SaysPivots pivots o
answer_pivots system pivots o e f = subst (SaysPivots pivots) (sym e) (subst (λ k. SaysPivots k (outcome_of system)) (sym f) (count_says system))
