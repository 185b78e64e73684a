-- The outcome of a run is true of its system.
use Rattle.std.proofs.Common.{◌≡◌, ℕ, suc, zero, pos, ◌*ℤ◌, Bool, true, false, cond, ◌&&◌, ap, sym, ◌∙◌, refl, subst, None, Some, map}
use Rattle.std.specs.Prelude.{Option}
use Rattle.dual_simplex.specs.declared.tableau.Candidate.{Candidate}
use Rattle.dual_simplex.specs.declared.tableau.Choice.{Choice}
use Rattle.dual_simplex.specs.Tableau.{Tableau, all_fit, pivoted, line_at}
use Rattle.dual_simplex.specs.Run.{Outcome, Least, Wide, Spent}
use Rattle.dual_simplex.specs.Scans.{leaving, entering, after_entering, after_leaving, turn, run_from, outcome_of}
use Rattle.dual_simplex.specs.Systems.{Inequalities, IsProper, first_tableau}
use Rattle.dual_simplex.specs.Feasible.{cost_at, worth}
use Rattle.dual_simplex.specs.Answer.{values_of, prices_of, unit_of, unit_fits, in_unit}
use Rattle.dual_simplex.specs.Promises.{SaysLeast, SaysPrices, SaysNothing}
use Rattle.dual_simplex.proofs.Ring.{times_comm, times_assoc, swap_times, cancel}
use Rattle.dual_simplex.proofs.Ratio.{NotNegative}
use Rattle.dual_simplex.proofs.Good.{Good, good_first, good_turn}
use Rattle.dual_simplex.proofs.Bounds.{nothing_feasible}
use Rattle.dual_simplex.proofs.Base.{values_cost, values_least}
use Rattle.dual_simplex.proofs.Dual.{prices_dual, prices_worth}

pub record Says (system : Inequalities) (o : Outcome) : Type 0 where
  pub least : SaysLeast system o
  pub prices : SaysPrices system o
  pub nothing : SaysNothing system o

module _ (system : Inequalities) (proper : IsProper system) (costs : NotNegative system.costs) where
  says_wide : (pivot : ℕ) → Says system (Wide pivot)
  says_wide pivot = record { least = tt; prices = tt; nothing = tt }

  equal_worth : (t : Tableau) → Good system t → leaving t ≡ None
      → worth system.rows (map (in_unit (unit_of (prices_of t))) (prices_of t)) *ℤ pos (unit_of (values_of t))
      ≡ cost_at system (map (in_unit (unit_of (values_of t))) (values_of t)) *ℤ pos (unit_of (prices_of t))
  equal_worth t g ends =
      let d = t.cost.divisor in
      let k = t.cost.constant in
      let u = pos (unit_of (values_of t)) in
      let q = pos (unit_of (prices_of t)) in
      let w = worth system.rows (map (in_unit (unit_of (prices_of t))) (prices_of t)) in
      let c = cost_at system (map (in_unit (unit_of (values_of t))) (values_of t)) in
      let a : d *ℤ (w *ℤ u) ≡ u *ℤ (q *ℤ k) = sym (times_assoc d w u) ∙ ap (λ x. x *ℤ u) (prices_worth system proper costs t g) ∙ times_comm (q *ℤ k) u in
      let b : d *ℤ (c *ℤ q) ≡ q *ℤ (u *ℤ k) = sym (times_assoc d c q) ∙ ap (λ x. x *ℤ q) (values_cost system proper t g ends) ∙ times_comm (u *ℤ k) q in
      cancel d (w *ℤ u) (c *ℤ q) g.cost_positive (a ∙ swap_times u q k ∙ sym b)

  ended_says : (b : Bool) (pivot : ℕ) (t : Tableau) → Good system t → leaving t ≡ None
      → Says system (cond b (Least (unit_of (values_of t)) (map (in_unit (unit_of (values_of t))) (values_of t)) (unit_of (prices_of t)) (map (in_unit (unit_of (prices_of t))) (prices_of t))) (Wide pivot))
  ended_says true pivot t g ends = record {
    least = values_least system proper t g ends costs;
    prices = (prices_dual system proper costs t g, equal_worth t g ends);
    nothing = tt;
  }
  ended_says false pivot t g ends = says_wide pivot

  module _ (next : Tableau → Outcome) (goes : (t : Tableau) → Good system t → Says system (next t)) (pivot : ℕ) (t : Tableau) (g : Good system t) where
    entering_says : (c : Candidate) (o : Option Choice) → leaving t ≡ Some c → entering t (line_at t c.place) ≡ o
        → Says system (after_entering t (line_at t c.place) next o)
    entering_says c None l e = record { least = tt; prices = tt; nothing = λ unit point f. nothing_feasible system t c unit point proper costs g l e f }
    entering_says c (Some choice) l e = goes (pivoted t (line_at t c.place) choice.place) (good_turn system t c choice g l e)

    leaving_says : (o : Option Candidate) → leaving t ≡ o → Says system (after_leaving pivot t next o)
    leaving_says None e = ended_says (unit_fits (unit_of (values_of t)) (values_of t) && unit_fits (unit_of (prices_of t)) (prices_of t)) pivot t g e
    leaving_says (Some c) e = entering_says c (entering t (line_at t c.place)) e refl

    turn_says_by : (b : Bool) → Says system (cond b (after_leaving pivot t next (leaving t)) (Wide pivot))
    turn_says_by true = leaving_says (leaving t) refl
    turn_says_by false = says_wide pivot

    turn_says : Says system (turn pivot t next)
    turn_says = turn_says_by (all_fit t)

  run_says : (left pivot : ℕ) (t : Tableau) → Good system t → Says system (run_from left pivot t)
  unfolding run_from
  run_says zero pivot t g = turn_says (λ x. Spent) (λ x h. record { least = tt; prices = tt; nothing = tt }) pivot t g
  run_says (suc left) pivot t g = turn_says (run_from left (suc pivot)) (λ x h. run_says left (suc pivot) x h) pivot t g

pub outcome_says : (system : Inequalities) → IsProper system → Says system (outcome_of system)
outcome_says system proper =
    let g = good_first system proper in
    run_says system proper g.costs 4096 0 (first_tableau system) g

-- for the code's answer
pub answer_least : (system : Inequalities) (o : Outcome) → IsProper system → o ≡ outcome_of system → SaysLeast system o
answer_least system o h e = subst (SaysLeast system) (sym e) (outcome_says system h).least

pub answer_prices : (system : Inequalities) (o : Outcome) → IsProper system → o ≡ outcome_of system → SaysPrices system o
answer_prices system o h e = subst (SaysPrices system) (sym e) (outcome_says system h).prices

pub answer_nothing : (system : Inequalities) (o : Outcome) → IsProper system → o ≡ outcome_of system → SaysNothing system o
answer_nothing system o h e = subst (SaysNothing system) (sym e) (outcome_says system h).nothing
