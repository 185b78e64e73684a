-- What a tableau says of all feasible solutions: none, or none that costs less.
use Rattle.std.proofs.Common.{◌≡◌, ℕ, ◌+◌, ◌-◌, ◌<◌, ◌≤◌, ℤ, pos, ◌*ℤ◌, List, [], ◌∷◌, map, length, get_or, arith, ap, sym, ◌∙◌, subst, ◌⊎◌, inl, inr, None, Some}
use Rattle.std.specs.Prelude.{◌≤ℤ◌}
use Rattle.std.proofs.lemmas.Int.{ints}
use Rattle.dual_simplex.specs.declared.tableau.Candidate.{Candidate}
use Rattle.dual_simplex.specs.Tableau.{Tableau, no_line, line_at}
use Rattle.dual_simplex.specs.Scans.{leaving, entering}
use Rattle.dual_simplex.specs.Systems.{Inequalities, IsProper}
use Rattle.dual_simplex.specs.Feasible.{total, IsFeasible}
use Rattle.dual_simplex.proofs.Ring.{sums, not_negative_times, not_positive_times, negative_times}
use Rattle.dual_simplex.proofs.Meaning.{dot}
use Rattle.dual_simplex.proofs.Pivots.{wide_at, hold_at}
use Rattle.dual_simplex.proofs.Ratio.{NotNegative, NotPositive, positive_at, none_enters}
use Rattle.dual_simplex.proofs.Points.{no_row, slack, slack_is, value_at, value_unknown, value_slack, value_past, value_cost, first_means}
use Rattle.dual_simplex.proofs.Good.{Good, leaves_there}

order : (a b : ℕ) → (a < b) ⊎ (b ≤ a)
order a b = grind arith

pub total_not_negative : (cs : List ℤ) (xs : List ℕ) → NotNegative cs → pos 0 ≤ℤ total cs xs
total_not_negative [] xs h = omega (arith, ints)
total_not_negative (c ∷ cs) [] h = omega (arith, ints)
total_not_negative (c ∷ cs) (x ∷ xs) h =
    let k = not_negative_times c (pos x) h.0 (omega (arith, ints)) in
    let ih = total_not_negative cs xs h.1 in
    omega (arith, sums)

-- the values of all variables at a feasible solution
value_by : (system : Inequalities) (unit : ℕ) (point : List ℕ) (v : ℕ) → NotNegative system.costs → IsFeasible system unit point
    → (v < system.unknowns) ⊎ (system.unknowns ≤ v) → (v < system.unknowns + length system.rows) ⊎ (system.unknowns + length system.rows ≤ v)
    → pos 0 ≤ℤ value_at system unit point v
value_by system unit point v n f (inl p) o = subst (λ x. pos 0 ≤ℤ x) (sym (value_unknown system unit point v p)) (omega (arith, ints))
value_by system unit point v n f (inr p) (inl q) =
    let i = v - system.unknowns in
    let e : system.unknowns + i ≡ v = omega arith in
    let inside : i < length system.rows = omega arith in
    let met = (f.rows i no_row inside).met in
    let s = slack_is unit point (get_or system.rows i no_row) in
    let k : pos 0 ≤ℤ slack unit point (get_or system.rows i no_row) = omega (arith, sums) in
    subst (λ w. pos 0 ≤ℤ value_at system unit point w) e (subst (λ x. pos 0 ≤ℤ x) (sym (value_slack system unit point i inside)) k)
value_by system unit point v n f (inr p) (inr q) =
    subst (λ x. pos 0 ≤ℤ x) (sym (value_past system unit point v q)) (total_not_negative system.costs point n)

pub value_not_negative : (system : Inequalities) (unit : ℕ) (point : List ℕ) → NotNegative system.costs → IsFeasible system unit point
    → (v : ℕ) → pos 0 ≤ℤ value_at system unit point v
value_not_negative system unit point n f v = value_by system unit point v n f (order v system.unknowns) (order v (system.unknowns + length system.rows))

pub dot_not_negative : (val : ℕ → ℤ) (cs : List ℤ) (ws : List ℕ) → NotNegative cs → ((v : ℕ) → pos 0 ≤ℤ val v) → pos 0 ≤ℤ dot cs (map val ws)
dot_not_negative val [] ws h n = omega (arith, ints)
dot_not_negative val (c ∷ cs) [] h n = omega (arith, ints)
dot_not_negative val (c ∷ cs) (w ∷ ws) h n =
    let k = not_negative_times c (val w) h.0 (n w) in
    let ih = dot_not_negative val cs ws h.1 n in
    omega (arith, sums)

dot_not_positive : (val : ℕ → ℤ) (cs : List ℤ) (ws : List ℕ) → NotPositive cs → ((v : ℕ) → pos 0 ≤ℤ val v) → dot cs (map val ws) ≤ℤ pos 0
dot_not_positive val [] ws h n = omega (arith, ints)
dot_not_positive val (c ∷ cs) [] h n = omega (arith, ints)
dot_not_positive val (c ∷ cs) (w ∷ ws) h n =
    let k = not_positive_times c (val w) h.0 (n w) in
    let ih = dot_not_positive val cs ws h.1 n in
    omega (arith, sums)

-- a line with a negative constant that no column may enter: nothing is feasible
pub nothing_feasible : (system : Inequalities) (t : Tableau) (c : Candidate) (unit : ℕ) (point : List ℕ) → IsProper system → NotNegative system.costs
    → Good system t
    → leaving t ≡ Some c → entering t (line_at t c.place) ≡ None → IsFeasible system unit point → ⊥
nothing_feasible system t c unit point proper costs g l e f =
    let gone = leaves_there t c l in
    let line = get_or t.lines c.place no_line in
    let val = value_at system unit point in
    let n = value_not_negative system unit point costs f in
    let m = g.means val (pos unit) (first_means system unit point proper f.numbers) in
    let h = hold_at val (map val t.columns) (pos unit) t.lines c.place gone.inside m.lines in
    let i = h.is in
    let negative = negative_times line.constant (pos unit) gone.negative (let u = f.unit_positive in omega (arith, ints)) in
    let low = dot_not_positive val line.factors t.columns (none_enters 0 t.columns t.cost.factors line.factors g.cost_wide (wide_at (length t.columns) t.lines c.place gone.inside g.wide) e) n in
    let high = not_negative_times line.divisor (val line.variable) (let p = positive_at t.lines c.place gone.inside g.positive in omega (arith, sums)) (n line.variable) in
    absurd (omega (arith, sums))

-- the cost of each feasible solution is at least the cost line's constant
pub cost_at_least : (system : Inequalities) (t : Tableau) (unit : ℕ) (point : List ℕ) → IsProper system → NotNegative system.costs → Good system t
    → IsFeasible system unit point
    → (t.cost.constant *ℤ pos unit) ≤ℤ (t.cost.divisor *ℤ total system.costs point)
cost_at_least system t unit point proper costs g f =
    let val = value_at system unit point in
    let n = value_not_negative system unit point costs f in
    let m = g.means val (pos unit) (first_means system unit point proper f.numbers) in
    let i = m.cost.is in
    let z = ap (λ v. t.cost.divisor *ℤ v) (ap val g.cost_variable ∙ value_cost system unit point) in
    let low = dot_not_negative val t.cost.factors t.columns g.costs n in
    omega (arith, sums)
