-- What holds of every tableau of a run.
use Rattle.std.proofs.Common.{◌≡◌, ℕ, suc, zero, ◌+◌, ◌<◌, ◌≤◌, ℤ, pos, List, [], ◌∷◌, map, length, set, get_or, arith, ap, sym, ◌∙◌, refl, subst, ◌⊎◌, inl, inr, None, Some, replicate, add-one, unsigned_abs, ◌^◌}
use Rattle.std.specs.Prelude.{neg_ℤ, ◌<ℤ◌, ◌≤ℤ◌, All}
use Rattle.std.specs.List.{range_with_len}
use Rattle.std.proofs.lemmas.Int.{ints}
use Rattle.std.proofs.lemmas.List.{length-map, length-set, length-replicate}
use Rattle.std.proofs.lemmas.List.FromFn.{length-range_with_len}
use Rattle.dual_simplex.specs.declared.tableau.Choice.{Choice}
use Rattle.dual_simplex.specs.declared.tableau.Candidate.{Candidate}
use Rattle.dual_simplex.specs.declared.system.Summand.{Summand}
use Rattle.dual_simplex.specs.Equation.{factor_at, solved_for}
use Rattle.dual_simplex.specs.Tableau.{Tableau, pivoted, no_line, line_at}
use Rattle.dual_simplex.specs.Scans.{leaving, entering}
use Rattle.dual_simplex.specs.Systems.{Inequality, Inequalities, IsProper, spread, slack_lines, first_tableau}
use Rattle.dual_simplex.proofs.Names.{one_if, one_if-same, one_if-other, uses, variables, places, only_line, places-pivoted, put_in-variable}
use Rattle.dual_simplex.proofs.Pivots.{AllWide, Means, wide_at, pivot_means, pivot_meant}
use Rattle.dual_simplex.proofs.Ratio.{NotNegative, NoneBelow, AllPositive, cost_not_negative, put_in_positive, put_in_width, positive_at, all_positive, all_wide, Found, entering_found, Gone, leaving_found}

pub record Good (system : Inequalities) (t : Tableau) : Type 0 where
  pub columns : length t.columns ≡ system.unknowns
  pub lines : length t.lines ≡ length system.rows
  pub wide : AllWide (length t.columns) t.lines
  pub cost_wide : length t.cost.factors ≡ length t.columns
  pub positive : AllPositive t.lines
  pub cost_positive : pos 0 <ℤ t.cost.divisor
  pub costs : NotNegative t.cost.factors
  pub once : (v : ℕ) → places v t ≤ 1
  pub cost_variable : t.cost.variable ≡ system.unknowns + length system.rows
  pub means : (val : ℕ → ℤ) (unit : ℤ) → Means (first_tableau system) val unit → Means t val unit
  pub meant : (val : ℕ → ℤ) (unit : ℤ) → Means t val unit → Means (first_tableau system) val unit

-- ---- the first tableau
spread_width : (fs : List ℤ) (ts : List Summand) → length (spread fs ts) ≡ length fs
spread_width fs [] = refl
spread_width fs (t ∷ ts) = spread_width (set fs t.unknown t.factor) ts ∙ length-set fs t.unknown t.factor

slacks_wide : (n variable : ℕ) (rows : List Inequality) → AllWide n (slack_lines n variable rows)
slacks_wide n variable [] = tt
slacks_wide n variable (row ∷ rows) = (spread_width (replicate n (pos 0)) row.terms ∙ length-replicate n (pos 0), slacks_wide n (suc variable) rows)

slacks_positive : (n variable : ℕ) (rows : List Inequality) → AllPositive (slack_lines n variable rows)
slacks_positive n variable [] = tt
slacks_positive n variable (row ∷ rows) = (omega (arith, ints), slacks_positive n (suc variable) rows)

slacks_length : (n variable : ℕ) (rows : List Inequality) → length (slack_lines n variable rows) ≡ length rows
slacks_length n variable [] = refl
slacks_length n variable (row ∷ rows) = ap suc (slacks_length n (suc variable) rows)

costs_not_negative : (costs : List ℤ) → All (λ cost. (pos 0 ≤ℤ cost) × (unsigned_abs cost ≤ 2 ^ 31)) costs → NotNegative costs
costs_not_negative [] h = tt
costs_not_negative (c ∷ cs) h = ((h 0 c (omega arith)).0, costs_not_negative cs (λ k d p. h (suc k) d (omega arith)))

-- where a number is in a run of numbers: at most once, and not outside of it
record InRun (v from n uses_it : ℕ) : Type 0 where
  most : uses_it ≤ 1
  low : v < from → uses_it ≡ 0
  high : from + n ≤ v → uses_it ≡ 0

in_run_step : (v from n k : ℕ) → (from ≡ v) ⊎ (from ≡ v → ⊥) → InRun v (suc from) n k → InRun v from (suc n) (one_if from v + k)
in_run_step v from n k (inl same) r =
    let o = ap (λ x. one_if x v) same ∙ one_if-same v in
    let z = r.low (omega arith) in
    record { most = omega arith; low = λ p. absurd (omega arith); high = λ p. absurd (omega arith) }
in_run_step v from n k (inr other) r =
    let o = one_if-other from v other in
    let m = r.most in
    record { most = omega arith; low = λ p. let z = r.low (omega arith) in omega arith; high = λ p. let z = r.high (omega arith) in omega arith }

equal_or_not : (a b : ℕ) → (a ≡ b) ⊎ (a ≡ b → ⊥)
equal_or_not a b = grind arith

in_run_none : (v from : ℕ) → InRun v from 0 0
in_run_none v from = record { most = omega arith; low = λ p. refl; high = λ p. refl }

run_uses : (v from n : ℕ) → InRun v from n (uses v (range_with_len from n))
run_uses v from zero = in_run_none v from
run_uses v from (suc n) =
    in_run_step v from n (uses v (range_with_len (from + 1) n)) (equal_or_not from v)
    (subst (λ k. InRun v k n (uses v (range_with_len (from + 1) n))) (add-one from) (run_uses v (from + 1) n))

slacks_uses : (v n from : ℕ) (rows : List Inequality) → InRun v from (length rows) (uses v (variables (slack_lines n from rows)))
slacks_uses v n from [] = in_run_none v from
slacks_uses v n from (row ∷ rows) = in_run_step v from (length rows) (uses v (variables (slack_lines n (suc from) rows))) (equal_or_not from v) (slacks_uses v n (suc from) rows)

order : (a b : ℕ) → (a < b) ⊎ (b ≤ a)
order a b = grind arith

once_by : (v n m a b : ℕ) → (n + m ≡ v) ⊎ (n + m ≡ v → ⊥) → (v < n) ⊎ (n ≤ v) → InRun v n m a → InRun v 0 n b → one_if (n + m) v + (a + b) ≤ 1
once_by v n m a b (inl same) o r s =
    let z = r.high (omega arith) in let y = s.high (omega arith) in let x = ap (λ k. one_if k v) same ∙ one_if-same v in omega arith
once_by v n m a b (inr other) (inl below) r s =
    let z = r.low below in let y = s.most in let x = one_if-other (n + m) v other in omega arith
once_by v n m a b (inr other) (inr above) r s =
    let z = r.most in let y = s.high (omega arith) in let x = one_if-other (n + m) v other in omega arith

pub good_first : (system : Inequalities) → IsProper system → Good system (first_tableau system)
good_first system h =
    let n = system.unknowns in
    let m = length system.rows in
    let width : length (range_with_len 0 n) ≡ n = length-range_with_len 0 n in
    record {
      columns = width;
      lines = slacks_length n n system.rows;
      wide = subst (λ k. AllWide k (slack_lines n n system.rows)) (sym width) (slacks_wide n n system.rows);
      cost_wide = h.costs ∙ sym width;
      positive = slacks_positive n n system.rows;
      cost_positive = omega (arith, ints);
      costs = costs_not_negative system.costs h.not_negative;
      once = λ v. once_by v n m (uses v (variables (slack_lines n n system.rows))) (uses v (range_with_len 0 n)) (equal_or_not (n + m) v) (order v n) (slacks_uses v n n system.rows) (run_uses v 0 n);
      cost_variable = refl;
      means = λ val unit k. k;
      meant = λ val unit k. k;
    }

-- ---- a pivot
pub not_negative_at : (xs : List ℤ) (i : ℕ) → NotNegative xs → pos 0 ≤ℤ get_or xs i (pos 0)
not_negative_at [] i h = omega (arith, ints)
not_negative_at (x ∷ xs) zero h = h.0
not_negative_at (x ∷ xs) (suc i) h = not_negative_at xs i h.1

pub good_pivot : (system : Inequalities) (t : Tableau) (i place : ℕ) → Good system t → i < length t.lines → place < length t.columns
    → pos 0 <ℤ factor_at place (line_at t i) → NoneBelow (factor_at place (line_at t i)) (factor_at place t.cost) t.cost.factors (line_at t i).factors
    → Good system (pivoted t (line_at t i) place)
good_pivot system t i place g p q f b =
    let line = get_or t.lines i no_line in
    let s = solved_for place (get_or t.columns place 0) line in
    let w = wide_at (length t.columns) t.lines i p g.wide in
    let width : length (set t.columns place line.variable) ≡ length t.columns = length-set t.columns place line.variable in
    let solved_wide : length s.factors ≡ length t.columns = length-set (map neg_ℤ line.factors) place line.divisor ∙ length-map line.factors neg_ℤ ∙ w in
    let lines_once : uses line.variable (variables t.lines) ≤ 1 = omega (arith, g.once line.variable) in
    record {
      columns = width ∙ g.columns;
      lines = length-map t.lines _ ∙ g.lines;
      wide = subst (λ k. AllWide k (pivoted t line place).lines) (sym width) (all_wide (length t.columns) line.variable place s t.lines solved_wide g.wide);
      cost_wide = put_in_width (length t.columns) place s t.cost solved_wide g.cost_wide ∙ sym width;
      positive = all_positive line.variable place s t.lines f g.positive;
      cost_positive = put_in_positive place s t.cost f g.cost_positive;
      costs = cost_not_negative place (get_or t.columns place 0) line t.cost (positive_at t.lines i p g.positive) (not_negative_at t.cost.factors place g.costs) g.costs b;
      once = λ v. let k = places-pivoted t i place v p q lines_once in omega (arith, k, g.once v);
      cost_variable = put_in-variable place s t.cost ∙ g.cost_variable;
      means = λ val unit k. pivot_means t i place q p g.wide g.cost_wide f val unit (g.means val unit k);
      meant = λ val unit k. g.meant val unit (pivot_meant t i place q p g.wide g.cost_wide f val unit (only_line t.lines i p lines_once) k);
    }

-- the line and the column that a turn picks
pub leaves_there : (t : Tableau) (c : Candidate) → leaving t ≡ Some c → Gone t.lines (length t.lines) c
leaves_there t c e =
    let zero_plus : (j : ℕ) → 0 + j ≡ j = λ j. omega arith in
    leaving_found t.lines None 0 (length t.lines) t.lines c (λ j. ap (λ k. get_or t.lines k no_line) (sym (zero_plus j))) (omega arith) tt e

pub enters_there : (system : Inequalities) (t : Tableau) (i : ℕ) (choice : Choice) → Good system t → i < length t.lines → entering t (line_at t i) ≡ Some choice
    → Found t.cost.factors (line_at t i).factors (length t.columns) None t.cost.factors (line_at t i).factors choice
enters_there system t i choice g p e =
    let zero_plus : (j : ℕ) → 0 + j ≡ j = λ j. omega arith in
    entering_found t.cost.factors (line_at t i).factors None 0 (length t.columns) t.columns t.cost.factors (line_at t i).factors choice g.costs
    (λ j. ap (λ k. get_or t.cost.factors k (pos 0)) (sym (zero_plus j))) (λ j. ap (λ k. get_or (line_at t i).factors k (pos 0)) (sym (zero_plus j)))
    (omega arith) tt e g.cost_wide (wide_at (length t.columns) t.lines i p g.wide)

pub good_turn : (system : Inequalities) (t : Tableau) (c : Candidate) (choice : Choice) → Good system t → leaving t ≡ Some c
    → entering t (line_at t c.place) ≡ Some choice
    → Good system (pivoted t (line_at t c.place) choice.place)
good_turn system t c choice g l e =
    let gone = leaves_there t c l in
    let found = enters_there system t c.place choice g gone.inside e in
    let factor = subst (λ x. pos 0 <ℤ x) found.fine.factor found.fine.positive in
    let below = subst (λ x. NoneBelow x (factor_at choice.place t.cost) t.cost.factors (line_at t c.place).factors) found.fine.factor
    (subst (λ x. NoneBelow choice.factor x t.cost.factors (line_at t c.place).factors) found.fine.cost found.none_below) in
    good_pivot system t c.place choice.place g gone.inside found.fine.inside factor below
