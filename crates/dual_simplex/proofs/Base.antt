-- The point of a tableau at which the columns' variables are 0.
use Rattle.std.proofs.Common.{◌≡◌, ℕ, suc, zero, ◌+◌, ◌*◌, ◌/◌, ◌<◌, ◌≤◌, ℤ, pos, ◌*ℤ◌, List, [], ◌∷◌, map, length, get_or, Bool, true, false, cond, nat_eq, arith, ap, sym, ◌∙◌, refl, subst, None, unsigned_abs}
use Rattle.std.specs.Prelude.{◌<ℤ◌, ◌≤ℤ◌, All}
use Rattle.std.specs.List.{range_with_len}
use Rattle.std.proofs.lemmas.Int.{ints}
use Rattle.std.proofs.lemmas.List.{length-map, get_or-map}
use Rattle.std.proofs.lemmas.List.FromFn.{length-range_with_len, get_or-range_with_len}
use native.Mathlib.Nat.{mul-div_cancel', dvd-mul_right, dvd-mul_left_of_dvd}
use Prim.Native.Nat.{◌∣◌}
use Rattle.dual_simplex.specs.declared.answer.Fraction.{Fraction}
use Rattle.dual_simplex.specs.Equation.{Equation}
use Rattle.dual_simplex.specs.Tableau.{Tableau, no_line}
use Rattle.dual_simplex.specs.Scans.{leaving}
use Rattle.dual_simplex.specs.Systems.{Inequality, Inequalities, IsProper, slack_line, slack_lines, first_tableau}
use Rattle.dual_simplex.specs.Feasible.{sum_at, total, IsFeasible, IsLeast, cost_at}
use Rattle.dual_simplex.specs.Answer.{value_of, values_of, unit_of, in_unit}
use Rattle.dual_simplex.proofs.Units.{whole_at, unit_whole, unit_positive}
use Rattle.dual_simplex.proofs.Ring.{sums, distrib, times_comm, times_assoc, swap_times, times_zero, zero_times, one_times, times_neg, not_negative_times, times_at_most, cancel, cancel_at_most}
use Rattle.dual_simplex.proofs.Meaning.{dot, Holds}
use Rattle.dual_simplex.proofs.Names.{one_if, uses, uses_at, variables}
use Rattle.dual_simplex.proofs.Pivots.{AllHold, Means, hold_at}
use Rattle.dual_simplex.proofs.Ratio.{AllPositive, NotNegative, ConstantsNotNegative, positive_at, none_leaves}
use Rattle.dual_simplex.proofs.Points.{no_row, row_dot, dot_total}
use Rattle.dual_simplex.proofs.Good.{Good}
use Rattle.dual_simplex.proofs.Loops.{get_any}
use Rattle.dual_simplex.proofs.Bounds.{cost_at_least}

-- a common multiple of all divisors
pub divisors : List Equation → ℕ
divisors [] = 1
divisors (e ∷ es) = unsigned_abs e.divisor * divisors es

abbrev AllDivide : ℕ → List Equation → Type 0
AllDivide p [] = Unit {0}
AllDivide p (e ∷ es) = (unsigned_abs e.divisor ∣ p) × AllDivide p es

divide_more : (k p : ℕ) (es : List Equation) → AllDivide p es → AllDivide (k * p) es
divide_more k p [] h = tt
divide_more k p (e ∷ es) h = (dvd-mul_left_of_dvd (unsigned_abs e.divisor) h.0 k, divide_more k p es h.1)

all_divide : (es : List Equation) → AllDivide (divisors es) es
unfolding divisors
all_divide [] = tt
all_divide (e ∷ es) = (dvd-mul_right (unsigned_abs e.divisor) (divisors es), divide_more (unsigned_abs e.divisor) (divisors es) es (all_divide es))

product_positive : (a b : ℕ) → 0 < a → 0 < b → 0 < a * b
product_positive zero b p q = absurd (omega arith)
product_positive (suc a) zero p q = absurd (omega arith)
product_positive (suc a) (suc b) p q = omega arith

abs_positive : (x : ℤ) → pos 0 <ℤ x → 0 < unsigned_abs x
abs_positive x h = omega (arith, ints)

abs_is : (x : ℤ) → pos 0 ≤ℤ x → pos (unsigned_abs x) ≡ x
abs_is x h = omega (arith, ints)

divisors_positive : (es : List Equation) → AllPositive es → 0 < divisors es
unfolding divisors
divisors_positive [] h = omega arith
divisors_positive (e ∷ es) h = product_positive (unsigned_abs e.divisor) (divisors es) (abs_positive e.divisor h.0) (divisors_positive es h.1)

-- constant over divisor, times p
abbrev quot : ℕ → Equation → ℤ
quot p e = pos (p / unsigned_abs e.divisor) *ℤ e.constant

quot_is : (p : ℕ) (e : Equation) → pos 0 <ℤ e.divisor → unsigned_abs e.divisor ∣ p → e.divisor *ℤ quot p e ≡ pos p *ℤ e.constant
quot_is p e h d =
    let a = abs_is e.divisor (omega (arith, sums)) in
    let k : pos (unsigned_abs e.divisor) *ℤ pos (p / unsigned_abs e.divisor) ≡ pos p = ap pos (mul-div_cancel' (unsigned_abs e.divisor) d) in
    sym (times_assoc e.divisor (pos (p / unsigned_abs e.divisor)) e.constant) ∙ ap (λ x. (x *ℤ pos (p / unsigned_abs e.divisor)) *ℤ e.constant) (sym a) ∙ ap (λ x. x *ℤ e.constant) k

abbrev line_value : ℕ → ℕ → List Equation → ℤ
line_value p v [] = pos 0
line_value p v (e ∷ es) = cond (nat_eq e.variable v) (quot p e) (line_value p v es)

abbrev base : ℕ → Tableau → ℕ → ℤ
base p t v = cond (nat_eq t.cost.variable v) (quot p t.cost) (line_value p v t.lines)

test_zero : (x v : ℕ) → one_if x v ≡ 0 → nat_eq x v ≡ false
test_zero x v h = by (nat_eq x v) h
  where
    by : (b : Bool) → ◌≡◌ {A = ℕ} (cond b 1 0) 0 → b ≡ false
    by true e = absurd (omega arith)
    by false e = refl

test_same : (x : ℕ) → nat_eq x x ≡ true
test_same x = grind arith

test_other : (x y : ℕ) → (x ≡ y → ⊥) → nat_eq x y ≡ false
test_other x y h = grind arith

line_value_absent : (p v : ℕ) (es : List Equation) → uses v (variables es) ≡ 0 → line_value p v es ≡ pos 0
line_value_absent p v [] h = refl
line_value_absent p v (e ∷ es) h =
    ap (λ b. cond b (quot p e) (line_value p v es)) (test_zero e.variable v (omega (arith, h))) ∙ line_value_absent p v es (omega (arith, h))

used_at : (es : List Equation) (i : ℕ) → i < length es → 1 ≤ uses (get_or es i no_line).variable (variables es)
used_at es i p =
    subst (λ x. 1 ≤ uses x (variables es)) (get_or-map (λ x. x.variable) es i no_line 0 p) (uses_at (variables es) i (rw (length-map es (λ x. x.variable)) p))

line_value_at : (p : ℕ) (es : List Equation) (i : ℕ) → i < length es → uses (get_or es i no_line).variable (variables es) ≤ 1
    → line_value p (get_or es i no_line).variable es ≡ quot p (get_or es i no_line)
line_value_at p [] i q h = absurd (omega arith)
line_value_at p (e ∷ es) zero q h = ap (λ b. cond b (quot p e) (line_value p e.variable es)) (test_same e.variable)
line_value_at p (e ∷ es) (suc i) q h =
    let line = get_or es i no_line in
    let there = used_at es i (omega arith) in
    ap (λ b. cond b (quot p e) (line_value p line.variable es)) (test_zero e.variable line.variable (omega (arith, h, there))) ∙ line_value_at p es i (omega arith) (omega (arith, h))

module _ (system : Inequalities) (t : Tableau) (g : Good system t) (p : ℕ) where
  base_cost : base p t t.cost.variable ≡ quot p t.cost
  base_cost = ap (λ b. cond b (quot p t.cost) (line_value p t.cost.variable t.lines)) (test_same t.cost.variable)

  base_line : (i : ℕ) → i < length t.lines → base p t (get_or t.lines i no_line).variable ≡ quot p (get_or t.lines i no_line)
  base_line i q =
      let line = get_or t.lines i no_line in
      let there = used_at t.lines i q in
      let o = g.once line.variable in
      ap (λ b. cond b (quot p t.cost) (line_value p line.variable t.lines)) (test_zero t.cost.variable line.variable (omega (arith, o, there)))
      ∙ line_value_at p t.lines i q (omega (arith, o))

  base_column : (j : ℕ) → j < length t.columns → base p t (get_or t.columns j 0) ≡ pos 0
  base_column j q =
      let w = get_or t.columns j 0 in
      let there = uses_at t.columns j q in
      let o = g.once w in
      ap (λ b. cond b (quot p t.cost) (line_value p w t.lines)) (test_zero t.cost.variable w (omega (arith, o, there))) ∙ line_value_absent p w t.lines (omega (arith, o, there))

  base_other : (v : ℕ) → (t.cost.variable ≡ v → ⊥) → base p t v ≡ line_value p v t.lines
  base_other v h = ap (λ b. cond b (quot p t.cost) (line_value p v t.lines)) (test_other t.cost.variable v h)

dot_zeros : (fs xs : List ℤ) → ((j : ℕ) → j < length xs → get_or xs j (pos 0) ≡ pos 0) → dot fs xs ≡ pos 0
dot_zeros [] xs h = refl
dot_zeros (f ∷ fs) [] h = refl
dot_zeros (f ∷ fs) (x ∷ xs) h =
    let ih = dot_zeros fs xs (λ j p. h (suc j) (omega arith)) in
    let z = ap (λ y. f *ℤ y) (h 0 (omega arith)) ∙ times_zero f in
    omega (arith, sums)

all_hold_from : (val : ℕ → ℤ) (xs : List ℤ) (unit : ℤ) (es : List Equation)
    → ((i : ℕ) → i < length es → Holds (get_or es i no_line) (val (get_or es i no_line).variable) xs unit) → AllHold val xs unit es
all_hold_from val xs unit [] h = tt
all_hold_from val xs unit (e ∷ es) h = (h 0 (omega arith), all_hold_from val xs unit es (λ i p. h (suc i) (omega arith)))

divide_at : (p : ℕ) (es : List Equation) (i : ℕ) → i < length es → AllDivide p es → unsigned_abs (get_or es i no_line).divisor ∣ p
divide_at p [] i q h = absurd (omega arith)
divide_at p (e ∷ es) zero q h = h.0
divide_at p (e ∷ es) (suc i) q h = divide_at p es i (omega arith) h.1

base_means : (system : Inequalities) (t : Tableau) (p : ℕ) → Good system t → AllDivide p t.lines → unsigned_abs t.cost.divisor ∣ p → Means t (base p t) (pos p)
base_means system t p g d c =
    let val = base p t in
    let xs = map val t.columns in
    let zeros : (j : ℕ) → j < length xs → get_or xs j (pos 0) ≡ pos 0 = λ j q.
    let inside : j < length t.columns = subst (λ k. j < k) (length-map t.columns val) q in
    get_or-map val t.columns j 0 (pos 0) inside ∙ base_column system t g p j inside in
    record {
      lines = all_hold_from val xs (pos p) t.lines (λ i q.
          let e = get_or t.lines i no_line in
          let a = ap (λ x. e.divisor *ℤ x) (base_line system t g p i q) ∙ quot_is p e (positive_at t.lines i q g.positive) (divide_at p t.lines i q d) in
          let b = times_comm (pos p) e.constant in
          let z = dot_zeros e.factors xs zeros in
          record { is = omega (arith, sums) });
      cost =
          let e = t.cost in
          let a = ap (λ x. e.divisor *ℤ x) (base_cost system t g p) ∙ quot_is p e g.cost_positive c in
          let b = times_comm (pos p) e.constant in
          let z = dot_zeros e.factors xs zeros in
          record { is = omega (arith, sums) };
    }

-- ---- the answer's values are that point
fraction_by : (b : Bool) (p unit : ℕ) (e : Equation) (f : Fraction) (rest : ℤ) → pos 0 <ℤ e.divisor → pos 0 ≤ℤ e.constant → unsigned_abs e.divisor ∣ p
    → pos f.below *ℤ rest ≡ pos p *ℤ pos f.above
    → pos (cond b (record { above = unsigned_abs e.constant; below = unsigned_abs e.divisor }) f).below *ℤ cond b (quot p e) rest
    ≡ pos p *ℤ pos (cond b (record { above = unsigned_abs e.constant; below = unsigned_abs e.divisor }) f).above
fraction_by true p unit e f rest h k d ih =
    ap (λ x. x *ℤ quot p e) (abs_is e.divisor (omega (arith, sums))) ∙ quot_is p e h d ∙ ap (λ x. pos p *ℤ x) (sym (abs_is e.constant k))
fraction_by false p unit e f rest h k d ih = ih

value_relation : (p v : ℕ) (es : List Equation) → AllPositive es → ConstantsNotNegative es → AllDivide p es
    → pos (value_of v es).below *ℤ line_value p v es ≡ pos p *ℤ pos (value_of v es).above
value_relation p v [] a b d = omega (arith, ints)
value_relation p v (e ∷ es) a b d =
    fraction_by (nat_eq e.variable v) p 0 e (value_of v es) (line_value p v es) a.0 b.0 d.0 (value_relation p v es a.1 b.1 d.1)

below_by : (b : Bool) (x y : Fraction) → 0 < x.below → 0 < y.below → 0 < (cond b x y).below
below_by true x y p q = p
below_by false x y p q = q

value_below : (v : ℕ) (es : List Equation) → AllPositive es → 0 < (value_of v es).below
value_below v [] h = omega arith
value_below v (e ∷ es) h = below_by (nat_eq e.variable v) (record { above = unsigned_abs e.constant; below = unsigned_abs e.divisor }) (value_of v es) (abs_positive e.divisor h.0) (value_below v es h.1)

-- a fraction in a unit that makes it whole
unit_relation : (p unit : ℕ) (f : Fraction) (x : ℤ) → 0 < f.below → f.below ∣ (unit * f.above) → pos f.below *ℤ x ≡ pos p *ℤ pos f.above
    → pos p *ℤ pos (in_unit unit f) ≡ pos unit *ℤ x
unit_relation p unit f x h d e =
    let k : pos f.below *ℤ pos (in_unit unit f) ≡ pos unit *ℤ pos f.above = ap pos (mul-div_cancel' f.below d) in
    cancel (pos f.below) (pos p *ℤ pos (in_unit unit f)) (pos unit *ℤ x) (omega (arith, ints))
    (swap_times (pos f.below) (pos p) (pos (in_unit unit f)) ∙ ap (λ y. pos p *ℤ y) k ∙ swap_times (pos p) (pos unit) (pos f.above)
    ∙ ap (λ y. pos unit *ℤ y) (sym e) ∙ swap_times (pos unit) (pos f.below) x)

made_below : (f : ℕ → Fraction) (from n : ℕ) → ((v : ℕ) → 0 < (f v).below) → All (λ x. 0 < x.below) (map f (range_with_len from n))
made_below f from zero h k d q = absurd (omega arith)
made_below f from (suc n) h zero d q = h from
made_below f from (suc n) h (suc k) d q = made_below f (from + 1) n h k d (omega arith)

pub made_at : (f : ℕ → Fraction) (from n i : ℕ) (d : Fraction) → i < n → get_or (map f (range_with_len from n)) i d ≡ f (from + i)
made_at f from n i d q =
    get_or-map f (range_with_len from n) i 0 d (rw (length-range_with_len from n) q) ∙ ap f (get_or-range_with_len from n i 0 q)

pub made_length : (f : ℕ → Fraction) (from n : ℕ) → length (map f (range_with_len from n)) ≡ n
made_length f from n = length-map (range_with_len from n) f ∙ length-range_with_len from n

pub made_positive : (f : ℕ → Fraction) (from n : ℕ) → ((v : ℕ) → 0 < (f v).below) → All (λ x. 0 < x.below) (map f (range_with_len from n))
made_positive = made_below

dot_scaled : (p q : ℤ) (fs xs ys : List ℤ) → length xs ≡ length ys → ((j : ℕ) → j < length xs → p *ℤ get_or xs j (pos 0) ≡ q *ℤ get_or ys j (pos 0))
    → p *ℤ dot fs xs ≡ q *ℤ dot fs ys
dot_scaled p q [] xs ys e h = times_zero p ∙ sym (times_zero q)
dot_scaled p q (f ∷ fs) [] [] e h = times_zero p ∙ sym (times_zero q)
dot_scaled p q (f ∷ fs) [] (y ∷ ys) e h = absurd (omega (arith, e))
dot_scaled p q (f ∷ fs) (x ∷ xs) [] e h = absurd (omega (arith, e))
dot_scaled p q (f ∷ fs) (x ∷ xs) (y ∷ ys) e h =
    let ih = dot_scaled p q fs xs ys (omega (arith, e)) (λ j k. h (suc j) (omega arith)) in
    let a = distrib p (f *ℤ x) (dot fs xs) in
    let b = distrib q (f *ℤ y) (dot fs ys) in
    let c = swap_times p f x ∙ ap (λ z. f *ℤ z) (h 0 (omega arith)) ∙ swap_times f q y in
    omega (arith, sums)

slack_line_at : (n from : ℕ) (rows : List Inequality) (i : ℕ) → i < length rows
    → get_or (slack_lines n from rows) i no_line ≡ slack_line n (from + i) (get_or rows i no_row)
slack_line_at n from [] i q = absurd (omega arith)
slack_line_at n from (row ∷ rows) zero q = let e : from ≡ from + 0 = omega arith in ap (λ k. slack_line n k row) e
slack_line_at n from (row ∷ rows) (suc i) q =
    let e : suc from + i ≡ from + suc i = omega arith in
    slack_line_at n (suc from) rows i (omega arith) ∙ ap (λ k. slack_line n k (get_or rows i no_row)) e

slack_lines_length : (n from : ℕ) (rows : List Inequality) → length (slack_lines n from rows) ≡ length rows
slack_lines_length n from [] = refl
slack_lines_length n from (row ∷ rows) = ap suc (slack_lines_length n (suc from) rows)

line_value_not_negative : (p v : ℕ) (es : List Equation) → ConstantsNotNegative es → pos 0 ≤ℤ line_value p v es
line_value_not_negative p v [] h = omega (arith, ints)
line_value_not_negative p v (e ∷ es) h = by (nat_eq e.variable v) (line_value_not_negative p v es h.1)
  where
    by : (b : Bool) → pos 0 ≤ℤ line_value p v es → pos 0 ≤ℤ cond b (quot p e) (line_value p v es)
    by true ih = not_negative_times (pos (p / unsigned_abs e.divisor)) e.constant (omega (arith, ints)) h.0
    by false ih = ih

module _ (system : Inequalities) (proper : IsProper system) (t : Tableau) (g : Good system t) (ends : leaving t ≡ None) where
  multiple : ℕ
  multiple = unsigned_abs t.cost.divisor * divisors t.lines

  constants : ConstantsNotNegative t.lines
  constants = none_leaves 0 t.lines ends

  lines_divide : AllDivide multiple t.lines
  unfolding multiple
  lines_divide = divide_more (unsigned_abs t.cost.divisor) (divisors t.lines) t.lines (all_divide t.lines)

  multiple_positive : pos 0 <ℤ pos multiple
  unfolding multiple
  multiple_positive = let k = product_positive (unsigned_abs t.cost.divisor) (divisors t.lines) (abs_positive t.cost.divisor g.cost_positive) (divisors_positive t.lines g.positive) in omega (arith, ints)

  cost_divides : unsigned_abs t.cost.divisor ∣ multiple
  unfolding multiple
  cost_divides = dvd-mul_right (unsigned_abs t.cost.divisor) (divisors t.lines)

  point : ℕ → ℤ
  point = base multiple t

  point_means : Means (first_tableau system) point (pos multiple)
  unfolding point
  point_means = g.meant (base multiple t) (pos multiple) (base_means system t multiple g lines_divide cost_divides)

  unit : ℕ
  unit = unit_of (values_of t)

  values : List ℕ
  values = map (in_unit unit) (values_of t)

  fractions_positive : All (λ x. 0 < x.below) (values_of t)
  fractions_positive = made_positive (λ v. value_of v t.lines) 0 (length t.columns) (λ v. value_below v t.lines g.positive)

  values_length : length values ≡ system.unknowns
  unfolding values
  values_length = length-map (values_of t) (in_unit unit) ∙ made_length (λ v. value_of v t.lines) 0 (length t.columns) ∙ g.columns

  not_cost : (v : ℕ) → v < system.unknowns + length system.rows → t.cost.variable ≡ v → ⊥
  not_cost v q e = absurd (omega (arith, g.cost_variable))

  value_scaled : (j : ℕ) → j < system.unknowns → pos multiple *ℤ pos (get_or values j 0) ≡ pos unit *ℤ point j
  unfolding values unit point
  value_scaled j q =
      let fs = values_of t in
      let none : Fraction = record { above = 0; below = 1 } in
      let inside : j < length t.columns = omega (arith, g.columns) in
      let there : j < length fs = rw (made_length (λ v. value_of v t.lines) 0 (length t.columns)) inside in
      let plain : 0 + j ≡ j = omega arith in
      let is = made_at (λ v. value_of v t.lines) 0 (length t.columns) j none inside ∙ ap (λ v. value_of v t.lines) plain in
      let got = get_or-map (in_unit (unit_of fs)) fs j none 0 there ∙ ap (in_unit (unit_of fs)) is in
      let whole = subst (λ f. f.below ∣ (unit_of fs * f.above)) is (whole_at (unit_of fs) fs j none there (unit_whole fs fractions_positive)) in
      let b = base_other system t g multiple j (not_cost j (omega arith)) in
      ap (λ x. pos multiple *ℤ pos x) got
      ∙ unit_relation multiple (unit_of fs) (value_of j t.lines) (line_value multiple j t.lines) (value_below j t.lines g.positive) whole (value_relation multiple j t.lines g.positive constants lines_divide)
      ∙ ap (λ x. pos (unit_of fs) *ℤ x) (sym b)

  columns : List ℤ
  columns = map point (range_with_len 0 system.unknowns)

  columns_length : length columns ≡ system.unknowns
  unfolding columns
  columns_length = length-map (range_with_len 0 system.unknowns) point ∙ length-range_with_len 0 system.unknowns

  sums_scaled : (fs : List ℤ) → pos multiple *ℤ dot fs (map pos values) ≡ pos unit *ℤ dot fs columns
  unfolding columns
  sums_scaled fs =
      dot_scaled (pos multiple) (pos unit) fs (map pos values) (map point (range_with_len 0 system.unknowns)) (length-map values pos ∙ values_length ∙ sym columns_length)
      (λ j q.
      let k : j < length values = subst (λ n. j < n) (length-map values pos) q in
      let inside : j < system.unknowns = omega (arith, values_length) in
      let plain : 0 + j ≡ j = omega arith in
      let there : j < length (range_with_len 0 system.unknowns) = rw (length-range_with_len 0 system.unknowns) inside in
      let e = get_or-map pos values j 0 (pos 0) k in
      let f = get_or-map point (range_with_len 0 system.unknowns) j 0 (pos 0) there ∙ ap point (get_or-range_with_len 0 system.unknowns j 0 inside ∙ plain) in
      ap (λ x. pos multiple *ℤ x) e ∙ value_scaled j inside ∙ ap (λ x. pos unit *ℤ x) (sym f))

  unit_above : 0 < unit
  unfolding unit
  unit_above = unit_positive (values_of t) fractions_positive

  pub values_feasible : IsFeasible system (unit_of (values_of t)) (map (in_unit (unit_of (values_of t))) (values_of t))
  unfolding unit values columns point
  values_feasible = record {
    unit_positive = unit_above;
    numbers = values_length;
    rows = λ i d q.
        let n = system.unknowns in
        let row = get_or system.rows i d in
        let same = get_any system.rows i d no_row q in
        let holds = subst (λ e. Holds e (base multiple t e.variable) (map (base multiple t) (range_with_len 0 n)) (pos multiple)) (slack_line_at n n system.rows i q)
        (hold_at (base multiple t) (map (base multiple t) (range_with_len 0 n)) (pos multiple) (slack_lines n n system.rows) i (rw (slack_lines_length n n system.rows) q) point_means.lines) in
        let h = holds.is in
        let row0 = get_or system.rows i no_row in
        let o = one_times (base multiple t (n + i)) in
        let b = subst (λ x. pos 0 ≤ℤ x) (sym (base_other system t g multiple (n + i) (not_cost (n + i) (omega arith)))) (line_value_not_negative multiple (n + i) t.lines constants) in
        let neg = times_neg row0.least (pos multiple) in
        let f = (slack_line n (n + i) row0).factors in
        let low : (row0.least *ℤ pos multiple) ≤ℤ dot f columns = omega (arith, sums) in
        let up = times_at_most (pos unit) (row0.least *ℤ pos multiple) (dot f columns) (omega (arith, ints)) low in
        let e1 = swap_times (pos unit) row0.least (pos multiple) in
        let e2 = swap_times (pos multiple) row0.least (pos unit) in
        let e3 = ap (λ x. row0.least *ℤ x) (times_comm (pos unit) (pos multiple)) in
        let s = sums_scaled f in
        let r = row_dot n row0 values (proper.rows i no_row q) values_length in
        let goal : (row0.least *ℤ pos unit) ≤ℤ dot f (map pos values) = cancel_at_most (pos multiple) (row0.least *ℤ pos unit) (dot f (map pos values)) multiple_positive (omega (arith, sums)) in
        record { met = subst (λ x. (x.least *ℤ pos unit) ≤ℤ sum_at values x.terms) (sym same) (subst (λ x. (row0.least *ℤ pos unit) ≤ℤ x) r goal) };
  }

  -- the cost of the values is the cost line's constant over its divisor
  pub values_cost : t.cost.divisor *ℤ cost_at system (map (in_unit (unit_of (values_of t))) (values_of t)) ≡ pos (unit_of (values_of t)) *ℤ t.cost.constant
  unfolding unit values columns point
  values_cost =
      let h = point_means.cost.is in
      let n = system.unknowns in
      let o = one_times (base multiple t (n + length system.rows)) in
      let z = zero_times (pos multiple) in
      let b = ap (base multiple t) (sym g.cost_variable) ∙ base_cost system t g multiple in
      let q = quot_is multiple t.cost g.cost_positive cost_divides in
      let d : dot system.costs columns ≡ quot multiple t.cost = omega (arith, sums) in
      let s = sums_scaled system.costs in
      let e = dot_total system.costs values in
      let p = pos multiple in
      let c = t.cost.divisor in
      let k = t.cost.constant in
      cancel p (c *ℤ total system.costs values) (pos unit *ℤ k) multiple_positive
      (swap_times p c (total system.costs values) ∙ ap (λ x. c *ℤ (p *ℤ x)) (sym e) ∙ ap (λ x. c *ℤ x) s ∙ ap (λ x. c *ℤ (pos unit *ℤ x)) d
      ∙ swap_times c (pos unit) (quot multiple t.cost) ∙ ap (λ x. pos unit *ℤ x) q ∙ swap_times (pos unit) p k)

  pub values_least : NotNegative system.costs → IsLeast system (unit_of (values_of t)) (map (in_unit (unit_of (values_of t))) (values_of t))
  unfolding unit values
  values_least costs = record {
    feasible = values_feasible;
    least = λ other_unit other f.
        let c = t.cost.divisor in
        let k = t.cost.constant in
        let u = pos unit in
        let v = pos other_unit in
        let own = total system.costs values in
        let cost = total system.costs other in
        let low = times_at_most u (k *ℤ v) (c *ℤ cost) (omega (arith, ints)) (cost_at_least system t other_unit other proper costs g f) in
        let e : c *ℤ (own *ℤ v) ≡ u *ℤ (k *ℤ v) = sym (times_assoc c own v) ∙ ap (λ x. x *ℤ v) values_cost ∙ times_assoc u k v in
        let h : u *ℤ (c *ℤ cost) ≡ c *ℤ (cost *ℤ u) = swap_times u c cost ∙ ap (λ x. c *ℤ x) (times_comm u cost) in
        cancel_at_most c (own *ℤ v) (cost *ℤ u) g.cost_positive (omega (arith, sums));
  }
