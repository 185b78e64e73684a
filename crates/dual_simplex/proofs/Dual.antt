-- The answer's prices: dual feasible, and of the same value.
use Rattle.std.proofs.Common.{◌≡◌, ℕ, suc, zero, ◌+◌, ◌*◌, ◌/◌, ◌<◌, ◌≤◌, ℤ, pos, ◌+ℤ◌, ◌*ℤ◌, List, [], ◌∷◌, map, length, get_or, set, replicate, Bool, true, false, cond, nat_eq, arith, ap, sym, ◌∙◌, refl, subst, ◌⊎◌, inl, inr, unsigned_abs}
use Rattle.std.specs.Prelude.{neg_ℤ, ◌<ℤ◌, ◌≤ℤ◌, All}
use Rattle.std.proofs.lemmas.Int.{ints}
use Rattle.std.proofs.lemmas.List.{length-map, length-set, length-replicate, get_or-map}
use native.Mathlib.Nat.{mul-div_cancel'}
use Prim.Native.Nat.{◌∣◌}
use Rattle.dual_simplex.specs.declared.answer.Fraction.{Fraction}
use Rattle.dual_simplex.specs.declared.system.Summand.{Summand}
use Rattle.dual_simplex.specs.Tableau.{Tableau}
use Rattle.dual_simplex.specs.Systems.{Inequality, Inequalities, IsProper}
use Rattle.dual_simplex.specs.Feasible.{sum_at, total, factor_of, priced, worth, IsDualFeasible}
use Rattle.dual_simplex.specs.Answer.{price_of, prices_of, unit_of, in_unit}
use Rattle.dual_simplex.proofs.Units.{whole_at, unit_whole, unit_positive}
use Rattle.dual_simplex.proofs.Ring.{sums, distrib, times_comm, swap_times, times_zero, zero_times, one_times, times_neg, not_negative_times, times_at_most, cancel_at_most}
use Rattle.dual_simplex.proofs.Meaning.{dot}
use Rattle.dual_simplex.proofs.Names.{one_if, one_if-same, one_if-other, uses}
use Rattle.dual_simplex.proofs.Ratio.{NotNegative}
use Rattle.dual_simplex.proofs.Points.{no_row, slack_is, value_at, value_unknown, value_slack, value_past, value_cost, first_means}
use Rattle.dual_simplex.proofs.Good.{Good}
use Rattle.dual_simplex.proofs.Bounds.{total_not_negative}
use Rattle.dual_simplex.proofs.Base.{made_at, made_length, made_positive}

-- ---- one fraction of a price
-- the cost's factor of a variable, 0 where it has no column
abbrev cost_of : ℕ → List ℕ → List ℤ → ℤ
cost_of v (w ∷ ws) (c ∷ cs) = cond (nat_eq w v) c (cost_of v ws cs)
cost_of v ws cs = pos 0

abs_is : (x : ℤ) → pos 0 ≤ℤ x → pos (unsigned_abs x) ≡ x
abs_is x h = omega (arith, ints)

abs_positive : (x : ℤ) → pos 0 <ℤ x → 0 < unsigned_abs x
abs_positive x h = omega (arith, ints)

price_by : (b : Bool) (q : ℕ) (d c rest : ℤ) (f : Fraction) → pos 0 <ℤ d → pos 0 ≤ℤ c
    → (f.below ∣ (q * f.above) → d *ℤ pos (in_unit q f) ≡ pos q *ℤ rest)
    → (cond b (record { above = unsigned_abs c; below = unsigned_abs d }) f).below ∣ (q * (cond b (record { above = unsigned_abs c; below = unsigned_abs d }) f).above)
    → d *ℤ pos (in_unit q (cond b (record { above = unsigned_abs c; below = unsigned_abs d }) f)) ≡ pos q *ℤ cond b c rest
price_by true q d c rest f h k ih w =
    let e : pos (unsigned_abs d) *ℤ pos (q * unsigned_abs c / unsigned_abs d) ≡ pos q *ℤ pos (unsigned_abs c) = ap pos (mul-div_cancel' (unsigned_abs d) w) in
    ap (λ x. x *ℤ pos (q * unsigned_abs c / unsigned_abs d)) (sym (abs_is d (omega (arith, sums)))) ∙ e ∙ ap (λ x. pos q *ℤ x) (abs_is c k)
price_by false q d c rest f h k ih w = ih w

zero_price : (q : ℕ) (d : ℤ) → d *ℤ pos (in_unit q (record { above = 0; below = 1 })) ≡ pos q *ℤ pos 0
zero_price q d =
    let z : q * 0 / 1 ≡ 0 = omega arith in
    ap (λ x. d *ℤ pos x) z ∙ times_zero d ∙ sym (times_zero (pos q))

price_relation : (q v : ℕ) (d : ℤ) (ws : List ℕ) (cs : List ℤ) → pos 0 <ℤ d → NotNegative cs
    → (price_of v d ws cs).below ∣ (q * (price_of v d ws cs).above) → d *ℤ pos (in_unit q (price_of v d ws cs)) ≡ pos q *ℤ cost_of v ws cs
price_relation q v d [] cs h n w = zero_price q d
price_relation q v d (w' ∷ ws) [] h n w = zero_price q d
price_relation q v d (w' ∷ ws) (c ∷ cs) h n w =
    price_by (nat_eq w' v) q d c (cost_of v ws cs) (price_of v d ws cs) h n.0 (price_relation q v d ws cs h n.1) w

below_by : (b : Bool) (x y : Fraction) → 0 < x.below → 0 < y.below → 0 < (cond b x y).below
below_by true x y p q = p
below_by false x y p q = q

price_below : (v : ℕ) (d : ℤ) (ws : List ℕ) (cs : List ℤ) → pos 0 <ℤ d → 0 < (price_of v d ws cs).below
price_below v d [] cs h = omega arith
price_below v d (w ∷ ws) [] h = omega arith
price_below v d (w ∷ ws) (c ∷ cs) h = below_by (nat_eq w v) (record { above = unsigned_abs c; below = unsigned_abs d }) (price_of v d ws cs) (abs_positive d h) (price_below v d ws cs h)

-- ---- the cost's factors, taken over the slacks and over the columns
module _ (val : ℕ → ℤ) where
  -- over the variables of a run of numbers
  abbrev pub over : (ℕ → ℤ) → ℕ → ℕ → ℤ
  over c from zero = pos 0
  over c from (suc k) = (c from *ℤ val from) +ℤ over c (suc from) k

  -- x where w is in the run
  abbrev pub hit : ℕ → ℤ → ℕ → ℕ → ℤ
  hit w x from zero = pos 0
  hit w x from (suc k) = cond (nat_eq w from) x (hit w x (suc from) k)

  test_other : (x y : ℕ) → (x ≡ y → ⊥) → nat_eq x y ≡ false
  test_other x y h = grind arith

  test_is : (x y : ℕ) → x ≡ y → nat_eq x y ≡ true
  test_is x y h = grind arith

  hit_low : (w : ℕ) (x : ℤ) (from k : ℕ) → w < from → hit w x from k ≡ pos 0
  hit_low w x from zero p = refl
  hit_low w x from (suc k) p = ap (λ b. cond b x (hit w x (suc from) k)) (test_other w from (λ e. omega arith)) ∙ hit_low w x (suc from) k (omega arith)

  pub hit_high : (w : ℕ) (x : ℤ) (from k : ℕ) → from + k ≤ w → hit w x from k ≡ pos 0
  hit_high w x from zero p = refl
  hit_high w x from (suc k) p = ap (λ b. cond b x (hit w x (suc from) k)) (test_other w from (λ e. omega arith)) ∙ hit_high w x (suc from) k (omega arith)

  equal_or_not : (a b : ℕ) → (a ≡ b) ⊎ (a ≡ b → ⊥)
  equal_or_not a b = grind arith

  hit_in_by : (w : ℕ) (x : ℤ) (from k : ℕ) → (w ≡ from) ⊎ (w ≡ from → ⊥) → from ≤ w → w < from + suc k
      → (suc from ≤ w → w < suc from + k → hit w x (suc from) k ≡ x) → hit w x from (suc k) ≡ x
  hit_in_by w x from k (inl e) p q ih = ap (λ b. cond b x (hit w x (suc from) k)) (test_is w from e)
  hit_in_by w x from k (inr e) p q ih = ap (λ b. cond b x (hit w x (suc from) k)) (test_other w from e) ∙ ih (apart p e) (omega arith)
    where
      apart : from ≤ w → (w ≡ from → ⊥) → suc from ≤ w
      apart a h = grind arith

  pub hit_in : (w : ℕ) (x : ℤ) (from k : ℕ) → from ≤ w → w < from + k → hit w x from k ≡ x
  hit_in w x from zero p q = absurd (omega arith)
  hit_in w x from (suc k) p q = hit_in_by w x from k (equal_or_not w from) p q (hit_in w x (suc from) k)

  -- one more column
  bump_by : (w : ℕ) (c : ℤ) (rest : ℕ → ℤ) (from k : ℕ) → rest w ≡ pos 0 → (w ≡ from) ⊎ (w ≡ from → ⊥)
      → over (λ v. cond (nat_eq w v) c (rest v)) (suc from) k ≡ over rest (suc from) k +ℤ hit w (c *ℤ val w) (suc from) k
      → over (λ v. cond (nat_eq w v) c (rest v)) from (suc k) ≡ over rest from (suc k) +ℤ hit w (c *ℤ val w) from (suc k)
  bump_by w c rest from k z (inl e) ih =
      let t = test_is w from e in
      let a = ap (λ b. cond b c (rest from) *ℤ val from) t in
      let h = ap (λ b. cond b (c *ℤ val w) (hit w (c *ℤ val w) (suc from) k)) t in
      let low = hit_low w (c *ℤ val w) (suc from) k (omega arith) in
      let f = ap (λ v. rest v *ℤ val v) (sym e) ∙ ap (λ x. x *ℤ val w) z ∙ zero_times (val w) in
      let i = ap (λ v. c *ℤ val v) e in
      omega (arith, sums)
  bump_by w c rest from k z (inr e) ih =
      let t = test_other w from e in
      let a = ap (λ b. cond b c (rest from) *ℤ val from) t in
      let h = ap (λ b. cond b (c *ℤ val w) (hit w (c *ℤ val w) (suc from) k)) t in
      omega (arith, sums)

  pub bump : (w : ℕ) (c : ℤ) (rest : ℕ → ℤ) (from k : ℕ) → rest w ≡ pos 0
      → over (λ v. cond (nat_eq w v) c (rest v)) from k ≡ over rest from k +ℤ hit w (c *ℤ val w) from k
  bump w c rest from zero z = omega (arith, ints)
  bump w c rest from (suc k) z = bump_by w c rest from k z (equal_or_not w from) (bump w c rest (suc from) k z)

  -- what the columns outside of a run add
  abbrev outside : ℕ → ℕ → List ℕ → List ℤ → ℤ
  outside from k (w ∷ ws) (c ∷ cs) = ((c *ℤ val w) +ℤ neg_ℤ (hit w (c *ℤ val w) from k)) +ℤ outside from k ws cs
  outside from k ws cs = pos 0

  cost_of_absent : (v : ℕ) (ws : List ℕ) (cs : List ℤ) → uses v ws ≡ 0 → cost_of v ws cs ≡ pos 0
  cost_of_absent v [] cs h = refl
  cost_of_absent v (w ∷ ws) [] h = refl
  cost_of_absent v (w ∷ ws) (c ∷ cs) h =
      ap (λ b. cond b c (cost_of v ws cs)) (test_other w v (λ e. let o = ap (λ x. one_if x v) e ∙ one_if-same v in absurd (omega (arith, h, o)))) ∙ cost_of_absent v ws cs (omega (arith, h))

  pub over_nothing : (from k : ℕ) → over (λ v. pos 0) from k ≡ pos 0
  over_nothing from zero = refl
  over_nothing from (suc k) = let ih = over_nothing (suc from) k in let z = zero_times (val from) in omega (arith, sums)

  columns_sum : (ws : List ℕ) (cs : List ℤ) (from k : ℕ) → ((v : ℕ) → uses v ws ≤ 1)
      → dot cs (map val ws) ≡ over (λ v. cost_of v ws cs) from k +ℤ outside from k ws cs
  columns_sum [] [] from k h = let z = over_nothing from k in omega (arith, sums)
  columns_sum [] (c ∷ cs) from k h = let z = over_nothing from k in omega (arith, sums)
  columns_sum (w ∷ ws) [] from k h = let z = over_nothing from k in omega (arith, sums)
  columns_sum (w ∷ ws) (c ∷ cs) from k h =
      let o = one_if-same w in
      let absent = cost_of_absent w ws cs (omega (arith, h w, o)) in
      let ih = columns_sum ws cs from k (λ v. omega (arith, h v)) in
      let b = bump w c (λ v. cost_of v ws cs) from k absent in
      omega (arith, sums)

  order : (a b : ℕ) → (a < b) ⊎ (b ≤ a)
  order a b = grind arith

  term_by : (w : ℕ) (x : ℤ) (from k : ℕ) → (w < from) ⊎ (from ≤ w) → (w < from + k) ⊎ (from + k ≤ w)
      → (w < from → pos 0 ≤ℤ x) → (from + k ≤ w → pos 0 ≤ℤ x) → pos 0 ≤ℤ (x +ℤ neg_ℤ (hit w x from k))
  term_by w x from k (inl p) o f g = let h = hit_low w x from k p in let n = f p in omega (arith, sums)
  term_by w x from k (inr p) (inl q) f g = let h = hit_in w x from k p q in omega (arith, sums)
  term_by w x from k (inr p) (inr q) f g = let h = hit_high w x from k q in let n = g q in omega (arith, sums)

  outside_not_negative : (ws : List ℕ) (cs : List ℤ) (from k : ℕ) → NotNegative cs → ((v : ℕ) → v < from → pos 0 ≤ℤ val v)
      → ((v : ℕ) → from + k ≤ v → pos 0 ≤ℤ val v)
      → pos 0 ≤ℤ outside from k ws cs
  outside_not_negative [] cs from k n f g = omega (arith, ints)
  outside_not_negative (w ∷ ws) [] from k n f g = omega (arith, ints)
  outside_not_negative (w ∷ ws) (c ∷ cs) from k n f g =
      let a = term_by w (c *ℤ val w) from k (order w from) (order w (from + k)) (λ p. not_negative_times c (val w) n.0 (f w p)) (λ p. not_negative_times c (val w) n.0 (g w p)) in
      let ih = outside_not_negative ws cs from k n.1 f g in
      omega (arith, sums)

  zero_by : (w : ℕ) (x : ℤ) (from k : ℕ) → (w < from) ⊎ (from ≤ w) → (w < from + k) ⊎ (from + k ≤ w)
      → (w < from → x ≡ pos 0) → (from + k ≤ w → x ≡ pos 0) → x +ℤ neg_ℤ (hit w x from k) ≡ pos 0
  zero_by w x from k (inl p) o f g = let h = hit_low w x from k p in let n = f p in omega (arith, sums)
  zero_by w x from k (inr p) (inl q) f g = let h = hit_in w x from k p q in omega (arith, sums)
  zero_by w x from k (inr p) (inr q) f g = let h = hit_high w x from k q in let n = g q in omega (arith, sums)

  outside_zero : (ws : List ℕ) (cs : List ℤ) (from k : ℕ) → ((v : ℕ) → v < from → val v ≡ pos 0) → ((v : ℕ) → from + k ≤ v → val v ≡ pos 0)
      → outside from k ws cs ≡ pos 0
  outside_zero [] cs from k f g = refl
  outside_zero (w ∷ ws) [] from k f g = refl
  outside_zero (w ∷ ws) (c ∷ cs) from k f g =
      let a = zero_by w (c *ℤ val w) from k (order w from) (order w (from + k)) (λ p. ap (λ x. c *ℤ x) (f w p) ∙ times_zero c) (λ p. ap (λ x. c *ℤ x) (g w p) ∙ times_zero c) in
      let ih = outside_zero ws cs from k f g in
      omega (arith, sums)

  -- a sum over the slacks, as one over rows and prices
  rows_over : (q d : ℤ) (c : ℕ → ℤ) (of_row : Inequality → ℤ) (rows : List Inequality) (prices : List ℕ) (from : ℕ) (sum : List Inequality → List ℕ → ℤ) → length prices ≡ length rows
      → sum [] [] ≡ pos 0
      → ((row : Inequality) (rs : List Inequality) (price : ℕ) (ps : List ℕ) → sum (row ∷ rs) (price ∷ ps) ≡ (of_row row *ℤ pos price) +ℤ sum rs ps)
      → ((i : ℕ) → i < length rows → d *ℤ pos (get_or prices i 0) ≡ q *ℤ c (from + i))
      → ((i : ℕ) → i < length rows → val (from + i) ≡ of_row (get_or rows i no_row))
      → d *ℤ sum rows prices ≡ q *ℤ over c from (length rows)
  rows_over q d c of_row [] [] from sum e s0 s1 h v = ap (λ x. d *ℤ x) s0 ∙ times_zero d ∙ sym (times_zero q)
  rows_over q d c of_row [] (p ∷ ps) from sum e s0 s1 h v = absurd (omega (arith, e))
  rows_over q d c of_row (row ∷ rows) [] from sum e s0 s1 h v = absurd (omega (arith, e))
  rows_over q d c of_row (row ∷ rows) (p ∷ ps) from sum e s0 s1 h v =
      let shift : (i : ℕ) → from + suc i ≡ suc from + i = λ i. omega arith in
      let here : from + 0 ≡ from = omega arith in
      let ih = rows_over q d c of_row rows ps (suc from) sum (omega (arith, e)) s0 s1
      (λ i k. h (suc i) (omega arith) ∙ ap (λ j. q *ℤ c j) (shift i)) (λ i k. sym (ap val (shift i)) ∙ v (suc i) (omega arith)) in
      let price = h 0 (omega arith) ∙ ap (λ j. q *ℤ c j) here in
      let value = sym (ap val here) ∙ v 0 (omega arith) in
      let a = ap (λ x. d *ℤ x) (s1 row rows p ps) ∙ distrib d (of_row row *ℤ pos p) (sum rows ps) in
      let b = swap_times d (of_row row) (pos p) ∙ ap (λ x. of_row row *ℤ x) price ∙ swap_times (of_row row) q (c from) ∙ ap (λ x. q *ℤ x) (times_comm (of_row row) (c from)) ∙ ap (λ x. q *ℤ (c from *ℤ x)) (sym value) in
      let f = distrib q (c from *ℤ val from) (over c (suc from) (length rows)) in
      omega (arith, sums)

-- ---- two points: one unknown at 1, and all at 0
abbrev unit_point : ℕ → ℕ → List ℕ
unit_point n j = set (replicate n 0) j 1

abbrev zero_point : ℕ → List ℕ
zero_point n = replicate n 0

zero_get : (n i : ℕ) → get_or {A = ℕ} (replicate n 0) i 0 ≡ 0
zero_get zero i = refl
zero_get (suc n) zero = refl
zero_get (suc n) (suc i) = zero_get n i

unit_get : (n j i : ℕ) → j < n → get_or (unit_point n j) i 0 ≡ one_if i j
unit_get zero j i p = absurd (omega arith)
unit_get (suc n) zero zero p = refl
unit_get (suc n) zero (suc i) p = zero_get n i ∙ sym (one_if-other (suc i) 0 (λ e. omega arith))
unit_get (suc n) (suc j) zero p = sym (one_if-other 0 (suc j) (λ e. omega arith))
unit_get (suc n) (suc j) (suc i) p = unit_get n j i (omega arith) ∙ same i j
  where
    same : (a b : ℕ) → one_if a b ≡ one_if (suc a) (suc b)
    same a b = grind arith

unit_term : (b : Bool) (f : ℤ) → f *ℤ pos (cond b 1 0) ≡ cond b f (pos 0)
unit_term true f = omega (arith, ints)
unit_term false f = times_zero f

unit_sum : (n j : ℕ) (ts : List Summand) → j < n → sum_at (unit_point n j) ts ≡ factor_of j ts
unit_sum n j [] p = refl
unit_sum n j (t ∷ ts) p =
    let ih = unit_sum n j ts p in
    let a = ap (λ x. t.factor *ℤ pos x) (unit_get n j t.unknown p) ∙ unit_term (nat_eq t.unknown j) t.factor in
    omega (arith, sums)

zero_sum : (n : ℕ) (ts : List Summand) → sum_at (zero_point n) ts ≡ pos 0
zero_sum n [] = refl
zero_sum n (t ∷ ts) =
    let ih = zero_sum n ts in
    let a = ap (λ x. t.factor *ℤ pos x) (zero_get n t.unknown) ∙ times_zero t.factor in
    omega (arith, sums)

zero_total : (n : ℕ) (cs : List ℤ) → total cs (zero_point n) ≡ pos 0
zero_total zero [] = refl
zero_total zero (c ∷ cs) = refl
zero_total (suc n) [] = refl
zero_total (suc n) (c ∷ cs) = let ih = zero_total n cs in let z = times_zero c in omega (arith, sums)

unit_total : (n j : ℕ) (cs : List ℤ) → j < n → length cs ≡ n → total cs (unit_point n j) ≡ get_or cs j (pos 0)
unit_total zero j cs p q = absurd (omega arith)
unit_total (suc n) j [] p q = absurd (omega (arith, q))
unit_total (suc n) zero (c ∷ cs) p q = let z = zero_total n cs in let o = times_comm c (pos 1) ∙ one_times c in omega (arith, sums)
unit_total (suc n) (suc j) (c ∷ cs) p q = let ih = unit_total n j cs (omega arith) (omega (arith, q)) in let z = times_zero c in omega (arith, sums)

-- ---- the answer's prices
module _ (system : Inequalities) (proper : IsProper system) (costs : NotNegative system.costs) (t : Tableau) (g : Good system t) where
  price_unit : ℕ
  price_unit = unit_of (prices_of t)

  prices : List ℕ
  prices = map (in_unit price_unit) (prices_of t)

  price : ℕ → Fraction
  price v = price_of v t.cost.divisor t.columns t.cost.factors

  fractions_positive : All (λ x. 0 < x.below) (prices_of t)
  fractions_positive = made_positive (λ v. price_of v t.cost.divisor t.columns t.cost.factors) (length t.columns) (length t.lines) (λ v. price_below v t.cost.divisor t.columns t.cost.factors g.cost_positive)

  prices_length : length prices ≡ length system.rows
  unfolding prices
  prices_length = length-map (prices_of t) (in_unit price_unit) ∙ made_length (λ v. price_of v t.cost.divisor t.columns t.cost.factors) (length t.columns) (length t.lines) ∙ g.lines

  -- each price is its slack's factor in the cost over the cost's divisor
  price_is : (i : ℕ) → i < length system.rows
      → t.cost.divisor *ℤ pos (get_or prices i 0) ≡ pos price_unit *ℤ cost_of (system.unknowns + i) t.columns t.cost.factors
  unfolding prices price_unit
  price_is i q =
      let f = λ (v : ℕ). price_of v t.cost.divisor t.columns t.cost.factors in
      let fs = prices_of t in
      let u = unit_of fs in
      let none : Fraction = record { above = 0; below = 1 } in
      let inside : i < length t.lines = omega (arith, g.lines) in
      let there : i < length fs = rw (made_length (λ v. price_of v t.cost.divisor t.columns t.cost.factors) (length t.columns) (length t.lines)) inside in
      let is = made_at (λ v. price_of v t.cost.divisor t.columns t.cost.factors) (length t.columns) (length t.lines) i none inside in
      let got = get_or-map (in_unit u) fs i none 0 there ∙ ap (in_unit u) is in
      let whole = subst (λ x. x.below ∣ (u * x.above)) is (whole_at u fs i none there (unit_whole fs fractions_positive)) in
      ap (λ x. t.cost.divisor *ℤ pos x) got
      ∙ price_relation u (length t.columns + i) t.cost.divisor t.columns t.cost.factors g.cost_positive g.costs whole
      ∙ ap (λ n. pos u *ℤ cost_of (n + i) t.columns t.cost.factors) g.columns

  once : (v : ℕ) → uses v t.columns ≤ 1
  once v = omega (arith, g.once v)

  -- the cost line at a point, with the slacks' factors apart
  cost_line : (unit : ℕ) (point : List ℕ) → length point ≡ system.unknowns
      → t.cost.divisor *ℤ total system.costs point
      ≡ (t.cost.constant *ℤ pos unit) +ℤ (over (value_at system unit point) (λ v. cost_of v t.columns t.cost.factors) system.unknowns (length system.rows)
      +ℤ outside (value_at system unit point) system.unknowns (length system.rows) t.columns t.cost.factors)
  cost_line unit point p =
      let val = value_at system unit point in
      let m = g.means val (pos unit) (first_means system unit point proper p) in
      ap (λ v. t.cost.divisor *ℤ v) (sym (ap val g.cost_variable ∙ value_cost system unit point)) ∙ m.cost.is
      ∙ ap (λ x. (t.cost.constant *ℤ pos unit) +ℤ x) (columns_sum val t.columns t.cost.factors system.unknowns (length system.rows) once)

  pub prices_columns : (j : ℕ) → j < system.unknowns
      → priced j system.rows (map (in_unit (unit_of (prices_of t))) (prices_of t)) ≤ℤ (get_or system.costs j (pos 0) *ℤ pos (unit_of (prices_of t)))
  unfolding prices price_unit
  prices_columns j p =
      let n = system.unknowns in
      let m = length system.rows in
      let point = unit_point n j in
      let len : length point ≡ n = length-set (replicate n 0) j 1 ∙ length-replicate n 0 in
      let val = value_at system 0 point in
      let d = t.cost.divisor in
      let q = pos price_unit in
      let c = λ (v : ℕ). cost_of v t.columns t.cost.factors in
      let line = cost_line 0 point len in
      let z = times_zero t.cost.constant in
      let own = ap (λ x. d *ℤ x) (unit_total n j system.costs p proper.costs) in
      let rows = rows_over val q d (λ v. cost_of v t.columns t.cost.factors) (λ row. factor_of j row.terms) system.rows prices n (priced j) prices_length refl (λ row rs x xs. refl) price_is
      (λ i k. value_slack system 0 point i k ∙ slack_is 0 point (get_or system.rows i no_row)
      ∙ (let a = unit_sum n j (get_or system.rows i no_row).terms p in let b = times_zero (get_or system.rows i no_row).least in omega (arith, sums))) in
      let above : pos 0 ≤ℤ outside val n m t.columns t.cost.factors =
      outside_not_negative val t.columns t.cost.factors n m g.costs
      (λ v k. subst (λ x. pos 0 ≤ℤ x) (sym (value_unknown system 0 point v k)) (omega (arith, ints)))
      (λ v k. subst (λ x. pos 0 ≤ℤ x) (sym (value_past system 0 point v k)) (total_not_negative system.costs point costs)) in
      let cost = get_or system.costs j (pos 0) in
      let slacks = over val (λ v. cost_of v t.columns t.cost.factors) n m in
      let low : slacks ≤ℤ (d *ℤ cost) = omega (arith, sums) in
      let up = times_at_most q slacks (d *ℤ cost) (omega (arith, ints)) low in
      let e = swap_times q d cost ∙ ap (λ x. d *ℤ x) (times_comm q cost) in
      cancel_at_most d (priced j system.rows prices) (cost *ℤ q) g.cost_positive (omega (arith, sums))

  -- the prices' worth is the cost line's constant over its divisor
  pub prices_worth : t.cost.divisor *ℤ worth system.rows (map (in_unit (unit_of (prices_of t))) (prices_of t)) ≡ pos (unit_of (prices_of t)) *ℤ t.cost.constant
  unfolding prices price_unit
  prices_worth =
      let n = system.unknowns in
      let m = length system.rows in
      let point = zero_point n in
      let len : length point ≡ n = length-replicate n 0 in
      let val = value_at system 1 point in
      let d = t.cost.divisor in
      let q = pos price_unit in
      let k = t.cost.constant in
      let line = cost_line 1 point len in
      let own = ap (λ x. d *ℤ x) (zero_total n system.costs) ∙ times_zero d in
      let one = times_comm k (pos 1) ∙ one_times k in
      let rows = rows_over val q d (λ v. cost_of v t.columns t.cost.factors) (λ row. neg_ℤ row.least) system.rows prices n (λ rs ps. neg_ℤ (worth rs ps)) prices_length refl
      (λ row rs x xs. (let a = times_neg row.least (pos x) in omega (arith, sums))) price_is
      (λ i p. value_slack system 1 point i p ∙ slack_is 1 point (get_or system.rows i no_row)
      ∙ (let a = zero_sum n (get_or system.rows i no_row).terms in let b = times_comm (get_or system.rows i no_row).least (pos 1) ∙ one_times (get_or system.rows i no_row).least in omega (arith, sums))) in
      let none = outside_zero val t.columns t.cost.factors n m
      (λ v p. value_unknown system 1 point v p ∙ ap pos (zero_get n v))
      (λ v p. value_past system 1 point v p ∙ zero_total n system.costs) in
      let slacks = over val (λ v. cost_of v t.columns t.cost.factors) n m in
      let w = worth system.rows prices in
      let sum : slacks ≡ neg_ℤ k = omega (arith, sums) in
      let a = ap (λ x. q *ℤ x) sum ∙ times_comm q (neg_ℤ k) ∙ times_neg k q ∙ ap neg_ℤ (times_comm k q) in
      let b = times_comm d (neg_ℤ w) ∙ times_neg w d ∙ ap neg_ℤ (times_comm w d) in
      omega (arith, sums)

  pub prices_dual : IsDualFeasible system (unit_of (prices_of t)) (map (in_unit (unit_of (prices_of t))) (prices_of t))
  unfolding prices price_unit
  prices_dual = record {
    unit_positive = unit_positive (prices_of t) fractions_positive;
    numbers = prices_length;
    columns = prices_columns;
  }
