-- Weak duality: what feasible prices are worth is at most what a feasible solution costs.
use Rattle.std.proofs.Common.{◌≡◌, ℕ, suc, zero, ◌+◌, ◌<◌, ◌≤◌, ℤ, pos, ◌+ℤ◌, ◌*ℤ◌, List, [], ◌∷◌, length, get_or, cond, nat_eq, arith, ap, sym, ◌∙◌, refl, ◌⊎◌, inl, inr}
use Rattle.std.specs.Prelude.{◌≤ℤ◌, All}
use Rattle.std.proofs.lemmas.Int.{ints}
use Rattle.dual_simplex.specs.declared.system.Summand.{Summand}
use Rattle.dual_simplex.specs.Systems.{Inequality, Inequalities}
use Rattle.dual_simplex.specs.Feasible.{sum_at, total, factor_of, priced, worth, IsMet, IsWeaklyDual}
use Rattle.dual_simplex.proofs.Ring.{sums, distrib_right, times_comm, times_assoc, swap_times, times_zero, zero_times, times_at_most}
use Rattle.dual_simplex.proofs.Dual.{over, hit, hit_in, hit_high, bump, over_nothing}

-- a point, as a value for each unknown
abbrev at_point : List ℕ → ℕ → ℤ
at_point point v = pos (get_or point v 0)

over_add : (val a b : ℕ → ℤ) (from k : ℕ) → over val (λ v. a v +ℤ b v) from k ≡ over val a from k +ℤ over val b from k
over_add val a b from zero = omega (arith, ints)
over_add val a b from (suc k) =
    let ih = over_add val a b (suc from) k in
    let e = distrib_right (a from) (b from) (val from) in
    omega (arith, sums)

over_times : (val a : ℕ → ℤ) (x : ℤ) (from k : ℕ) → over val (λ v. a v *ℤ x) from k ≡ over val a from k *ℤ x
over_times val a x from zero = sym (zero_times x)
over_times val a x from (suc k) =
    let ih = over_times val a x (suc from) k in
    let e = times_assoc (a from) x (val from) ∙ ap (λ y. a from *ℤ y) (times_comm x (val from)) ∙ sym (times_assoc (a from) (val from) x) in
    let f = distrib_right (a from *ℤ val from) (over val a (suc from) k) x in
    omega (arith, sums)

over_at_most : (val a b : ℕ → ℤ) (from k : ℕ) → ((v : ℕ) → pos 0 ≤ℤ val v) → ((v : ℕ) → from ≤ v → v < from + k → a v ≤ℤ b v)
    → over val a from k ≤ℤ over val b from k
over_at_most val a b from zero n h = omega (arith, ints)
over_at_most val a b from (suc k) n h =
    let ih = over_at_most val a b (suc from) k n (λ v p q. h v (omega arith) (omega arith)) in
    let e = times_at_most (val from) (a from) (b from) (n from) (h from (omega arith) (omega arith)) in
    let f = times_comm (val from) (a from) in
    let g = times_comm (val from) (b from) in
    omega (arith, sums)

order : (a b : ℕ) → (a < b) ⊎ (b ≤ a)
order a b = grind arith

past : (xs : List ℕ) (i : ℕ) → length xs ≤ i → get_or xs i 0 ≡ 0
past [] i p = refl
past (x ∷ xs) zero p = absurd (omega arith)
past (x ∷ xs) (suc i) p = past xs i (omega arith)

-- one term, by its unknown
term_by : (point : List ℕ) (t : Summand) → (t.unknown < length point) ⊎ (length point ≤ t.unknown)
    → hit (at_point point) t.unknown (t.factor *ℤ at_point point t.unknown) 0 (length point) ≡ t.factor *ℤ at_point point t.unknown
term_by point t (inl p) = hit_in (at_point point) t.unknown (t.factor *ℤ at_point point t.unknown) 0 (length point) (omega arith) (omega arith)
term_by point t (inr p) =
    hit_high (at_point point) t.unknown (t.factor *ℤ at_point point t.unknown) 0 (length point) (omega arith)
    ∙ sym (ap (λ n. t.factor *ℤ pos n) (past point t.unknown p) ∙ times_zero t.factor)

-- a row's sum, unknown by unknown
row_over : (point : List ℕ) (ts : List Summand) → sum_at point ts ≡ over (at_point point) (λ j. factor_of j ts) 0 (length point)
row_over point [] = sym (over_nothing (at_point point) 0 (length point))
row_over point (t ∷ ts) =
    let val = at_point point in
    let n = length point in
    let ih = row_over point ts in
    let a = over_add val (λ j. cond (nat_eq t.unknown j) t.factor (pos 0)) (λ j. factor_of j ts) 0 n in
    let b = bump val t.unknown t.factor (λ j. pos 0) 0 n refl in
    let c = over_nothing val 0 n in
    let d = term_by point t (order t.unknown n) in
    omega (arith, sums)

-- the rows' sums, each times its price
abbrev priced_sums : List ℕ → List Inequality → List ℕ → ℤ
priced_sums point (row ∷ rows) (price ∷ prices) = (sum_at point row.terms *ℤ pos price) +ℤ priced_sums point rows prices
priced_sums point rows prices = pos 0

exchange : (point : List ℕ) (rows : List Inequality) (prices : List ℕ)
    → priced_sums point rows prices ≡ over (at_point point) (λ j. priced j rows prices) 0 (length point)
exchange point [] prices = sym (over_nothing (at_point point) 0 (length point))
exchange point (row ∷ rows) [] = sym (over_nothing (at_point point) 0 (length point))
exchange point (row ∷ rows) (price ∷ prices) =
    let val = at_point point in
    let n = length point in
    let ih = exchange point rows prices in
    let a = over_add val (λ j. factor_of j row.terms *ℤ pos price) (λ j. priced j rows prices) 0 n in
    let b = over_times val (λ j. factor_of j row.terms) (pos price) 0 n in
    let c = ap (λ x. x *ℤ pos price) (row_over point row.terms) in
    omega (arith, sums)

worth_at_most : (unit : ℕ) (point : List ℕ) (rows : List Inequality) (prices : List ℕ) → All (IsMet unit point) rows
    → (worth rows prices *ℤ pos unit) ≤ℤ priced_sums point rows prices
worth_at_most unit point [] prices h = omega (arith, ints)
worth_at_most unit point (row ∷ rows) [] h = omega (arith, ints)
worth_at_most unit point (row ∷ rows) (price ∷ prices) h =
    let ih = worth_at_most unit point rows prices (λ k d p. h (suc k) d (omega arith)) in
    let own = times_at_most (pos price) (row.least *ℤ pos unit) (sum_at point row.terms) (omega (arith, ints)) (h 0 row (omega arith)).met in
    let a = distrib_right (row.least *ℤ pos price) (worth rows prices) (pos unit) in
    let b = times_assoc row.least (pos price) (pos unit) ∙ swap_times row.least (pos price) (pos unit) in
    let c = times_comm (pos price) (sum_at point row.terms) in
    omega (arith, sums)

total_none : (xs : List ℕ) → total [] xs ≡ pos 0
total_none xs = refl

-- what a point costs, unknown by unknown
cost_over : (cs : List ℤ) (whole xs : List ℕ) (all : List ℤ) (from : ℕ) → ((j : ℕ) → get_or cs j (pos 0) ≡ get_or all (from + j) (pos 0))
    → ((j : ℕ) → get_or xs j 0 ≡ get_or whole (from + j) 0)
    → total cs xs ≡ over (at_point whole) (λ j. get_or all j (pos 0)) from (length xs)
cost_over [] whole [] all from f g = refl
cost_over (c ∷ cs) whole [] all from f g = refl
cost_over [] whole (x ∷ xs) all from f g =
    let here : from + 0 ≡ from = omega arith in
    let shift : (j : ℕ) → from + suc j ≡ suc from + j = λ j. omega arith in
    let ih = cost_over [] whole xs all (suc from) (λ j. f (suc j) ∙ ap (λ k. get_or all k (pos 0)) (shift j)) (λ j. g (suc j) ∙ ap (λ k. get_or whole k 0) (shift j)) in
    let a = f 0 ∙ ap (λ k. get_or all k (pos 0)) here in
    let b = ap (λ y. y *ℤ at_point whole from) (sym a) ∙ zero_times (at_point whole from) in
    let z = total_none xs in
    omega (arith, sums)
cost_over (c ∷ cs) whole (x ∷ xs) all from f g =
    let here : from + 0 ≡ from = omega arith in
    let shift : (j : ℕ) → from + suc j ≡ suc from + j = λ j. omega arith in
    let ih = cost_over cs whole xs all (suc from) (λ j. f (suc j) ∙ ap (λ k. get_or all k (pos 0)) (shift j)) (λ j. g (suc j) ∙ ap (λ k. get_or whole k 0) (shift j)) in
    let a = f 0 ∙ ap (λ k. get_or all k (pos 0)) here in
    let b = g 0 ∙ ap (λ k. get_or whole k 0) here in
    let d = ap (λ y. y *ℤ pos x) a ∙ ap (λ y. get_or all from (pos 0) *ℤ pos y) b in
    omega (arith, sums)

pub weak_duality : (system : Inequalities) → IsWeaklyDual system
weak_duality system unit price_unit point prices f d =
    let val = at_point point in
    let n = length point in
    let q = pos price_unit in
    let zero_plus : (j : ℕ) → 0 + j ≡ j = λ j. omega arith in
    let a = worth_at_most unit point system.rows prices f.rows in
    let b = exchange point system.rows prices in
    let c = over_at_most val (λ j. priced j system.rows prices) (λ j. get_or system.costs j (pos 0) *ℤ q) 0 n (λ v. omega (arith, ints)) (λ v p r. d.columns v (omega (arith, f.numbers))) in
    let e = over_times val (λ j. get_or system.costs j (pos 0)) q 0 n in
    let g = ap (λ x. x *ℤ q) (cost_over system.costs point point system.costs 0 (λ j. ap (λ k. get_or system.costs k (pos 0)) (sym (zero_plus j))) (λ j. ap (λ k. get_or point k 0) (sym (zero_plus j)))) in
    omega (arith, sums)
