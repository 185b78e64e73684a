-- A point of the system as a value for each variable: the unknowns, the slacks, and the cost.
use Rattle.std.proofs.Common.{◌≡◌, ℕ, suc, zero, ◌+◌, ◌-◌, ◌<◌, ◌≤◌, ℤ, pos, ◌+ℤ◌, ◌*ℤ◌, List, [], ◌∷◌, map, length, set, get_or, replicate, true, false, cond, nat_lt, arith, ap, sym, ◌∙◌, refl, subst}
use Rattle.std.specs.Prelude.{neg_ℤ, All}
use Rattle.std.specs.List.{range_with_len}
use Rattle.std.proofs.lemmas.List.{length-map, length-set, length-replicate, set-get_or, get_or-map}
use Rattle.dual_simplex.specs.declared.system.Summand.{Summand}
use Rattle.dual_simplex.specs.Systems.{Inequality, Inequalities, IsAscending, IsProper, IsProperRow, spread, slack_line, slack_lines, first_tableau}
use Rattle.dual_simplex.specs.Feasible.{sum_at, total}
use Rattle.dual_simplex.proofs.Ring.{sums, times_neg, one_times, zero_times}
use Rattle.dual_simplex.proofs.Meaning.{dot, Holds, set_dot}
use Rattle.dual_simplex.proofs.Pivots.{AllHold, Means}

abbrev pub no_row : Inequality
no_row = record { terms = []; least = pos 0 }

-- the slack of a row
pub slack : ℕ → List ℕ → Inequality → ℤ
slack unit point row = sum_at point row.terms +ℤ neg_ℤ (row.least *ℤ pos unit)

-- the value of each variable
pub value_at : Inequalities → ℕ → List ℕ → ℕ → ℤ
value_at system unit point v =
    cond (nat_lt v system.unknowns) (pos (get_or point v 0))
    (cond (nat_lt v (system.unknowns + length system.rows)) (slack unit point (get_or system.rows (v - system.unknowns) no_row)) (total system.costs point))

pub value_unknown : (system : Inequalities) (unit : ℕ) (point : List ℕ) (v : ℕ) → v < system.unknowns → value_at system unit point v ≡ pos (get_or point v 0)
unfolding value_at
value_unknown system unit point v p =
    let t : nat_lt v system.unknowns ≡ true = grind arith in
    ap (λ b. cond b (pos (get_or point v 0)) (cond (nat_lt v (system.unknowns + length system.rows)) (slack unit point (get_or system.rows (v - system.unknowns) no_row)) (total system.costs point))) t

pub value_slack : (system : Inequalities) (unit : ℕ) (point : List ℕ) (i : ℕ) → i < length system.rows
    → value_at system unit point (system.unknowns + i) ≡ slack unit point (get_or system.rows i no_row)
unfolding value_at
value_slack system unit point i p =
    let n = system.unknowns in
    let f : nat_lt (n + i) n ≡ false = grind arith in
    let t : nat_lt (n + i) (n + length system.rows) ≡ true = grind arith in
    let e : n + i - n ≡ i = omega arith in
    ap (λ b. cond b (pos (get_or point (n + i) 0)) (cond (nat_lt (n + i) (n + length system.rows)) (slack unit point (get_or system.rows (n + i - n) no_row)) (total system.costs point))) f
    ∙ ap (λ b. cond b (slack unit point (get_or system.rows (n + i - n) no_row)) (total system.costs point)) t
    ∙ ap (λ j. slack unit point (get_or system.rows j no_row)) e

pub value_past : (system : Inequalities) (unit : ℕ) (point : List ℕ) (v : ℕ) → system.unknowns + length system.rows ≤ v
    → value_at system unit point v ≡ total system.costs point
unfolding value_at
value_past system unit point v p =
    let f : nat_lt v system.unknowns ≡ false = grind arith in
    let g : nat_lt v (system.unknowns + length system.rows) ≡ false = grind arith in
    ap (λ b. cond b (pos (get_or point v 0)) (cond (nat_lt v (system.unknowns + length system.rows)) (slack unit point (get_or system.rows (v - system.unknowns) no_row)) (total system.costs point))) f
    ∙ ap (λ b. cond b (slack unit point (get_or system.rows (v - system.unknowns) no_row)) (total system.costs point)) g

pub value_cost : (system : Inequalities) (unit : ℕ) (point : List ℕ)
    → value_at system unit point (system.unknowns + length system.rows) ≡ total system.costs point
value_cost system unit point = value_past system unit point (system.unknowns + length system.rows) (omega arith)

pub slack_is : (unit : ℕ) (point : List ℕ) (row : Inequality) → slack unit point row ≡ sum_at point row.terms +ℤ neg_ℤ (row.least *ℤ pos unit)
unfolding slack
slack_is unit point row = refl

-- ---- sums
pub dot_total : (cs : List ℤ) (xs : List ℕ) → dot cs (map pos xs) ≡ total cs xs
dot_total [] xs = refl
dot_total (c ∷ cs) [] = refl
dot_total (c ∷ cs) (x ∷ xs) = ap (λ r. (c *ℤ pos x) +ℤ r) (dot_total cs xs)

set_one : (fs xs : List ℤ) (i : ℕ) (v : ℤ) → i < length fs → i < length xs → get_or fs i (pos 0) ≡ pos 0
    → dot (set fs i v) xs ≡ dot fs xs +ℤ (v *ℤ get_or xs i (pos 0))
set_one fs xs i v p q z =
    let k = set_dot fs xs i v (get_or xs i (pos 0)) p q in
    let e = ap (λ ys. dot (set fs i v) ys) (set-get_or xs i (pos 0)) in
    let f = ap (λ y. y *ℤ get_or xs i (pos 0)) z ∙ zero_times (get_or xs i (pos 0)) in
    omega (arith, sums)

get_set_other : (fs : List ℤ) (i j : ℕ) (v : ℤ) → i < j → get_or (set fs i v) j (pos 0) ≡ get_or fs j (pos 0)
get_set_other [] i j v p = refl
get_set_other (f ∷ fs) zero zero v p = absurd (omega arith)
get_set_other (f ∷ fs) zero (suc j) v p = refl
get_set_other (f ∷ fs) (suc i) zero v p = absurd (omega arith)
get_set_other (f ∷ fs) (suc i) (suc j) v p = get_set_other fs i j v (omega arith)

pub spread_dot : (n low : ℕ) (fs xs : List ℤ) (ts : List Summand) (at : ℕ → ℤ) → IsAscending n low ts → length fs ≡ n → length xs ≡ n
    → ((j : ℕ) → low ≤ j → get_or fs j (pos 0) ≡ pos 0) → (sum : List Summand → ℤ) → sum [] ≡ pos 0
    → ((t : Summand) (us : List Summand) → t.unknown < n → sum (t ∷ us) ≡ (t.factor *ℤ get_or xs t.unknown (pos 0)) +ℤ sum us)
    → dot (spread fs ts) xs ≡ dot fs xs +ℤ sum ts
spread_dot n low fs xs [] at h p q z sum s0 s1 = omega (arith, sums)
spread_dot n low fs xs (t ∷ ts) at h p q z sum s0 s1 =
    let ih = spread_dot n (suc t.unknown) (set fs t.unknown t.factor) xs ts at h.3 (length-set fs t.unknown t.factor ∙ p) q
    (λ j le. get_set_other fs t.unknown j t.factor (omega arith) ∙ z j (omega (arith, h.0))) sum s0 s1 in
    let one = set_one fs xs t.unknown t.factor (omega (arith, p, h.1)) (omega (arith, q, h.1)) (z t.unknown h.0) in
    let step = s1 t ts h.1 in
    omega (arith, sums)

pub zeros_get : (n j : ℕ) → get_or (replicate n (pos 0)) j (pos 0) ≡ pos 0
zeros_get zero j = refl
zeros_get (suc n) zero = refl
zeros_get (suc n) (suc j) = zeros_get n j

pub zeros_dot : (n : ℕ) (xs : List ℤ) → dot (replicate n (pos 0)) xs ≡ pos 0
zeros_dot zero xs = refl
zeros_dot (suc n) [] = refl
zeros_dot (suc n) (x ∷ xs) = let ih = zeros_dot n xs in let z = zero_times x in omega (arith, sums)

-- a row's factors at a point
pub row_dot : (n : ℕ) (row : Inequality) (point : List ℕ) → IsProperRow n row → length point ≡ n
    → dot (spread (replicate n (pos 0)) row.terms) (map pos point) ≡ sum_at point row.terms
row_dot n row point h p =
    let k = spread_dot n 0 (replicate n (pos 0)) (map pos point) row.terms (λ j. pos 0) h.ascending (length-replicate n (pos 0)) (length-map point pos ∙ p)
    (λ j le. zeros_get n j) (sum_at point) refl
    (λ t us q. ap (λ y. (t.factor *ℤ y) +ℤ sum_at point us) (sym (get_or-map pos point t.unknown 0 (pos 0) (omega (arith, p, q))))) in
    let z = zeros_dot n (map pos point) in
    omega (arith, sums)

range_values : (f : ℕ → ℤ) (xs : List ℕ) (a : ℕ) → ((j : ℕ) → j < length xs → f (a + j) ≡ pos (get_or xs j 0))
    → map f (range_with_len a (length xs)) ≡ map pos xs
range_values f [] a h = refl
range_values f (x ∷ xs) a h =
    let e : a + 0 ≡ a = omega arith in
    let shift : (j : ℕ) → a + 1 + j ≡ a + suc j = λ j. omega arith in
    ap (λ y. y ∷ map f (range_with_len (a + 1) (length xs))) (sym (ap f e) ∙ h 0 (omega arith))
    ∙ ap (λ ys. pos x ∷ ys) (range_values f xs (a + 1) (λ j p. ap f (shift j) ∙ h (suc j) (omega arith)))

pub columns_values : (system : Inequalities) (unit : ℕ) (point : List ℕ) → length point ≡ system.unknowns
    → map (value_at system unit point) (range_with_len 0 system.unknowns) ≡ map pos point
columns_values system unit point p =
    let zero_plus : (j : ℕ) → 0 + j ≡ j = λ j. omega arith in
    ap (λ n. map (value_at system unit point) (range_with_len 0 n)) (sym p)
    ∙ range_values (value_at system unit point) point 0 (λ j q. ap (value_at system unit point) (zero_plus j) ∙ value_unknown system unit point j (omega (arith, p)))

-- ---- the first tableau holds at a point
slack_holds : (system : Inequalities) (unit variable : ℕ) (point : List ℕ) (row : Inequality) → IsProperRow system.unknowns row → length point ≡ system.unknowns
    → Holds (slack_line system.unknowns variable row) (slack unit point row) (map pos point) (pos unit)
unfolding slack
slack_holds system unit variable point row h p =
    let k = row_dot system.unknowns row point h p in
    let e = one_times (slack unit point row) in
    let f = times_neg row.least (pos unit) in
    record { is = omega (arith, sums) }

slacks_hold : (system : Inequalities) (unit : ℕ) (point : List ℕ) (xs : List ℤ) (i : ℕ) (rows : List Inequality) → length point ≡ system.unknowns
    → xs ≡ map pos point
    → All (IsProperRow system.unknowns) rows → ((j : ℕ) → j < length rows → get_or rows j no_row ≡ get_or system.rows (i + j) no_row)
    → i + length rows ≡ length system.rows
    → AllHold (value_at system unit point) xs (pos unit) (slack_lines system.unknowns (system.unknowns + i) rows)
slacks_hold system unit point xs i [] p x h a k = tt
slacks_hold system unit point xs i (row ∷ rows) p x h a k =
    let n = system.unknowns in
    let zero_place : i + 0 ≡ i = omega arith in
    let is : row ≡ get_or system.rows i no_row = a 0 (omega arith) ∙ ap (λ j. get_or system.rows j no_row) zero_place in
    let v = value_slack system unit point i (omega (arith, k)) ∙ ap (slack unit point) (sym is) in
    let shift : (j : ℕ) → i + suc j ≡ suc i + j = λ j. omega arith in
    let next : n + suc i ≡ suc (n + i) = omega arith in (
      subst (λ ys. Holds (slack_line n (n + i) row) (value_at system unit point (n + i)) ys (pos unit)) (sym x)
          (subst (λ y. Holds (slack_line n (n + i) row) y (map pos point) (pos unit)) (sym v) (slack_holds system unit (n + i) point row (h 0 row (omega arith)) p)),
      subst (λ m. AllHold (value_at system unit point) xs (pos unit) (slack_lines n m rows)) next
          (slacks_hold system unit point xs (suc i) rows p x (λ j d q. h (suc j) d (omega arith)) (λ j q. a (suc j) (omega arith) ∙ ap (λ m. get_or system.rows m no_row) (shift j)) (omega (arith, k))),
    )

pub first_means : (system : Inequalities) (unit : ℕ) (point : List ℕ) → IsProper system → length point ≡ system.unknowns
    → Means (first_tableau system) (value_at system unit point) (pos unit)
first_means system unit point h p =
    let n = system.unknowns in
    let x = columns_values system unit point p in
    let zero_plus : (j : ℕ) → 0 + j ≡ j = λ j. omega arith in
    let start : n + 0 ≡ n = omega arith in
    let one = one_times (total system.costs point) in
    let z = zero_times (pos unit) in
    let k = dot_total system.costs point in
    record {
      lines = subst (λ m. AllHold (value_at system unit point) (map (value_at system unit point) (range_with_len 0 n)) (pos unit) (slack_lines n m system.rows)) start
          (slacks_hold system unit point (map (value_at system unit point) (range_with_len 0 n)) 0 system.rows p x h.rows (λ j q. ap (λ m. get_or system.rows m no_row) (sym (zero_plus j))) (zero_plus (length system.rows)));
      cost = subst (λ ys. Holds (first_tableau system).cost (value_at system unit point (n + length system.rows)) ys (pos unit)) (sym x)
          (subst (λ y. Holds (first_tableau system).cost y (map pos point) (pos unit)) (sym (value_cost system unit point)) (record { is = omega (arith, sums) }));
    }
