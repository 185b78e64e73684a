-- The choice of a pivot: the cost's factors stay above 0, and divisors stay positive.
use Rattle.std.proofs.Common.{◌≡◌, ℕ, suc, zero, ◌+◌, ◌<◌, ◌≤◌, ℤ, pos, negsuc, ◌+ℤ◌, ◌*ℤ◌, List, [], ◌∷◌, map, length, set, get_or, Bool, true, false, cond, ◌&&◌, nat_eq, nat_lt, arith, ap, sym, ◌∙◌, refl, subst, unsigned_abs, None, Some, ◌⊎◌, inl, inr}
use Rattle.std.specs.Prelude.{◌||◌, neg_ℤ, int_div, int_lt, int_le, ◌<ℤ◌, ◌≤ℤ◌, Option, IfSome}
use Rattle.std.proofs.lemmas.Int.{ints}
use Rattle.std.proofs.lemmas.List.{length-map, length-set}
use Rattle.dual_simplex.specs.declared.tableau.Choice.{Choice}
use Rattle.dual_simplex.specs.declared.tableau.Candidate.{Candidate}
use Rattle.dual_simplex.specs.Equation.{Equation, factor_at, solved_for, mixed_all, without, combined, lowest, put_in}
use Rattle.dual_simplex.specs.Division.{common_divisor}
use Rattle.dual_simplex.specs.Tableau.{renewed, no_line}
use Rattle.dual_simplex.specs.Scans.{beats, better, entering_from, earlier, leaving_from}
use Rattle.dual_simplex.proofs.Ring.{sums, times_comm, times_neg, times_zero, swap_times, not_negative_times, not_positive_times, times_at_most, cancel_at_most}
use Rattle.dual_simplex.proofs.Sound.{greatest_divides, product_positive, divided_positive, length-mixed_all}
use Rattle.dual_simplex.proofs.Pivots.{AllWide}

-- no number of a list is negative
abbrev pub NotNegative : List ℤ → Type 0
NotNegative [] = Unit {0}
NotNegative (x ∷ xs) = (pos 0 ≤ℤ x) × NotNegative xs

-- no column has a smaller ratio of cost to factor than `cost` to `factor`
abbrev pub NoneBelow : ℤ → ℤ → List ℤ → List ℤ → Type 0
NoneBelow factor cost (c ∷ cs) (f ∷ fs) = ((cost *ℤ f) ≤ℤ (factor *ℤ c)) × NoneBelow factor cost cs fs
NoneBelow factor cost cs fs = Unit {0}

-- ---- the cost's factors
mixed_place : (d q c f : ℤ) → (q *ℤ f) ≤ℤ (d *ℤ c) → pos 0 ≤ℤ ((d *ℤ c) +ℤ (q *ℤ neg_ℤ f))
mixed_place d q c f h =
    let e = times_comm q (neg_ℤ f) ∙ times_neg f q ∙ ap neg_ℤ (times_comm f q) in
    omega (arith, sums)

mixed_rest : (d q : ℤ) (cs fs : List ℤ) → NoneBelow d q cs fs → NotNegative (mixed_all d q cs (map neg_ℤ fs))
mixed_rest d q [] fs h = tt
mixed_rest d q (c ∷ cs) [] h = tt
mixed_rest d q (c ∷ cs) (f ∷ fs) h = (mixed_place d q c f h.0, mixed_rest d q cs fs h.1)

mixed_all_not_negative : (d q own : ℤ) (cs fs : List ℤ) (place : ℕ) → pos 0 ≤ℤ q → pos 0 ≤ℤ own → NoneBelow d q cs fs
    → NotNegative (mixed_all d q (set cs place (pos 0)) (set (map neg_ℤ fs) place own))
mixed_all_not_negative d q own [] fs place p r h = tt
mixed_all_not_negative d q own (c ∷ cs) [] zero p r h = tt
mixed_all_not_negative d q own (c ∷ cs) [] (suc place) p r h = tt
mixed_all_not_negative d q own (c ∷ cs) (f ∷ fs) zero p r h =
    let k = not_negative_times q own p r in
    let z = times_zero d in
    (omega (arith, sums), mixed_rest d q cs fs h.1)
mixed_all_not_negative d q own (c ∷ cs) (f ∷ fs) (suc place) p r h = (mixed_place d q c f h.0, mixed_all_not_negative d q own cs fs place p r h.1)

divided_not_negative : (g : ℕ) (xs : List ℤ) → NotNegative xs → NotNegative (map (λ x. int_div x (pos g)) xs)
divided_not_negative g [] h = tt
divided_not_negative g (pos n ∷ xs) h = (omega (arith, ints), divided_not_negative g xs h.1)
divided_not_negative g (negsuc n ∷ xs) h = let k = h.0 in absurd (omega (arith, ints))

pub cost_not_negative : (place entering : ℕ) (line cost : Equation) → pos 0 <ℤ line.divisor → pos 0 ≤ℤ factor_at place cost → NotNegative cost.factors
    → NoneBelow (factor_at place line) (factor_at place cost) cost.factors line.factors
    → NotNegative (put_in place (solved_for place entering line) cost).factors
cost_not_negative place entering line cost p q n h = by (nat_eq (unsigned_abs (factor_at place cost)) 0)
  where
    by : (b : Bool) → NotNegative (cond b cost (lowest (combined (factor_at place cost) (solved_for place entering line) (without place cost)))).factors
    by true = n
    by false =
        divided_not_negative (common_divisor (factor_at place line *ℤ cost.divisor) ((combined (factor_at place cost) (solved_for place entering line) (without place cost)).constant ∷ (combined (factor_at place cost) (solved_for place entering line) (without place cost)).factors))
        (mixed_all (factor_at place line) (factor_at place cost) (set cost.factors place (pos 0)) (set (map neg_ℤ line.factors) place line.divisor))
        (mixed_all_not_negative (factor_at place line) (factor_at place cost) line.divisor cost.factors line.factors place q (omega (arith, sums)) h)

-- ---- divisors and widths
pub put_in_positive : (place : ℕ) (s e : Equation) → pos 0 <ℤ s.divisor → pos 0 <ℤ e.divisor → pos 0 <ℤ (put_in place s e).divisor
put_in_positive place s e p q = by (nat_eq (unsigned_abs (factor_at place e)) 0)
  where
    by : (b : Bool) → pos 0 <ℤ (cond b e (lowest (combined (factor_at place e) s (without place e)))).divisor
    by true = q
    by false =
        let c = combined (factor_at place e) s (without place e) in
        divided_positive (s.divisor *ℤ e.divisor) (common_divisor c.divisor (c.constant ∷ c.factors)) (product_positive s.divisor e.divisor p q)
        (greatest_divides (unsigned_abs c.divisor) (c.divisor ∷ c.constant ∷ c.factors)).0

pub put_in_width : (n place : ℕ) (s e : Equation) → length s.factors ≡ n → length e.factors ≡ n → length (put_in place s e).factors ≡ n
put_in_width n place s e p q = by (nat_eq (unsigned_abs (factor_at place e)) 0)
  where
    by : (b : Bool) → length (cond b e (lowest (combined (factor_at place e) s (without place e)))).factors ≡ n
    by true = q
    by false =
        length-map (combined (factor_at place e) s (without place e)).factors (λ x. int_div x (pos (common_divisor (combined (factor_at place e) s (without place e)).divisor ((combined (factor_at place e) s (without place e)).constant ∷ (combined (factor_at place e) s (without place e)).factors))))
        ∙ length-mixed_all s.divisor (factor_at place e) (set e.factors place (pos 0)) s.factors (length-set e.factors place (pos 0) ∙ q ∙ sym p)
        ∙ length-set e.factors place (pos 0) ∙ q

abbrev pub AllPositive : List Equation → Type 0
AllPositive [] = Unit {0}
AllPositive (e ∷ es) = (pos 0 <ℤ e.divisor) × AllPositive es

pub positive_at : (es : List Equation) (i : ℕ) → i < length es → AllPositive es → pos 0 <ℤ (get_or es i no_line).divisor
positive_at [] i p h = absurd (omega arith)
positive_at (e ∷ es) zero p h = h.0
positive_at (e ∷ es) (suc i) p h = positive_at es i (omega arith) h.1

renewed_positive : (b : Bool) (place : ℕ) (s e : Equation) → pos 0 <ℤ s.divisor → pos 0 <ℤ e.divisor → pos 0 <ℤ (cond b s (put_in place s e)).divisor
renewed_positive true place s e p q = p
renewed_positive false place s e p q = put_in_positive place s e p q

pub all_positive : (leaver place : ℕ) (s : Equation) (es : List Equation) → pos 0 <ℤ s.divisor → AllPositive es → AllPositive (map (renewed leaver place s) es)
all_positive leaver place s [] p h = tt
all_positive leaver place s (e ∷ es) p h = (renewed_positive (nat_eq e.variable leaver) place s e p h.0, all_positive leaver place s es p h.1)

renewed_width : (b : Bool) (n place : ℕ) (s e : Equation) → length s.factors ≡ n → length e.factors ≡ n → length (cond b s (put_in place s e)).factors ≡ n
renewed_width true n place s e p q = p
renewed_width false n place s e p q = put_in_width n place s e p q

pub all_wide : (n leaver place : ℕ) (s : Equation) (es : List Equation) → length s.factors ≡ n → AllWide n es → AllWide n (map (renewed leaver place s) es)
all_wide n leaver place s [] p h = tt
all_wide n leaver place s (e ∷ es) p h = (renewed_width (nat_eq e.variable leaver) n place s e p h.0, all_wide n leaver place s es p h.1)

-- ---- the entering column
abbrev pub AtMost : Choice → Choice → Type 0
AtMost a b = (a.cost *ℤ b.factor) ≤ℤ (b.cost *ℤ a.factor)

pub at_most_trans : (a b c : Choice) → pos 0 <ℤ a.factor → pos 0 <ℤ b.factor → pos 0 <ℤ c.factor → AtMost a b → AtMost b c → AtMost a c
at_most_trans a b c pa pb pc p q =
    let l = times_at_most c.factor (a.cost *ℤ b.factor) (b.cost *ℤ a.factor) (omega (arith, sums)) p in
    let r = times_at_most a.factor (b.cost *ℤ c.factor) (c.cost *ℤ b.factor) (omega (arith, sums)) q in
    -- b.factor * (a.cost * c.factor) and b.factor * (c.cost * a.factor)
    let e1 : c.factor *ℤ (a.cost *ℤ b.factor) ≡ b.factor *ℤ (a.cost *ℤ c.factor) = swap_times c.factor a.cost b.factor ∙ ap (λ x. a.cost *ℤ x) (times_comm c.factor b.factor) ∙ swap_times a.cost b.factor c.factor in
    let e2 : c.factor *ℤ (b.cost *ℤ a.factor) ≡ a.factor *ℤ (b.cost *ℤ c.factor) = swap_times c.factor b.cost a.factor ∙ ap (λ x. b.cost *ℤ x) (times_comm c.factor a.factor) ∙ swap_times b.cost a.factor c.factor in
    let e3 : a.factor *ℤ (c.cost *ℤ b.factor) ≡ b.factor *ℤ (c.cost *ℤ a.factor) = swap_times a.factor c.cost b.factor ∙ ap (λ x. c.cost *ℤ x) (times_comm a.factor b.factor) ∙ swap_times c.cost b.factor a.factor in
    cancel_at_most b.factor (a.cost *ℤ c.factor) (c.cost *ℤ a.factor) pb (omega (arith, sums))

lt_of : (a b : ℤ) → int_lt a b ≡ true → a <ℤ b
lt_of a b h = omega (arith, ints)

not_lt_of : (a b : ℤ) → int_lt a b ≡ false → b ≤ℤ a
not_lt_of a b h = omega (arith, ints)

le_of : (a b : ℤ) → int_le a b ≡ true → a ≤ℤ b
le_of a b h = omega (arith, ints)

beats_at_most : (next best : Choice) → beats next best ≡ true → AtMost next best
beats_at_most next best h = by (int_lt (next.cost *ℤ best.factor) (best.cost *ℤ next.factor)) refl (int_le (next.cost *ℤ best.factor) (best.cost *ℤ next.factor)) refl h
  where
    by : (p : Bool) → int_lt (next.cost *ℤ best.factor) (best.cost *ℤ next.factor) ≡ p → (q : Bool)
        → int_le (next.cost *ℤ best.factor) (best.cost *ℤ next.factor) ≡ q
        → (p || (q && nat_lt next.variable best.variable)) ≡ true → AtMost next best
    by true e q f h = let k = lt_of (next.cost *ℤ best.factor) (best.cost *ℤ next.factor) e in omega (arith, sums)
    by false e true f h = le_of (next.cost *ℤ best.factor) (best.cost *ℤ next.factor) f
    by false e false f h = absurd cc

not_beats_at_most : (next best : Choice) → beats next best ≡ false → AtMost best next
not_beats_at_most next best h = by (int_lt (next.cost *ℤ best.factor) (best.cost *ℤ next.factor)) refl h
  where
    by : (p : Bool) → int_lt (next.cost *ℤ best.factor) (best.cost *ℤ next.factor) ≡ p
        → (p || (int_le (next.cost *ℤ best.factor) (best.cost *ℤ next.factor) && nat_lt next.variable best.variable)) ≡ false → AtMost best next
    by true e h = absurd cc
    by false e h = not_lt_of (next.cost *ℤ best.factor) (best.cost *ℤ next.factor) e

-- what a choice comes from
pub record Fine (costs factors : List ℤ) (below : ℕ) (c : Choice) : Type 0 where
  pub positive : pos 0 <ℤ c.factor
  pub not_negative : pos 0 ≤ℤ c.cost
  pub inside : c.place < below
  pub cost : c.cost ≡ get_or costs c.place (pos 0)
  pub factor : c.factor ≡ get_or factors c.place (pos 0)

fine_later : (costs factors : List ℤ) (k m : ℕ) (c : Choice) → k ≤ m → Fine costs factors k c → Fine costs factors m c
fine_later costs factors k m c h f = record { positive = f.positive; not_negative = f.not_negative; inside = omega (arith, f.inside); cost = f.cost; factor = f.factor }

-- one step of the scan
module _ (costs factors : List ℤ) (next : Choice) (fine : pos 0 <ℤ next.factor → Fine costs factors (suc next.place) next) where
  step_fine_by : (b : Bool) (old : Option Choice) → (b ≡ true → pos 0 <ℤ next.factor) → IfSome old (Fine costs factors next.place)
      → IfSome (cond b (Some next) old) (Fine costs factors (suc next.place))
  step_fine_by true old p h = fine (p refl)
  step_fine_by false None p h = tt
  step_fine_by false (Some c) p h = fine_later costs factors next.place (suc next.place) c (omega arith) h

  and_left : (a b : Bool) → (a && b) ≡ true → a ≡ true
  and_left true b h = refl
  and_left false b h = h

  and_right : (a b : Bool) → (a && b) ≡ true → b ≡ true
  and_right true b h = h
  and_right false b h = absurd cc

  step_fine : (best : Option Choice) → IfSome best (Fine costs factors next.place) → IfSome (better best next) (Fine costs factors (suc next.place))
  step_fine None h = step_fine_by (int_lt (pos 0) next.factor) None (λ t. lt_of (pos 0) next.factor t) tt
  step_fine (Some b) h =
      step_fine_by (int_lt (pos 0) next.factor && beats next b) (Some b) (λ t. lt_of (pos 0) next.factor (and_left (int_lt (pos 0) next.factor) (beats next b) t)) h

  module _ (choice : Choice) (own : pos 0 <ℤ choice.factor) where
    -- what is at most the better one is at most both
    next_none : (b : Bool) → int_lt (pos 0) next.factor ≡ b → IfSome (cond b (Some next) None) (AtMost choice) → pos 0 <ℤ next.factor → AtMost choice next
    next_none true e h p = h
    next_none false e h p = let k = not_lt_of (pos 0) next.factor e in absurd (omega (arith, sums))

    next_some : (b : Choice) (x y : Bool) → int_lt (pos 0) next.factor ≡ x → beats next b ≡ y → pos 0 <ℤ b.factor
        → IfSome (cond (x && y) (Some next) (Some b)) (AtMost choice) → pos 0 <ℤ next.factor → AtMost choice next
    next_some b true true e f q h p = h
    next_some b true false e f q h p = at_most_trans choice b next own q p h (not_beats_at_most next b f)
    next_some b false y e f q h p = let k = not_lt_of (pos 0) next.factor e in absurd (omega (arith, sums))

    step_next : (best : Option Choice) → IfSome best (Fine costs factors next.place) → IfSome (better best next) (AtMost choice)
        → pos 0 <ℤ next.factor → AtMost choice next
    step_next None g h p = next_none (int_lt (pos 0) next.factor) refl h p
    step_next (Some b) g h p = next_some b (int_lt (pos 0) next.factor) (beats next b) refl refl g.positive h p

    best_some : (b : Choice) (x y : Bool) → int_lt (pos 0) next.factor ≡ x → beats next b ≡ y → pos 0 <ℤ b.factor
        → IfSome (cond (x && y) (Some next) (Some b)) (AtMost choice) → AtMost choice b
    best_some b true true e f q h = at_most_trans choice next b own (lt_of (pos 0) next.factor e) q h (beats_at_most next b f)
    best_some b true false e f q h = h
    best_some b false y e f q h = h

    step_best : (best : Option Choice) → IfSome best (Fine costs factors next.place) → IfSome (better best next) (AtMost choice) → IfSome best (AtMost choice)
    step_best None g h = tt
    step_best (Some b) g h = best_some b (int_lt (pos 0) next.factor) (beats next b) refl refl g.positive h

pub record Found (costs factors : List ℤ) (below : ℕ) (best : Option Choice) (cs fs : List ℤ) (choice : Choice) : Type 0 where
  pub fine : Fine costs factors below choice
  pub none_below : NoneBelow choice.factor choice.cost cs fs
  pub at_most : IfSome best (AtMost choice)

place_below : (choice : Choice) (c f : ℤ) → pos 0 <ℤ choice.factor → pos 0 ≤ℤ choice.cost → pos 0 ≤ℤ c
    → (pos 0 <ℤ f → (choice.cost *ℤ f) ≤ℤ (c *ℤ choice.factor)) → (choice.cost *ℤ f) ≤ℤ (choice.factor *ℤ c)
place_below choice c f p q n h = by (order (pos 0) f)
  where
    order : (x y : ℤ) → (x <ℤ y) ⊎ (y ≤ℤ x)
    order x y = grind (arith, ints)

    by : (pos 0 <ℤ f) ⊎ (f ≤ℤ pos 0) → (choice.cost *ℤ f) ≤ℤ (choice.factor *ℤ c)
    by (inl a) = let k = h a in let e = times_comm c choice.factor in omega (arith, sums)
    by (inr a) =
        let k = not_positive_times f choice.cost a q in
        let e = times_comm f choice.cost in
        let l = not_negative_times choice.factor c (omega (arith, sums)) n in
        omega (arith, sums)

pub entering_found : (costs factors : List ℤ) (best : Option Choice) (place below : ℕ) (vs : List ℕ) (cs fs : List ℤ) (choice : Choice)
    → NotNegative cs → ((j : ℕ) → get_or cs j (pos 0) ≡ get_or costs (place + j) (pos 0)) → ((j : ℕ) → get_or fs j (pos 0) ≡ get_or factors (place + j) (pos 0))
    → place + length vs ≤ below
    → IfSome best (Fine costs factors place) → entering_from best place vs cs fs ≡ Some choice → length cs ≡ length vs → length fs ≡ length vs
    → Found costs factors below best cs fs choice
entering_found costs factors None place below [] cs fs choice n a b k h e p q = absurd cc
entering_found costs factors (Some x) place below [] [] [] choice n a b k h e p q =
    let same : x ≡ choice = cc in
    record {
      fine = subst (Fine costs factors below) same (fine_later costs factors place below x (omega arith) h);
      none_below = tt;
      at_most = subst (λ c. AtMost c x) same (omega (arith, sums));
    }
entering_found costs factors (Some x) place below [] (c ∷ cs) fs choice n a b k h e p q = absurd (omega (arith, p))
entering_found costs factors (Some x) place below [] [] (f ∷ fs) choice n a b k h e p q = absurd (omega (arith, q))
entering_found costs factors best place below (v ∷ vs) [] fs choice n a b k h e p q = absurd (omega (arith, p))
entering_found costs factors best place below (v ∷ vs) (c ∷ cs) [] choice n a b k h e p q = absurd (omega (arith, q))
entering_found costs factors best place below (v ∷ vs) (c ∷ cs) (f ∷ fs) choice n a b k h e p q =
    let next : Choice = record { place = place; variable = v; cost = c; factor = f } in
    let zero_place : place + 0 ≡ place = omega arith in
    let ca : c ≡ get_or costs place (pos 0) = a 0 ∙ ap (λ j. get_or costs j (pos 0)) zero_place in
    let fa : f ≡ get_or factors place (pos 0) = b 0 ∙ ap (λ j. get_or factors j (pos 0)) zero_place in
    let fine : pos 0 <ℤ f → Fine costs factors (suc place) next = λ t. record { positive = t; not_negative = n.0; inside = omega arith; cost = ca; factor = fa } in
    let shift : (j : ℕ) → place + suc j ≡ suc place + j = λ j. omega arith in
    let found = entering_found costs factors (better best next) (suc place) below vs cs fs choice n.1
    (λ j. a (suc j) ∙ ap (λ i. get_or costs i (pos 0)) (shift j)) (λ j. b (suc j) ∙ ap (λ i. get_or factors i (pos 0)) (shift j))
    (omega (arith, k)) (step_fine costs factors next fine best h) e (omega (arith, p)) (omega (arith, q)) in
    let own = found.fine.positive in
    let at_next = step_next costs factors next fine choice own best h found.at_most in
    record {
      fine = found.fine;
      none_below = (place_below choice c f own found.fine.not_negative n.0 at_next, found.none_below);
      at_most = step_best costs factors next fine choice own best h found.at_most;
    }

-- ---- no column enters
abbrev pub NotPositive : List ℤ → Type 0
NotPositive [] = Unit {0}
NotPositive (x ∷ xs) = (x ≤ℤ pos 0) × NotPositive xs

some_stays_by : (b : Bool) (next old : Choice) (place : ℕ) (vs : List ℕ) (cs fs : List ℤ) → ((c : Choice) → entering_from (Some c) place vs cs fs ≡ None → ⊥)
    → entering_from (cond b (Some next) (Some old)) place vs cs fs ≡ None → ⊥
some_stays_by true next old place vs cs fs ih e = ih next e
some_stays_by false next old place vs cs fs ih e = ih old e

some_stays : (vs : List ℕ) (cs fs : List ℤ) (place : ℕ) (best : Choice) → entering_from (Some best) place vs cs fs ≡ None → ⊥
some_stays [] cs fs place best e = absurd cc
some_stays (v ∷ vs) [] fs place best e = absurd cc
some_stays (v ∷ vs) (c ∷ cs) [] place best e = absurd cc
some_stays (v ∷ vs) (c ∷ cs) (f ∷ fs) place best e =
    let next : Choice = record { place = place; variable = v; cost = c; factor = f } in
    some_stays_by (int_lt (pos 0) f && beats next best) next best (suc place) vs cs fs (λ b. some_stays vs cs fs (suc place) b) e

none_enters_by : (b : Bool) (v : ℕ) (c f : ℤ) (place : ℕ) (vs : List ℕ) (cs fs : List ℤ) → int_lt (pos 0) f ≡ b
    → (entering_from None (suc place) vs cs fs ≡ None → NotPositive fs)
    → entering_from (cond b (Some (record { place = place; variable = v; cost = c; factor = f })) None) (suc place) vs cs fs ≡ None → NotPositive (f ∷ fs)
none_enters_by true v c f place vs cs fs t ih e = absurd (some_stays vs cs fs (suc place) (record { place = place; variable = v; cost = c; factor = f }) e)
none_enters_by false v c f place vs cs fs t ih e = (not_lt_of (pos 0) f t, ih e)

pub none_enters : (place : ℕ) (vs : List ℕ) (cs fs : List ℤ) → length cs ≡ length vs → length fs ≡ length vs
    → entering_from None place vs cs fs ≡ None → NotPositive fs
none_enters place [] cs [] p q e = tt
none_enters place [] cs (f ∷ fs) p q e = absurd (omega (arith, q))
none_enters place (v ∷ vs) [] fs p q e = absurd (omega (arith, p))
none_enters place (v ∷ vs) (c ∷ cs) [] p q e = absurd (omega (arith, q))
none_enters place (v ∷ vs) (c ∷ cs) (f ∷ fs) p q e =
    none_enters_by (int_lt (pos 0) f) v c f place vs cs fs refl (none_enters (suc place) vs cs fs (omega (arith, p)) (omega (arith, q))) e

-- ---- the leaving line
pub record Gone (lines : List Equation) (below : ℕ) (c : Candidate) : Type 0 where
  pub inside : c.place < below
  pub negative : (get_or lines c.place no_line).constant <ℤ pos 0

gone_later : (lines : List Equation) (k m : ℕ) (c : Candidate) → k ≤ m → Gone lines k c → Gone lines m c
gone_later lines k m c h g = record { inside = omega (arith, g.inside); negative = g.negative }

gone_by : (b : Bool) (lines : List Equation) (next : Candidate) (old : Option Candidate) → (b ≡ true → Gone lines (suc next.place) next)
    → IfSome old (Gone lines next.place) → IfSome (cond b (Some next) old) (Gone lines (suc next.place))
gone_by true lines next old p h = p refl
gone_by false lines next None p h = tt
gone_by false lines next (Some c) p h = gone_later lines next.place (suc next.place) c (omega arith) h

first_true : (a b : Bool) → (a && b) ≡ true → a ≡ true
first_true true b h = refl
first_true false b h = h

gone_step : (lines : List Equation) (best : Option Candidate) (next : Candidate) (constant : ℤ) → constant ≡ (get_or lines next.place no_line).constant
    → IfSome best (Gone lines next.place) → IfSome (earlier best next constant) (Gone lines (suc next.place))
gone_step lines None next constant e h =
    gone_by (int_lt constant (pos 0)) lines next None
    (λ t. record { inside = omega arith; negative = subst (λ x. x <ℤ pos 0) e (lt_of constant (pos 0) t) }) tt
gone_step lines (Some b) next constant e h =
    gone_by (int_lt constant (pos 0) && nat_lt next.variable b.variable) lines next (Some b)
    (λ t. record { inside = omega arith; negative = subst (λ x. x <ℤ pos 0) e (lt_of constant (pos 0) (first_true (int_lt constant (pos 0)) (nat_lt next.variable b.variable) t)) }) h

pub leaving_found : (lines : List Equation) (best : Option Candidate) (place below : ℕ) (es : List Equation) (c : Candidate)
    → ((j : ℕ) → get_or es j no_line ≡ get_or lines (place + j) no_line) → place + length es ≤ below
    → IfSome best (Gone lines place) → leaving_from best place es ≡ Some c → Gone lines below c
leaving_found lines None place below [] c a k h e = absurd cc
leaving_found lines (Some b) place below [] c a k h e =
    let same : b ≡ c = cc in subst (Gone lines below) same (gone_later lines place below b (omega arith) h)
leaving_found lines best place below (x ∷ es) c a k h e =
    let zero_place : place + 0 ≡ place = omega arith in
    let own = ap (λ y. y.constant) (a 0) ∙ ap (λ j. (get_or lines j no_line).constant) zero_place in
    let shift : (j : ℕ) → place + suc j ≡ suc place + j = λ j. omega arith in
    let next : Candidate = record { place = place; variable = x.variable } in
    leaving_found lines (earlier best next x.constant) (suc place) below es c (λ j. a (suc j) ∙ ap (λ i. get_or lines i no_line) (shift j)) (omega (arith, k))
    (gone_step lines best next x.constant own h) e

-- no line leaves
abbrev pub ConstantsNotNegative : List Equation → Type 0
ConstantsNotNegative [] = Unit {0}
ConstantsNotNegative (e ∷ es) = (pos 0 ≤ℤ e.constant) × ConstantsNotNegative es

leaver_stays_by : (b : Bool) (next old : Candidate) (place : ℕ) (es : List Equation) → ((c : Candidate) → leaving_from (Some c) place es ≡ None → ⊥)
    → leaving_from (cond b (Some next) (Some old)) place es ≡ None → ⊥
leaver_stays_by true next old place es ih e = ih next e
leaver_stays_by false next old place es ih e = ih old e

leaver_stays : (es : List Equation) (place : ℕ) (best : Candidate) → leaving_from (Some best) place es ≡ None → ⊥
leaver_stays [] place best e = absurd cc
leaver_stays (x ∷ es) place best e =
    let next : Candidate = record { place = place; variable = x.variable } in
    leaver_stays_by (int_lt x.constant (pos 0) && nat_lt next.variable best.variable) next best (suc place) es (λ c. leaver_stays es (suc place) c) e

none_leaves_by : (b : Bool) (x : Equation) (place : ℕ) (es : List Equation) → int_lt x.constant (pos 0) ≡ b
    → (leaving_from None (suc place) es ≡ None → ConstantsNotNegative es)
    → leaving_from (cond b (Some (record { place = place; variable = x.variable })) None) (suc place) es ≡ None → ConstantsNotNegative (x ∷ es)
none_leaves_by true x place es t ih e = absurd (leaver_stays es (suc place) (record { place = place; variable = x.variable }) e)
none_leaves_by false x place es t ih e = (not_lt_of x.constant (pos 0) t, ih e)

pub none_leaves : (place : ℕ) (es : List Equation) → leaving_from None place es ≡ None → ConstantsNotNegative es
none_leaves place [] e = tt
none_leaves place (x ∷ es) e = none_leaves_by (int_lt x.constant (pos 0)) x place es refl (none_leaves (suc place) es) e
