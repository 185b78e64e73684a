-- The scans of lines and of columns find the pivot of the method.
use Rattle.std.proofs.Common.{◌≡◌, ℕ, suc, zero, ◌+◌, ◌<◌, ◌≤◌, ℤ, pos, ◌*ℤ◌, List, [], ◌∷◌, length, get_or, Bool, true, false, cond, ◌&&◌, nat_lt, arith, ap, sym, ◌∙◌, refl, subst, ◌⊎◌, inl, inr, None, Some}
use Rattle.std.specs.Prelude.{◌||◌, int_lt, int_le, ◌<ℤ◌, ◌≤ℤ◌, Option, IfSome, MatchOption}
use Rattle.std.proofs.lemmas.Int.{ints}
use Rattle.dual_simplex.specs.declared.tableau.Candidate.{Candidate}
use Rattle.dual_simplex.specs.declared.tableau.Choice.{Choice}
use Rattle.dual_simplex.specs.Equation.{Equation}
use Rattle.dual_simplex.specs.Tableau.{Tableau, no_line}
use Rattle.dual_simplex.specs.Choices.{IsLeaving, NoLeaving, IsEntering, NoEntering}
use Rattle.dual_simplex.specs.Scans.{leaving, entering, earlier, leaving_from, beats, better, entering_from, LeavesRightly, EntersRightly}
use Rattle.dual_simplex.proofs.Ring.{sums}
use Rattle.dual_simplex.proofs.Ratio.{AtMost, at_most_trans, ConstantsNotNegative, NotPositive, none_leaves, none_enters}

lt_of : (a b : ℤ) → int_lt a b ≡ true → a <ℤ b
lt_of a b h = omega (arith, ints)

not_lt_of : (a b : ℤ) → int_lt a b ≡ false → b ≤ℤ a
not_lt_of a b h = omega (arith, ints)

le_of : (a b : ℤ) → int_le a b ≡ true → a ≤ℤ b
le_of a b h = omega (arith, ints)

not_le_of : (a b : ℤ) → int_le a b ≡ false → b <ℤ a
not_le_of a b h = omega (arith, ints)

below_of : (a b : ℕ) → nat_lt a b ≡ true → a < b
below_of a b h = grind arith

not_below_of : (a b : ℕ) → nat_lt a b ≡ false → b ≤ a
not_below_of a b h = grind arith

and_left : (a b : Bool) → (a && b) ≡ true → a ≡ true
and_left true b h = refl
and_left false b h = h

and_right : (a b : Bool) → (a && b) ≡ true → b ≡ true
and_right true b h = h
and_right false b h = absurd cc

-- ---- lines
record Leaves (lines : List Equation) (below : ℕ) (c : Candidate) : Type 0 where
  inside : c.place < below
  variable : c.variable ≡ (get_or lines c.place no_line).variable
  negative : (get_or lines c.place no_line).constant <ℤ pos 0

leaves_later : (lines : List Equation) (k m : ℕ) (c : Candidate) → k ≤ m → Leaves lines k c → Leaves lines m c
leaves_later lines k m c h g = record { inside = omega (arith, g.inside); variable = g.variable; negative = g.negative }

record LeavesStep (lines : List Equation) (best : Option Candidate) (next : Candidate) (constant : ℤ) (now : Option Candidate) : Type 0 where
  kept : IfSome now (Leaves lines (suc next.place))
  -- whatever is at most the new one is at most both
  least : (c : Candidate) → IfSome now (λ x. c.variable ≤ x.variable)
      → (constant <ℤ pos 0 → c.variable ≤ next.variable) × IfSome best (λ x. c.variable ≤ x.variable)

module _ (lines : List Equation) (next : Candidate) (constant : ℤ) (own : constant <ℤ pos 0 → Leaves lines (suc next.place) next) where
  none_step : (b : Bool) → int_lt constant (pos 0) ≡ b → LeavesStep lines None next constant (cond b (Some next) None)
  none_step true e = record { kept = own (lt_of constant (pos 0) e); least = λ c h. (λ p. h, tt) }
  none_step false e = record { kept = tt; least = λ c h. (λ p. let k = not_lt_of constant (pos 0) e in absurd (omega (arith, sums)), tt) }

  some_step : (best : Candidate) (x y : Bool) → int_lt constant (pos 0) ≡ x → nat_lt next.variable best.variable ≡ y → Leaves lines next.place best
      → LeavesStep lines (Some best) next constant (cond (x && y) (Some next) (Some best))
  some_step best true true e f g = record {
    kept = own (lt_of constant (pos 0) e);
    least = λ c h. (λ p. h, (let k = below_of next.variable best.variable f in omega arith));
  }
  some_step best true false e f g = record {
    kept = leaves_later lines next.place (suc next.place) best (omega arith) g;
    least = λ c h. (λ p. (let k = not_below_of next.variable best.variable f in omega arith), h);
  }
  some_step best false y e f g = record {
    kept = leaves_later lines next.place (suc next.place) best (omega arith) g;
    least = λ c h. (λ p. (let k = not_lt_of constant (pos 0) e in absurd (omega (arith, sums))), h);
  }

  step : (best : Option Candidate) → IfSome best (Leaves lines next.place) → LeavesStep lines best next constant (earlier best next constant)
  step None h = none_step (int_lt constant (pos 0)) refl
  step (Some best) h = some_step best (int_lt constant (pos 0)) (nat_lt next.variable best.variable) refl refl h

record LeavesFound (lines : List Equation) (below : ℕ) (best : Option Candidate) (es : List Equation) (c : Candidate) : Type 0 where
  leaves : Leaves lines below c
  least : (i : ℕ) → i < length es → (get_or es i no_line).constant <ℤ pos 0 → c.variable ≤ (get_or es i no_line).variable
  at_most : IfSome best (λ x. c.variable ≤ x.variable)

either_place : (x : Equation) (es : List Equation) (v : ℕ) → (x.constant <ℤ pos 0 → v ≤ x.variable)
    → ((i : ℕ) → i < length es → (get_or es i no_line).constant <ℤ pos 0 → v ≤ (get_or es i no_line).variable)
    → (i : ℕ) → i < length (x ∷ es) → (get_or (x ∷ es) i no_line).constant <ℤ pos 0 → v ≤ (get_or (x ∷ es) i no_line).variable
either_place x es v h t zero p n = h n
either_place x es v h t (suc i) p n = t i (omega arith) n

leaves_found : (lines : List Equation) (best : Option Candidate) (place below : ℕ) (es : List Equation) (c : Candidate)
    → ((j : ℕ) → get_or es j no_line ≡ get_or lines (place + j) no_line) → place + length es ≤ below
    → IfSome best (Leaves lines place) → leaving_from best place es ≡ Some c → LeavesFound lines below best es c
leaves_found lines None place below [] c a k h e = absurd cc
leaves_found lines (Some b) place below [] c a k h e =
    let same : b ≡ c = cc in
    record {
      leaves = subst (Leaves lines below) same (leaves_later lines place below b (omega arith) h);
      least = λ i p n. absurd (omega arith);
      at_most = subst (λ x. x.variable ≤ b.variable) same (omega arith);
    }
leaves_found lines best place below (x ∷ es) c a k h e =
    let here : place + 0 ≡ place = omega arith in
    let is = a 0 ∙ ap (λ j. get_or lines j no_line) here in
    let shift : (j : ℕ) → place + suc j ≡ suc place + j = λ j. omega arith in
    let next : Candidate = record { place = place; variable = x.variable } in
    let own : x.constant <ℤ pos 0 → Leaves lines (suc place) next = λ n. record { inside = omega arith; variable = ap (λ y. y.variable) is; negative = subst (λ y. y.constant <ℤ pos 0) is n } in
    let s = step lines next x.constant own best h in
    let found = leaves_found lines (earlier best next x.constant) (suc place) below es c (λ j. a (suc j) ∙ ap (λ i. get_or lines i no_line) (shift j)) (omega (arith, k)) s.kept e in
    let l = s.least c found.at_most in
    record { leaves = found.leaves; least = either_place x es c.variable l.0 found.least; at_most = l.1 }

not_negative_at : (es : List Equation) → ConstantsNotNegative es → (i : ℕ) → i < length es → pos 0 ≤ℤ (get_or es i no_line).constant
not_negative_at [] h i p = absurd (omega arith)
not_negative_at (x ∷ es) h zero p = h.0
not_negative_at (x ∷ es) h (suc i) p = not_negative_at es h.1 i (omega arith)

pub leaves_rightly : (t : Tableau) → LeavesRightly t
leaves_rightly t = by (leaving t) refl
  where
    by : (o : Option Candidate) → leaving t ≡ o → MatchOption o (NoLeaving t) (λ c. IsLeaving t c.place)
    by None e = not_negative_at t.lines (none_leaves 0 t.lines e)
    by (Some c) e =
        let zero_plus : (j : ℕ) → 0 + j ≡ j = λ j. omega arith in
        let found = leaves_found t.lines None 0 (length t.lines) t.lines c (λ j. ap (λ k. get_or t.lines k no_line) (sym (zero_plus j))) (omega arith) tt e in
        record {
          inside = found.leaves.inside;
          negative = found.leaves.negative;
          least = λ i p n. subst (λ v. v ≤ (get_or t.lines i no_line).variable) found.leaves.variable (found.least i p n);
        }

-- ---- columns
record NotWorse (a b : Choice) : Type 0 where
  at_most : AtMost a b
  ties : AtMost b a → a.variable ≤ b.variable

not_worse_trans : (a b c : Choice) → pos 0 <ℤ a.factor → pos 0 <ℤ b.factor → pos 0 <ℤ c.factor → NotWorse a b → NotWorse b c → NotWorse a c
not_worse_trans a b c p q r x y = record {
  at_most = at_most_trans a b c p q r x.at_most y.at_most;
  ties = λ h.
      let k = x.ties (at_most_trans b c a q r p y.at_most h) in
      let l = y.ties (at_most_trans c a b r p q h x.at_most) in
      omega arith;
}

beats_by : (next best : Choice) (x y z : Bool) → int_lt (next.cost *ℤ best.factor) (best.cost *ℤ next.factor) ≡ x
    → int_le (next.cost *ℤ best.factor) (best.cost *ℤ next.factor) ≡ y
    → nat_lt next.variable best.variable ≡ z → (x || (y && z)) ≡ true → NotWorse next best
beats_by next best true y z e f g h =
    let k = lt_of (next.cost *ℤ best.factor) (best.cost *ℤ next.factor) e in
    record { at_most = omega (arith, sums); ties = λ l. absurd (omega (arith, sums)) }
beats_by next best false true true e f g h =
    let k = below_of next.variable best.variable g in
    record { at_most = le_of (next.cost *ℤ best.factor) (best.cost *ℤ next.factor) f; ties = λ l. omega arith }
beats_by next best false true false e f g h = absurd cc
beats_by next best false false z e f g h = absurd cc

beaten_by : (next best : Choice) (x y z : Bool) → int_lt (next.cost *ℤ best.factor) (best.cost *ℤ next.factor) ≡ x
    → int_le (next.cost *ℤ best.factor) (best.cost *ℤ next.factor) ≡ y
    → nat_lt next.variable best.variable ≡ z → (x || (y && z)) ≡ false → NotWorse best next
beaten_by next best true y z e f g h = absurd cc
beaten_by next best false true true e f g h = absurd cc
beaten_by next best false true false e f g h =
    record { at_most = not_lt_of (next.cost *ℤ best.factor) (best.cost *ℤ next.factor) e; ties = λ l. not_below_of next.variable best.variable g }
beaten_by next best false false z e f g h =
    let k = not_le_of (next.cost *ℤ best.factor) (best.cost *ℤ next.factor) f in
    record { at_most = not_lt_of (next.cost *ℤ best.factor) (best.cost *ℤ next.factor) e; ties = λ l. absurd (omega (arith, sums)) }

beats_not_worse : (next best : Choice) → beats next best ≡ true → NotWorse next best
beats_not_worse next best = beats_by next best (int_lt (next.cost *ℤ best.factor) (best.cost *ℤ next.factor)) (int_le (next.cost *ℤ best.factor) (best.cost *ℤ next.factor)) (nat_lt next.variable best.variable) refl refl refl

beaten_not_worse : (next best : Choice) → beats next best ≡ false → NotWorse best next
beaten_not_worse next best = beaten_by next best (int_lt (next.cost *ℤ best.factor) (best.cost *ℤ next.factor)) (int_le (next.cost *ℤ best.factor) (best.cost *ℤ next.factor)) (nat_lt next.variable best.variable) refl refl refl

same_not_worse : (c : Choice) → NotWorse c c
same_not_worse c = record { at_most = omega (arith, sums); ties = λ h. omega arith }

module _ (columns : List ℕ) (costs factors : List ℤ) where
  abbrev column : ℕ → Choice
  column j = record { place = j; variable = get_or columns j 0; cost = get_or costs j (pos 0); factor = get_or factors j (pos 0) }

  record Enters (below : ℕ) (c : Choice) : Type 0 where
    inside : c.place < below
    is : c ≡ column c.place
    positive : pos 0 <ℤ c.factor

  enters_later : (k m : ℕ) (c : Choice) → k ≤ m → Enters k c → Enters m c
  enters_later k m c h g = record { inside = omega (arith, g.inside); is = g.is; positive = g.positive }

  record EntersStep (best : Option Choice) (next : Choice) (now : Option Choice) : Type 0 where
    kept : IfSome now (Enters (suc next.place))
    least : (c : Choice) → pos 0 <ℤ c.factor → IfSome now (NotWorse c) → (pos 0 <ℤ next.factor → NotWorse c next) × IfSome best (NotWorse c)

  enters_none : (next : Choice) → (pos 0 <ℤ next.factor → Enters (suc next.place) next) → (b : Bool) → int_lt (pos 0) next.factor ≡ b
      → EntersStep None next (cond b (Some next) None)
  enters_none next own true e = record { kept = own (lt_of (pos 0) next.factor e); least = λ c q h. (λ p. h, tt) }
  enters_none next own false e = record { kept = tt; least = λ c q h. (λ p. (let k = not_lt_of (pos 0) next.factor e in absurd (omega (arith, sums))), tt) }

  enters_some : (next best : Choice) → (pos 0 <ℤ next.factor → Enters (suc next.place) next) → (x y : Bool) → int_lt (pos 0) next.factor ≡ x
      → beats next best ≡ y → Enters next.place best
      → EntersStep (Some best) next (cond (x && y) (Some next) (Some best))
  enters_some next best own true true e f g = record {
    kept = own (lt_of (pos 0) next.factor e);
    least = λ c q h. (λ p. h, not_worse_trans c next best q (lt_of (pos 0) next.factor e) g.positive h (beats_not_worse next best f));
  }
  enters_some next best own true false e f g = record {
    kept = enters_later next.place (suc next.place) best (omega arith) g;
    least = λ c q h. (λ p. not_worse_trans c best next q g.positive p h (beaten_not_worse next best f), h);
  }
  enters_some next best own false y e f g = record {
    kept = enters_later next.place (suc next.place) best (omega arith) g;
    least = λ c q h. (λ p. (let k = not_lt_of (pos 0) next.factor e in absurd (omega (arith, sums))), h);
  }

  enters_step : (next : Choice) → (pos 0 <ℤ next.factor → Enters (suc next.place) next) → (best : Option Choice) → IfSome best (Enters next.place)
      → EntersStep best next (better best next)
  enters_step next own None h = enters_none next own (int_lt (pos 0) next.factor) refl
  enters_step next own (Some best) h = enters_some next best own (int_lt (pos 0) next.factor) (beats next best) refl refl h

  record EntersFound (below : ℕ) (best : Option Choice) (place n : ℕ) (c : Choice) : Type 0 where
    enters : Enters below c
    least : (j : ℕ) → place ≤ j → j < place + n → pos 0 <ℤ get_or factors j (pos 0) → NotWorse c (column j)
    at_most : IfSome best (NotWorse c)

  either_column : (c : Choice) (place n : ℕ) → (pos 0 <ℤ get_or factors place (pos 0) → NotWorse c (column place))
      → ((j : ℕ) → suc place ≤ j → j < suc place + n → pos 0 <ℤ get_or factors j (pos 0) → NotWorse c (column j))
      → (j : ℕ) → place ≤ j → j < place + suc n → pos 0 <ℤ get_or factors j (pos 0) → NotWorse c (column j)
  either_column c place n h t j p q f = by (which place j p)
    where
      which : (a b : ℕ) → a ≤ b → (a ≡ b) ⊎ (suc a ≤ b)
      which a b k = grind arith

      by : (place ≡ j) ⊎ (suc place ≤ j) → NotWorse c (column j)
      by (inl e) = subst (λ k. NotWorse c (column k)) e (h (subst (λ k. pos 0 <ℤ get_or factors k (pos 0)) (sym e) f))
      by (inr k) = t j k (omega arith) f

  enters_found : (best : Option Choice) (place below : ℕ) (vs : List ℕ) (cs fs : List ℤ) (c : Choice)
      → ((j : ℕ) → get_or vs j 0 ≡ get_or columns (place + j) 0) → ((j : ℕ) → get_or cs j (pos 0) ≡ get_or costs (place + j) (pos 0))
      → ((j : ℕ) → get_or fs j (pos 0) ≡ get_or factors (place + j) (pos 0))
      → place + length vs ≤ below → length cs ≡ length vs → length fs ≡ length vs
      → IfSome best (Enters place) → entering_from best place vs cs fs ≡ Some c → EntersFound below best place (length vs) c
  enters_found None place below [] cs fs c u a b k p q h e = absurd cc
  enters_found (Some x) place below [] [] [] c u a b k p q h e =
      let same : x ≡ c = cc in
      record {
        enters = subst (Enters below) same (enters_later place below x (omega arith) h);
        least = λ j l m f. absurd (omega arith);
        at_most = subst (λ y. NotWorse y x) same (same_not_worse x);
      }
  enters_found (Some x) place below [] (y ∷ cs) fs c u a b k p q h e = absurd (omega (arith, p))
  enters_found (Some x) place below [] [] (f ∷ fs) c u a b k p q h e = absurd (omega (arith, q))
  enters_found best place below (v ∷ vs) [] fs c u a b k p q h e = absurd (omega (arith, p))
  enters_found best place below (v ∷ vs) (y ∷ cs) [] c u a b k p q h e = absurd (omega (arith, q))
  enters_found best place below (v ∷ vs) (y ∷ cs) (f ∷ fs) c u a b k p q h e =
      let here : place + 0 ≡ place = omega arith in
      let shift : (j : ℕ) → place + suc j ≡ suc place + j = λ j. omega arith in
      let next : Choice = record { place = place; variable = v; cost = y; factor = f } in
      let vi = u 0 ∙ ap (λ j. get_or columns j 0) here in
      let ci = a 0 ∙ ap (λ j. get_or costs j (pos 0)) here in
      let fi = b 0 ∙ ap (λ j. get_or factors j (pos 0)) here in
      let is : next ≡ column place = λ i. record { place = place; variable = vi i; cost = ci i; factor = fi i } in
      let own : pos 0 <ℤ f → Enters (suc place) next = λ t. record { inside = omega arith; is = is; positive = t } in
      let s = enters_step next own best h in
      let found = enters_found (better best next) (suc place) below vs cs fs c
      (λ j. u (suc j) ∙ ap (λ i. get_or columns i 0) (shift j)) (λ j. a (suc j) ∙ ap (λ i. get_or costs i (pos 0)) (shift j)) (λ j. b (suc j) ∙ ap (λ i. get_or factors i (pos 0)) (shift j))
      (omega (arith, k)) (omega (arith, p)) (omega (arith, q)) s.kept e in
      let l = s.least c found.enters.positive found.at_most in
      record {
        enters = found.enters;
        least = either_column c place (length vs) (λ t. subst (NotWorse c) is (l.0 (subst (λ x. pos 0 <ℤ x) (sym fi) t))) found.least;
        at_most = l.1;
      }

not_positive_at : (fs : List ℤ) → NotPositive fs → (j : ℕ) → get_or fs j (pos 0) ≤ℤ pos 0
not_positive_at [] h j = omega (arith, ints)
not_positive_at (f ∷ fs) h zero = h.0
not_positive_at (f ∷ fs) h (suc j) = not_positive_at fs h.1 j

pub enters_rightly : (t : Tableau) (line : Equation) → EntersRightly t line
enters_rightly t line p q = by (entering t line) refl
  where
    by : (o : Option Choice) → entering t line ≡ o → MatchOption o (NoEntering t line) (λ c. IsEntering t line c.place)
    by None e = λ j k. not_positive_at line.factors (none_enters 0 t.columns t.cost.factors line.factors p q e) j
    by (Some c) e =
        let zero_plus : (j : ℕ) → 0 + j ≡ j = λ j. omega arith in
        let found = enters_found t.columns t.cost.factors line.factors None 0 (length t.columns) t.columns t.cost.factors line.factors c
        (λ j. ap (λ k. get_or t.columns k 0) (sym (zero_plus j))) (λ j. ap (λ k. get_or t.cost.factors k (pos 0)) (sym (zero_plus j))) (λ j. ap (λ k. get_or line.factors k (pos 0)) (sym (zero_plus j)))
        (omega arith) p q tt e in
        let is = found.enters.is in
        record {
          inside = found.enters.inside;
          positive = subst (λ x. pos 0 <ℤ x.factor) is found.enters.positive;
          least = λ j k f. subst (λ x. AtMost x (column t.columns t.cost.factors line.factors j)) is (found.least j (omega arith) (omega arith) f).at_most;
          ties = λ j k f h. subst (λ x. x.variable ≤ get_or t.columns j 0) is
              ((found.least j (omega arith) (omega arith) f).ties (subst (λ x. AtMost (column t.columns t.cost.factors line.factors j) x) (sym is) h));
        }
