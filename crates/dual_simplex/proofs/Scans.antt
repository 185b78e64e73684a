-- Scans of the lines and of the columns, one step each.
use Rattle.std.proofs.Common.{◌≡◌, ℕ, suc, ◌+◌, ◌<◌, ℤ, pos, List, [], ◌∷◌, ◌++◌, map, length, drop, get_or, Bool, true, false, cond, ◌&&◌, nat_eq, arith, ap, sym, ◌∙◌, refl, subst, add-one, None, Some}
use Rattle.std.proofs.lemmas.Int.{ints}
use Rattle.std.specs.Prelude.{nat_abs, Option, IfSome, ◌<ℤ◌, int_lt, All}
use Rattle.std.specs.List.{range_with_len}
use Rattle.std.proofs.lemmas.List.FromFn.{map-range_with_len_more}
use Rattle.std.proofs.lemmas.List.Elements.{All-push}
use Rattle.dual_simplex.specs.declared.tableau.Choice.{Choice}
use Rattle.dual_simplex.specs.declared.answer.Fraction.{Fraction}
use Rattle.dual_simplex.specs.declared.line.Line.{Line}
use Rattle.dual_simplex.specs.Scans.{beats, better, entering_from}
use Rattle.dual_simplex.specs.Lines.{plain_line, IsSoundLine}
use Rattle.dual_simplex.specs.Answer.{price_of, value_of}
use Rattle.dual_simplex.proofs.Loops.{drop_next}

-- ---- columns
pub entering_turn : (best next : Option Choice) (vs : List ℕ) (cs fs : List ℤ) (i : ℕ) (all : Option Choice)
    → i < length vs → i < length cs → i < length fs
    → next ≡ better best (record { place = i; variable = get_or vs i 0; cost = get_or cs i (pos 0); factor = get_or fs i (pos 0) })
    → entering_from best i (drop i vs) (drop i cs) (drop i fs) ≡ all
    → entering_from next (i + 1) (drop (i + 1) vs) (drop (i + 1) cs) (drop (i + 1) fs) ≡ all
entering_turn best next vs cs fs i all p q r e before =
    ap (λ b. entering_from b (i + 1) (drop (i + 1) vs) (drop (i + 1) cs) (drop (i + 1) fs)) e
    ∙ ap (λ k. entering_from (better best (record { place = i; variable = get_or vs i 0; cost = get_or cs i (pos 0); factor = get_or fs i (pos 0) })) k (drop (i + 1) vs) (drop (i + 1) cs) (drop (i + 1) fs)) (add-one i)
    ∙ sym (ap (λ xs. entering_from best i xs (drop i cs) (drop i fs)) (drop_next vs i 0 p)
    ∙ ap (λ xs. entering_from best i (get_or vs i 0 ∷ drop (i + 1) vs) xs (drop i fs)) (drop_next cs i (pos 0) q)
    ∙ ap (λ xs. entering_from best i (get_or vs i 0 ∷ drop (i + 1) vs) (get_or cs i (pos 0) ∷ drop (i + 1) cs) xs) (drop_next fs i (pos 0) r))
    ∙ before

abbrev pub InsideBelow : List ℤ → ℕ → Choice → Type 0
InsideBelow fs k c = (c.place < k) × (pos 0 <ℤ get_or fs c.place (pos 0))

and_left : (a b : Bool) → (a && b) ≡ true → a ≡ true
and_left true b p = refl
and_left false b p = p

chosen : (b : Bool) (fs : List ℤ) (k : ℕ) (next : Choice) (old : Option Choice) → (b ≡ true → InsideBelow fs k next)
    → IfSome old (InsideBelow fs k) → IfSome (cond b (Some next) old) (InsideBelow fs k)
chosen true fs k next old new kept = new refl
chosen false fs k next old new kept = kept

later : (best : Option Choice) (fs : List ℤ) (k : ℕ) → IfSome best (InsideBelow fs k) → IfSome best (InsideBelow fs (k + 1))
later None fs k h = tt
later (Some c) fs k h = (omega (arith, h.0), h.1)

above_zero : (x : ℤ) → int_lt (pos 0) x ≡ true → pos 0 <ℤ x
above_zero x e = omega (arith, ints)

better_inside : (best : Option Choice) (next : Choice) (fs : List ℤ) → next.factor ≡ get_or fs next.place (pos 0)
    → IfSome best (InsideBelow fs next.place) → IfSome (better best next) (InsideBelow fs (next.place + 1))
better_inside None next fs e h =
    chosen (int_lt (pos 0) next.factor) fs (next.place + 1) next None
    (λ t. (omega arith, above_zero (get_or fs next.place (pos 0)) (ap (int_lt (pos 0)) (sym e) ∙ t))) tt
better_inside (Some best) next fs e h =
    chosen (int_lt (pos 0) next.factor && beats next best) fs (next.place + 1) next (Some best)
    (λ t. (omega arith, above_zero (get_or fs next.place (pos 0)) (ap (int_lt (pos 0)) (sym e) ∙ and_left (int_lt (pos 0) next.factor) (beats next best) t)))
    (later (Some best) fs next.place h)

pub inside_turn : (best next : Option Choice) (vs : List ℕ) (cs fs : List ℤ) (i : ℕ)
    → next ≡ better best (record { place = i; variable = get_or vs i 0; cost = get_or cs i (pos 0); factor = get_or fs i (pos 0) })
    → IfSome best (InsideBelow fs i) → IfSome next (InsideBelow fs (i + 1))
inside_turn best next vs cs fs i e h =
    subst (λ o. IfSome o (InsideBelow fs (i + 1))) (sym e)
    (better_inside best (record { place = i; variable = get_or vs i 0; cost = get_or cs i (pos 0); factor = get_or fs i (pos 0) }) fs refl h)

-- ---- prices and values
other_test : (w v : ℕ) → (w ≡ v → ⊥) → nat_eq w v ≡ false
other_test w v h = grind arith

pub price_turn : (v : ℕ) (divisor : ℤ) (ws : List ℕ) (cs : List ℤ) (i : ℕ) (all : Fraction) → i < length ws → i < length cs
    → (get_or ws i 0 ≡ v → ⊥) → price_of v divisor (drop i ws) (drop i cs) ≡ all
    → price_of v divisor (drop (i + 1) ws) (drop (i + 1) cs) ≡ all
price_turn v divisor ws cs i all p q other before =
    sym (ap (λ xs. price_of v divisor xs (drop i cs)) (drop_next ws i 0 p)
    ∙ ap (λ xs. price_of v divisor (get_or ws i 0 ∷ drop (i + 1) ws) xs) (drop_next cs i (pos 0) q)
    ∙ ap (λ b. cond b (record { above = nat_abs (get_or cs i (pos 0)); below = nat_abs divisor }) (price_of v divisor (drop (i + 1) ws) (drop (i + 1) cs))) (other_test (get_or ws i 0) v other))
    ∙ before

pub made_turn : (f : ℕ → Fraction) (from n j : ℕ) (made next : List Fraction) (x : Fraction) → from + n ≡ j → next ≡ made ++ x ∷ [] → x ≡ f j
    → made ≡ map f (range_with_len from n) → next ≡ map f (range_with_len from (n + 1))
made_turn f from n j made next x s e q before =
    e ∙ ap (λ xs. xs ++ x ∷ []) before ∙ ap (λ y. map f (range_with_len from n) ++ y ∷ []) q ∙ sym (map-range_with_len_more f from n j s)

pub positive_turn : (made next : List Fraction) (x : Fraction) → next ≡ made ++ x ∷ [] → 0 < x.below
    → All (λ f. 0 < f.below) made → All (λ f. 0 < f.below) next
positive_turn made next x e p h = subst (All (λ f. 0 < f.below)) (sym e) (All-push (λ f. 0 < f.below) made x h p)

abs_positive : (x : ℤ) → pos 0 <ℤ x → 0 < nat_abs x
abs_positive x h = omega (arith, ints)

fraction_by : (b : Bool) (x y : Fraction) → 0 < x.below → 0 < y.below → 0 < (cond b x y).below
fraction_by true x y p q = p
fraction_by false x y p q = q

pub value_positive : (v width : ℕ) (lines : List Line) → All (λ line. IsSoundLine width (plain_line line)) lines → 0 < (value_of v (map plain_line lines)).below
value_positive v width [] h = omega arith
value_positive v width (l ∷ ls) h =
    fraction_by (nat_eq l.variable v) (record { above = nat_abs l.constant; below = nat_abs l.divisor }) (value_of v (map plain_line ls))
    (abs_positive l.divisor (h 0 l (omega arith)).positive) (value_positive v width ls (λ k d p. h (suc k) d (omega arith)))

pub price_positive : (v : ℕ) (divisor : ℤ) (ws : List ℕ) (cs : List ℤ) → pos 0 <ℤ divisor → 0 < (price_of v divisor ws cs).below
price_positive v divisor [] cs h = omega arith
price_positive v divisor (w ∷ ws) [] h = omega arith
price_positive v divisor (w ∷ ws) (c ∷ cs) h =
    fraction_by (nat_eq w v) (record { above = nat_abs c; below = nat_abs divisor }) (price_of v divisor ws cs) (abs_positive divisor h) (price_positive v divisor ws cs h)

-- ---- numbers in order
pub range_turn : (n : ℕ) (made next : List ℕ) → next ≡ made ++ n ∷ [] → made ≡ range_with_len 0 n → next ≡ range_with_len 0 (n + 1)
range_turn n made next e before =
    e ∙ ap (λ xs. xs ++ n ∷ []) before ∙ ap (λ xs. xs ++ n ∷ []) (sym (same (range_with_len 0 n))) ∙ sym (map-range_with_len_more (λ x. x) 0 n n (omega arith)) ∙ same (range_with_len 0 (n + 1))
  where
    same : (xs : List ℕ) → map (λ x. x) xs ≡ xs
    same [] = refl
    same (x ∷ xs) = ap (λ ys. x ∷ ys) (same xs)
