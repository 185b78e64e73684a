-- Each variable has one place: a line or a column.
use Rattle.std.proofs.Common.{◌≡◌, ℕ, suc, zero, ◌+◌, ◌*◌, ◌<◌, ◌≤◌, List, [], ◌∷◌, map, length, set, get_or, Bool, true, false, cond, nat_eq, arith, ap, ◌∙◌, refl, subst, unsigned_abs, ◌⊎◌, inl, inr}
use Rattle.dual_simplex.specs.Equation.{Equation, factor_at, solved_for, put_in, lowest, combined, without}
use Rattle.dual_simplex.specs.Tableau.{Tableau, renewed, pivoted, no_line}
use Rattle.std.proofs.lemmas.List.{get_or-map, length-map}

-- 1 where two numbers are the same
abbrev pub one_if : ℕ → ℕ → ℕ
one_if x v = cond (nat_eq x v) 1 0

-- how often a number is in a list
abbrev pub uses : ℕ → List ℕ → ℕ
uses v [] = 0
uses v (x ∷ xs) = one_if x v + uses v xs

abbrev pub variables : List Equation → List ℕ
variables es = map (λ e. e.variable) es

-- how many places a variable has in a tableau
abbrev pub places : ℕ → Tableau → ℕ
places v t = one_if t.cost.variable v + (uses v (variables t.lines) + uses v t.columns)

pub one_if-same : (x : ℕ) → one_if x x ≡ 1
one_if-same x = grind arith

pub one_if-other : (x y : ℕ) → (x ≡ y → ⊥) → one_if x y ≡ 0
one_if-other x y h = grind arith

pub uses-set : (v : ℕ) (xs : List ℕ) (i y : ℕ) → i < length xs → uses v (set xs i y) + one_if (get_or xs i 0) v ≡ uses v xs + one_if y v
uses-set v [] i y p = absurd (omega arith)
uses-set v (x ∷ xs) zero y p = omega arith
uses-set v (x ∷ xs) (suc i) y p = let ih = uses-set v xs i y (omega arith) in omega (arith, ih)

pub uses_at : (xs : List ℕ) (i : ℕ) → i < length xs → 1 ≤ uses (get_or xs i 0) xs
uses_at [] i p = absurd (omega arith)
uses_at (x ∷ xs) zero p = let k = one_if-same x in omega (arith, k)
uses_at (x ∷ xs) (suc i) p = let ih = uses_at xs i (omega arith) in omega (arith, ih)

pub put_in-variable : (place : ℕ) (s e : Equation) → (put_in place s e).variable ≡ e.variable
put_in-variable place s e = by (nat_eq (unsigned_abs (factor_at place e)) 0)
  where
    by : (b : Bool) → (cond b e (lowest (combined (factor_at place e) s (without place e)))).variable ≡ e.variable
    by true = refl
    by false = refl

renewed-variable : (leaver place : ℕ) (s e : Equation) → (renewed leaver place s e).variable ≡ cond (nat_eq e.variable leaver) s.variable e.variable
renewed-variable leaver place s e = by (nat_eq e.variable leaver)
  where
    by : (b : Bool) → (cond b s (put_in place s e)).variable ≡ cond b s.variable e.variable
    by true = refl
    by false = put_in-variable place s e

equal_or_not : (a b : ℕ) → (a ≡ b) ⊎ (a ≡ b → ⊥)
equal_or_not a b = grind arith

-- a leaving line gives its name up for the entering variable's
abbrev Renames : ℕ → ℕ → ℕ → Equation → List Equation → Type 0
Renames v leaver place s es =
    uses v (variables (map (renewed leaver place s) es)) + uses leaver (variables es) * one_if leaver v ≡ uses v (variables es) + uses leaver (variables es) * one_if s.variable v

renames_by : (v leaver place : ℕ) (s e : Equation) (es : List Equation) → (e.variable ≡ leaver) ⊎ (e.variable ≡ leaver → ⊥)
    → Renames v leaver place s es → Renames v leaver place s (e ∷ es)
renames_by v leaver place s e es (inl same) ih =
    let t : nat_eq e.variable leaver ≡ true = grind arith in
    let n = renewed-variable leaver place s e ∙ ap (λ b. cond b s.variable e.variable) t in
    let a = ap (λ x. one_if x v) n in
    let b = ap (λ x. one_if x leaver) same ∙ one_if-same leaver in
    let c = ap (λ x. one_if x v) same in
    let d = ap (λ k. (k + uses leaver (variables es)) * one_if leaver v) b in
    let f = ap (λ k. (k + uses leaver (variables es)) * one_if s.variable v) b in
    omega (arith, ih, a, c, d, f)
renames_by v leaver place s e es (inr other) ih =
    let t : nat_eq e.variable leaver ≡ false = grind arith in
    let n = renewed-variable leaver place s e ∙ ap (λ b. cond b s.variable e.variable) t in
    let a = ap (λ x. one_if x v) n in
    let b = one_if-other e.variable leaver other in
    let d = ap (λ k. (k + uses leaver (variables es)) * one_if leaver v) b in
    let f = ap (λ k. (k + uses leaver (variables es)) * one_if s.variable v) b in
    omega (arith, ih, a, d, f)

renames : (v leaver place : ℕ) (s : Equation) (es : List Equation) → Renames v leaver place s es
renames v leaver place s [] = omega arith
renames v leaver place s (e ∷ es) = renames_by v leaver place s e es (equal_or_not e.variable leaver) (renames v leaver place s es)

-- a line that has the variable of the line at a place, where that variable is there once, is that line
abbrev pub Only : ℕ → Equation → List Equation → Type 0
Only leaver line [] = Unit {0}
Only leaver line (e ∷ es) = (e.variable ≡ leaver → e ≡ line) × Only leaver line es

none_other : (leaver : ℕ) (line : Equation) (es : List Equation) → uses leaver (variables es) ≡ 0 → Only leaver line es
none_other leaver line [] h = tt
none_other leaver line (e ∷ es) h =
    (λ same. let k = ap (λ x. one_if x leaver) same ∙ one_if-same leaver in absurd (omega (arith, h, k)), none_other leaver line es (omega (arith, h)))

pub only_line : (es : List Equation) (i : ℕ) → i < length es → uses (get_or es i no_line).variable (variables es) ≤ 1
    → Only (get_or es i no_line).variable (get_or es i no_line) es
only_line [] i p h = absurd (omega arith)
only_line (e ∷ es) zero p h =
    (λ same. refl, none_other e.variable e es (let k = one_if-same e.variable in omega (arith, h, k)))
only_line (e ∷ es) (suc i) p h =
    let line = get_or es i no_line in
    let there : 1 ≤ uses line.variable (variables es) =
    subst (λ x. 1 ≤ uses x (variables es)) (get_or-map (λ x. x.variable) es i no_line 0 (omega arith)) (uses_at (variables es) i (rw (length-map es (λ x. x.variable)) (omega arith))) in
    (λ same. let k = ap (λ x. one_if x line.variable) same ∙ one_if-same line.variable in absurd (omega (arith, h, k)), only_line es i (omega arith) (omega (arith, h)))

-- a pivot keeps how many places each variable has
pub places-pivoted : (t : Tableau) (i place v : ℕ) → i < length t.lines → place < length t.columns
    → uses (get_or t.lines i no_line).variable (variables t.lines) ≤ 1
    → places v (pivoted t (get_or t.lines i no_line) place) ≡ places v t
places-pivoted t i place v p q h =
    let line = get_or t.lines i no_line in
    let entering = get_or t.columns place 0 in
    let there : 1 ≤ uses line.variable (variables t.lines) =
    subst (λ x. 1 ≤ uses x (variables t.lines)) (get_or-map (λ x. x.variable) t.lines i no_line 0 p) (uses_at (variables t.lines) i (rw (length-map t.lines (λ x. x.variable)) p)) in
    let once : uses line.variable (variables t.lines) ≡ 1 = omega (arith, h, there) in
    let s = solved_for place entering line in
    let a = renames v line.variable place s t.lines in
    let a1 = ap (λ k. k * one_if line.variable v) once in
    let a2 = ap (λ k. k * one_if entering v) once in
    let b = uses-set v t.columns place line.variable q in
    let c = ap (λ x. one_if x v) (put_in-variable place s t.cost) in
    omega (arith, a, a1, a2, b, c)
