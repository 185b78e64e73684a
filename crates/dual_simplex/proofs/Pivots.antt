-- What a tableau means at a point: a pivot keeps it.
use Rattle.std.proofs.Common.{◌≡◌, ℕ, suc, zero, ◌<◌, ℤ, pos, List, [], ◌∷◌, map, length, set, get_or, Bool, true, false, cond, nat_eq, arith, ap, sym, ◌∙◌, refl, subst}
use Rattle.std.specs.Prelude.{neg_ℤ, ◌<ℤ◌}
use Rattle.std.proofs.lemmas.List.{length-map, length-set, get_or-map}
use Rattle.dual_simplex.specs.Equation.{Equation, factor_at, solved_for, put_in}
use Rattle.dual_simplex.specs.Tableau.{Tableau, renewed, pivoted, no_line}
use Rattle.dual_simplex.proofs.Meaning.{Holds, solved_holds, solved_held, put_in_holds, put_in_held}
use Rattle.dual_simplex.proofs.Names.{Only, put_in-variable}

-- all equations hold, where each variable has a value
abbrev pub AllHold : (ℕ → ℤ) → List ℤ → ℤ → List Equation → Type 0
AllHold val xs unit [] = Unit {0}
AllHold val xs unit (e ∷ es) = Holds e (val e.variable) xs unit × AllHold val xs unit es

pub record Means (t : Tableau) (val : ℕ → ℤ) (unit : ℤ) : Type 0 where
  pub lines : AllHold val (map val t.columns) unit t.lines
  pub cost : Holds t.cost (val t.cost.variable) (map val t.columns) unit

-- each line has as many factors as there are columns
abbrev pub AllWide : ℕ → List Equation → Type 0
AllWide n [] = Unit {0}
AllWide n (e ∷ es) = (length e.factors ≡ n) × AllWide n es

pub hold_at : (val : ℕ → ℤ) (xs : List ℤ) (unit : ℤ) (es : List Equation) (i : ℕ) → i < length es → AllHold val xs unit es
    → Holds (get_or es i no_line) (val (get_or es i no_line).variable) xs unit
hold_at val xs unit [] i p h = absurd (omega arith)
hold_at val xs unit (e ∷ es) zero p h = h.0
hold_at val xs unit (e ∷ es) (suc i) p h = hold_at val xs unit es i (omega arith) h.1

pub wide_at : (n : ℕ) (es : List Equation) (i : ℕ) → i < length es → AllWide n es → length (get_or es i no_line).factors ≡ n
wide_at n [] i p h = absurd (omega arith)
wide_at n (e ∷ es) zero p h = h.0
wide_at n (e ∷ es) (suc i) p h = wide_at n es i (omega arith) h.1

map-set : (val : ℕ → ℤ) (xs : List ℕ) (i y : ℕ) → map val (set xs i y) ≡ set (map val xs) i (val y)
map-set val [] i y = refl
map-set val (x ∷ xs) zero y = refl
map-set val (x ∷ xs) (suc i) y = ap (λ ys. val x ∷ ys) (map-set val xs i y)

module _ (val : ℕ → ℤ) (unit : ℤ) (columns : List ℕ) (place : ℕ) (inside : place < length columns) (line : Equation)
    (wide : length line.factors ≡ length columns) (positive : pos 0 <ℤ factor_at place line) where
  entering : ℕ
  entering = get_or columns place 0

  abbrev xs : List ℤ
  xs = map val columns

  abbrev ys : List ℤ
  ys = set (map val columns) place (val line.variable)

  abbrev solved : Equation
  solved = solved_for place (get_or columns place 0) line

  place_in : place < length (map val columns)
  place_in = rw (length-map columns val) inside

  entering_value : get_or (map val columns) place (pos 0) ≡ val (get_or columns place 0)
  entering_value = get_or-map val columns place 0 (pos 0) inside

  width : (e : Equation) → length e.factors ≡ length columns → length e.factors ≡ length (map val columns)
  width e h = h ∙ sym (length-map columns val)

  solved_width : length (solved_for place (get_or columns place 0) line).factors ≡ length (map val columns)
  solved_width = length-set (map neg_ℤ line.factors) place line.divisor ∙ length-map line.factors neg_ℤ ∙ width line wide

  pub line_solved : Holds line (val line.variable) (map val columns) unit
      → Holds (solved_for place (get_or columns place 0) line) (get_or (map val columns) place (pos 0)) (set (map val columns) place (val line.variable)) unit
  line_solved h = solved_holds place (map val columns) unit (val line.variable) place_in (get_or columns place 0) line (width line wide) h

  pub line_held : Holds (solved_for place (get_or columns place 0) line) (get_or (map val columns) place (pos 0)) (set (map val columns) place (val line.variable)) unit
      → Holds line (val line.variable) (map val columns) unit
  line_held h = solved_held place (map val columns) unit (val line.variable) place_in (get_or columns place 0) line (width line wide) h

  module _ (s : Holds (solved_for place (get_or columns place 0) line) (get_or (map val columns) place (pos 0)) (set (map val columns) place (val line.variable)) unit) where
    pub other_holds : (e : Equation) → length e.factors ≡ length columns → Holds e (val e.variable) (map val columns) unit
        → Holds (put_in place (solved_for place (get_or columns place 0) line) e) (val e.variable) (set (map val columns) place (val line.variable)) unit
    other_holds e own h =
        put_in_holds place (map val columns) unit (val line.variable) place_in (solved_for place (get_or columns place 0) line) solved_width positive s e (width e own) (val e.variable) h

    pub other_held : (e : Equation) → length e.factors ≡ length columns
        → Holds (put_in place (solved_for place (get_or columns place 0) line) e) (val e.variable) (set (map val columns) place (val line.variable)) unit
        → Holds e (val e.variable) (map val columns) unit
    other_held e own h =
        put_in_held place (map val columns) unit (val line.variable) place_in (solved_for place (get_or columns place 0) line) solved_width positive s e (width e own) (val e.variable) h

    -- a renewed line
    renewed_by : (b : Bool) (e : Equation) → length e.factors ≡ length columns → Holds e (val e.variable) (map val columns) unit
        → Holds (cond b (solved_for place (get_or columns place 0) line) (put_in place (solved_for place (get_or columns place 0) line) e))
        (val (cond b (solved_for place (get_or columns place 0) line) (put_in place (solved_for place (get_or columns place 0) line) e)).variable)
        (set (map val columns) place (val line.variable)) unit
    renewed_by true e own h = subst (λ v. Holds (solved_for place (get_or columns place 0) line) v (set (map val columns) place (val line.variable)) unit) entering_value s
    renewed_by false e own h =
        subst (λ v. Holds (put_in place (solved_for place (get_or columns place 0) line) e) (val v) (set (map val columns) place (val line.variable)) unit)
        (sym (put_in-variable place (solved_for place (get_or columns place 0) line) e)) (other_holds e own h)

    pub renewed_hold : (es : List Equation) → AllWide (length columns) es → AllHold val (map val columns) unit es
        → AllHold val (set (map val columns) place (val line.variable)) unit (map (renewed line.variable place (solved_for place (get_or columns place 0) line)) es)
    renewed_hold [] w h = tt
    renewed_hold (e ∷ es) w h = (renewed_by (nat_eq e.variable line.variable) e w.0 h.0, renewed_hold es w.1 h.1)

    held_by : (b : Bool) (e : Equation) → nat_eq e.variable line.variable ≡ b → (e.variable ≡ line.variable → e ≡ line) → length e.factors ≡ length columns
        → Holds (cond b (solved_for place (get_or columns place 0) line) (put_in place (solved_for place (get_or columns place 0) line) e))
        (val (cond b (solved_for place (get_or columns place 0) line) (put_in place (solved_for place (get_or columns place 0) line) e)).variable)
        (set (map val columns) place (val line.variable)) unit
        → Holds e (val e.variable) (map val columns) unit
    held_by true e z only own h =
        let same : e.variable ≡ line.variable = grind arith in
        subst (λ x. Holds x (val x.variable) (map val columns) unit) (sym (only same)) (line_held s)
    held_by false e z only own h =
        other_held e own (subst (λ v. Holds (put_in place (solved_for place (get_or columns place 0) line) e) (val v) (set (map val columns) place (val line.variable)) unit)
        (put_in-variable place (solved_for place (get_or columns place 0) line) e) h)

    pub renewed_held : (es : List Equation) → Only line.variable line es → AllWide (length columns) es
        → AllHold val (set (map val columns) place (val line.variable)) unit (map (renewed line.variable place (solved_for place (get_or columns place 0) line)) es)
        → AllHold val (map val columns) unit es
    renewed_held [] o w h = tt
    renewed_held (e ∷ es) o w h = (held_by (nat_eq e.variable line.variable) e refl o.0 w.0 h.0, renewed_held es o.1 w.1 h.1)

  -- the leaving line's own equation after the pivot
  pub solved_there : (es : List Equation) (i : ℕ) → i < length es → get_or es i no_line ≡ line
      → AllHold val (set (map val columns) place (val line.variable)) unit (map (renewed line.variable place (solved_for place (get_or columns place 0) line)) es)
      → Holds (solved_for place (get_or columns place 0) line) (get_or (map val columns) place (pos 0)) (set (map val columns) place (val line.variable)) unit
  solved_there [] i p e h = absurd (omega arith)
  solved_there (x ∷ es) zero p e h =
      let same : nat_eq x.variable line.variable ≡ true = ap (λ y. nat_eq y.variable line.variable) e ∙ same_test line.variable in
      subst (λ v. Holds (solved_for place (get_or columns place 0) line) v (set (map val columns) place (val line.variable)) unit) (sym entering_value)
      (subst (λ b. Holds (cond b (solved_for place (get_or columns place 0) line) (put_in place (solved_for place (get_or columns place 0) line) x))
      (val (cond b (solved_for place (get_or columns place 0) line) (put_in place (solved_for place (get_or columns place 0) line) x)).variable)
      (set (map val columns) place (val line.variable)) unit) same h.0)
    where
      same_test : (n : ℕ) → nat_eq n n ≡ true
      same_test n = grind arith
  solved_there (x ∷ es) (suc i) p e h = solved_there es i (omega arith) e h.1

-- ---- a pivot changes no meaning
module _ (t : Tableau) (i place : ℕ) (inside : place < length t.columns) (there : i < length t.lines) (wide : AllWide (length t.columns) t.lines)
    (cost_wide : length t.cost.factors ≡ length t.columns) (positive : pos 0 <ℤ factor_at place (get_or t.lines i no_line)) (val : ℕ → ℤ) (unit : ℤ) where
  pub pivot_means : Means t val unit → Means (pivoted t (get_or t.lines i no_line) place) val unit
  pivot_means m =
      let line = get_or t.lines i no_line in
      let w = wide_at (length t.columns) t.lines i there wide in
      let s = line_solved val unit t.columns place inside line w positive (hold_at val (map val t.columns) unit t.lines i there m.lines) in
      record {
        lines = subst (λ zs. AllHold val zs unit (pivoted t line place).lines) (sym (map-set val t.columns place line.variable))
            (renewed_hold val unit t.columns place inside line w positive s t.lines wide m.lines);
        cost = subst (λ zs. Holds (pivoted t line place).cost (val (pivoted t line place).cost.variable) zs unit) (sym (map-set val t.columns place line.variable))
            (subst (λ v. Holds (pivoted t line place).cost (val v) (set (map val t.columns) place (val line.variable)) unit)
            (sym (put_in-variable place (solved_for place (get_or t.columns place 0) line) t.cost))
            (other_holds val unit t.columns place inside line w positive s t.cost cost_wide m.cost));
      }

  pub pivot_meant : Only (get_or t.lines i no_line).variable (get_or t.lines i no_line) t.lines
      → Means (pivoted t (get_or t.lines i no_line) place) val unit → Means t val unit
  pivot_meant only m =
      let line = get_or t.lines i no_line in
      let w = wide_at (length t.columns) t.lines i there wide in
      let lines = subst (λ zs. AllHold val zs unit (pivoted t line place).lines) (map-set val t.columns place line.variable) m.lines in
      let cost = subst (λ zs. Holds (pivoted t line place).cost (val (pivoted t line place).cost.variable) zs unit) (map-set val t.columns place line.variable) m.cost in
      let s = solved_there val unit t.columns place inside line w positive t.lines i there refl lines in
      record {
        lines = renewed_held val unit t.columns place inside line w positive s t.lines only wide lines;
        cost = other_held val unit t.columns place inside line w positive s t.cost cost_wide
            (subst (λ v. Holds (pivoted t line place).cost (val v) (set (map val t.columns) place (val line.variable)) unit)
            (put_in-variable place (solved_for place (get_or t.columns place 0) line) t.cost) cost);
      }
