-- Cited by contracts. Equations between variables, with whole numbers, and what a pivot does with them. The code keeps
-- the same numbers, 64 bits each.
use Rattle.std.specs.Prelude.{ℕ, ℤ, pos, ◌*ℤ◌, ◌+ℤ◌, neg_ℤ, int_div, List, [], ◌∷◌, map, Bool, ◌&&◌, nat_le, nat_eq, if◌then◌else◌, unsigned_abs, slice_index_or, slice_set, ◌^◌}
use Rattle.std.specs.List.{list_all}
use Rattle.dual_simplex.specs.Division.{common_divisor}

-- divisor * variable = constant + the sum, over the columns, of each factor times the variable of its column
pub record Equation : Type 0 where
  pub variable : ℕ
  pub divisor : ℤ
  pub constant : ℤ
  pub factors : List ℤ

-- at most 2 to the 62 in size
abbrev pub is_small : ℤ → Bool
is_small x = nat_le (unsigned_abs x) (2 ^ 62)

-- no number of the equation is above 2 to the 62 in size
abbrev pub fits : Equation → Bool
fits e = is_small e.divisor && (is_small e.constant && list_all is_small e.factors)

-- the factor of a column
abbrev pub factor_at : ℕ → Equation → ℤ
factor_at place e = slice_index_or e.factors place (pos 0)

-- The equation of a basic variable, solved for the variable of a column: the two trade places.
-- The numbers stay the same but for signs, so they have no new common divisor.
abbrev pub solved_for : ℕ → ℕ → Equation → Equation
solved_for place entering e = record {
  variable = entering;
  divisor = factor_at place e;
  constant = neg_ℤ e.constant;
  factors = slice_set (map neg_ℤ e.factors) place e.divisor;
}

-- `scale` times one number and `times` times another
abbrev pub mixed : ℤ → ℤ → ℤ → ℤ → ℤ
mixed scale times own other = (scale *ℤ own) +ℤ (times *ℤ other)

-- the same for two lists, place by place
abbrev pub mixed_all : ℤ → ℤ → List ℤ → List ℤ → List ℤ
mixed_all scale times (own ∷ owns) (other ∷ others) = mixed scale times own other ∷ mixed_all scale times owns others
mixed_all scale times owns others = []

-- an equation without the column at a place
abbrev pub without : ℕ → Equation → Equation
without place e = record e { factors = slice_set e.factors place (pos 0) }

-- an equation, times the solved one's divisor, plus `times` the right side of the solved one
abbrev pub combined : ℤ → Equation → Equation → Equation
combined times solved e = record {
  variable = e.variable;
  divisor = solved.divisor *ℤ e.divisor;
  constant = mixed solved.divisor times e.constant solved.constant;
  factors = mixed_all solved.divisor times e.factors solved.factors;
}

-- every number of an equation divided by `shared`
abbrev pub divided : ℕ → Equation → Equation
divided shared e = record {
  variable = e.variable;
  divisor = int_div e.divisor (pos shared);
  constant = int_div e.constant (pos shared);
  factors = map (λ x. int_div x (pos shared)) e.factors;
}

-- in lowest terms: no common divisor above 1 is left
abbrev pub lowest : Equation → Equation
lowest e = divided (common_divisor e.divisor (e.constant ∷ e.factors)) e

-- The solved equation is put into another one, in place of the column's variable.
-- An equation without that variable stays as it is; it is in lowest terms already (`StaysReduced`).
abbrev pub put_in : ℕ → Equation → Equation → Equation
put_in place solved e =
    if nat_eq (unsigned_abs (factor_at place e)) 0 then e else lowest (combined (factor_at place e) solved (without place e))
