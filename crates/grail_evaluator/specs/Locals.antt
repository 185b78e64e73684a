-- Private: words for functions of this crate.
-- The evaluator's locals, which it keeps in the order in which they were bound, as the locals of the meaning of code.
use Rattle.std.specs.Prelude.{◌≡◌, ℕ, ℤ, Bool, true, false, ◌==◌, if◌then◌else◌, List, [], ◌∷◌, ◌++◌, map, Option, Some, None, ⊤}
use Rattle.std.specs.List.{list_any}
use Rattle.camelot_values.specs.Value as value
use Rattle.camelot_values.specs.Value.{Value}
use Rattle.grail_code.specs.Meaning.{Locals}
use Rattle.grail_evaluator.specs.Trees.{plain}
use Rattle.grail_evaluator.specs.declared.locals.Bound.{Bound}

pub record Pair : Type 0 where
  pub local : ℕ
  pub value : Value

abbrev pub bound_of : Bound → Pair
bound_of b = record { local = b.local; value = plain b.value }

-- what the local is bound to behind these, where o was found before them
abbrev pub last_of : Option Value → List Pair → ℕ → Option Value
last_of o [] x = o
last_of o (b ∷ bs) x = last_of (if b.local == x then Some b.value else o) bs x

abbrev pub env_of : List Bound → Locals
env_of bs = λ x. last_of None (map bound_of bs) x

-- those of these locals
abbrev pub kept : List ℕ → List Pair → List Pair
kept params [] = []
kept params (b ∷ bs) = if list_any (λ p. p == b.local) params then b ∷ kept params bs else kept params bs

-- these values, and then others, where there are such
abbrev pub behind : List Value → Option (List Value) → Option (List Value)
behind vs None = None
behind vs (Some ws) = Some (vs ++ ws)

-- ---- what locals hold

-- the int, the truth value, if it is one
abbrev pub int_at : Option Value → Option ℤ
int_at (Some (value.Int z)) = Some z
int_at o = None

abbrev pub flag_at : Option Value → Option Bool
flag_at (Some (value.Flag b)) = Some b
flag_at o = None

-- whether it is a diamond
abbrev pub IsDiamond : Bool → Option Value → Type 0
IsDiamond true o = o ≡ Some value.Dia
IsDiamond false o = o ≡ Some value.Dia → ⊥

-- it is no constructor
abbrev pub IsNoCon : Option Value → Type 0
IsNoCon (Some (value.Con c vs)) = ⊥
IsNoCon o = ⊤
