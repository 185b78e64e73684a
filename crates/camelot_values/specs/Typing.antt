-- Cited by contracts.
-- Which values are of which kind, what operators give, and what it means that a run doesn't get stuck.
use Rattle.std.specs.Prelude.{◌≡◌, List, [], ◌∷◌, Some, IsSomeAnd}
use Rattle.std.specs.Option.{option_map}
use Rattle.camelot_values.specs.Value as value
use Rattle.camelot_values.specs.Value.{Value, Values, parts, IsInt32}
use Rattle.camelot_values.specs.Outcome.{Outcome}
use Rattle.camelot_values.specs.Bounds.{Yields}
use Rattle.camelot_values.specs.Operator as operator
use Rattle.camelot_values.specs.Operator.{Operator}
use Rattle.camelot_values.specs.Kinds.{DataType, constructor, type_of}
use Rattle.camelot_values.specs.declared.kinds.Kind.{Kind}
use Rattle.camelot_values.specs.declared.kinds.Kind.TheVariants as kind

-- an int has 32 bits; a constructor is of its type, and has one part of the right kind for each field
abbrev mutual
  pub Fits : List DataType → Kind → Value → Type 0
  Fits types q (value.Int z) = (q ≡ kind.Int) × IsInt32 z
  Fits types q (value.Flag b) = q ≡ kind.Flag
  Fits types q value.Dia = q ≡ kind.Dia
  Fits types q (value.Con c vs) = (option_map kind.Of (type_of types c) ≡ Some q) × IsSomeAnd (constructor types c) (λ con. FitAll types con.fields vs)

  -- one value of each of these kinds
  pub FitAll : List DataType → List Kind → Values → Type 0
  FitAll types [] value.End = Unit {0}
  FitAll types (q ∷ qs) (value.And v vs) = Fits types q v × FitAll types qs vs
  FitAll types qs vs = ⊥

-- the kind of what an operator gives, for two ints
abbrev pub operator_kind : Operator → Kind
operator_kind operator.Add = kind.Int
operator_kind operator.Sub = kind.Int
operator_kind operator.Mul = kind.Int
operator_kind operator.Div = kind.Int
operator_kind operator.Mod = kind.Int
operator_kind operator.Eq = kind.Flag
operator_kind operator.Ne = kind.Flag
operator_kind operator.Lt = kind.Flag
operator_kind operator.Le = kind.Flag
operator_kind operator.Gt = kind.Flag
operator_kind operator.Ge = kind.Flag

-- one argument of each of these kinds
abbrev pub ArgumentsFit : List DataType → List Kind → List Value → Type 0
ArgumentsFit types qs args = FitAll types qs (parts args)

-- the run isn't stuck, and where it comes to a value, this is of the kind
abbrev pub IsSafe : List DataType → Kind → Outcome Value → Type 0
IsSafe types q o = Yields (Fits types q) o
