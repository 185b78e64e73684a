-- Cited by contracts.
-- How many nodes of a constructor a value has, and how many cells a machine needs to hold it: one for each boxed node,
-- and one for each diamond, which names a cell. The code counts the nodes in prefix order.
use Rattle.std.specs.Prelude.{ℕ, suc, ◌+◌, ◌==◌, Bool, false, not, cond, List}
use Rattle.std.specs.Option.{option_map_or}
use Rattle.camelot_values.specs.Value as value
use Rattle.camelot_values.specs.Value.{Value, Values, parts}
use Rattle.camelot_values.specs.Kinds.{DataType, constructor}

-- 1 where the test holds
abbrev pub one_where : Bool → ℕ
one_where b = cond b 1 0

-- the constructor needs a cell; one that isn't there needs none
abbrev pub is_boxed : List DataType → ℕ → Bool
is_boxed types c = option_map_or (λ con. not con.inline) (constructor types c) false

-- how many nodes of constructor c there are
abbrev mutual
  pub count : ℕ → Value → ℕ
  count c (value.Con d vs) = one_where (d == c) + count_all c vs
  count c v = 0

  pub count_all : ℕ → Values → ℕ
  count_all c value.End = 0
  count_all c (value.And v vs) = count c v + count_all c vs

-- how many cells are needed
abbrev mutual
  pub cells : List DataType → Value → ℕ
  cells types (value.Con c vs) = one_where (is_boxed types c) + cells_all types vs
  cells types value.Dia = 1
  cells types v = 0

  pub cells_all : List DataType → Values → ℕ
  cells_all types value.End = 0
  cells_all types (value.And v vs) = cells types v + cells_all types vs

-- how many nodes there are
abbrev mutual
  pub size : Value → ℕ
  size (value.Con c vs) = suc (size_all vs)
  size v = 1

  pub size_all : Values → ℕ
  size_all value.End = 0
  size_all (value.And v vs) = size v + size_all vs

-- the same of a list of arguments
abbrev pub count_among : ℕ → List Value → ℕ
count_among c vs = count_all c (parts vs)

abbrev pub cells_among : List DataType → List Value → ℕ
cells_among types vs = cells_all types (parts vs)
