-- Private: words for functions of this crate.
-- Nodes of several values in a row, cut into values.
use Rattle.std.specs.Prelude.{◌≡◌, ℕ, zero, suc, ◌+◌, ◌≤◌, List, [], ◌∷◌, ◌++◌, length, take, drop}
use Rattle.camelot_values.specs.Value.{Value, parts}
use Rattle.camelot_values.specs.Items.{nodes, nodes_all}
use Rattle.camelot_values.specs.declared.value.Item.{Item}
use Rattle.value_text.specs.Printing.{parts_of}

-- the nodes behind so many values
abbrev pub left_over : ℕ → List Item → List Item
left_over zero xs = xs
left_over (suc n) [] = []
left_over (suc n) (x ∷ xs) = left_over (n + parts_of x) xs

-- the nodes are those of a value, and others
pub record BeginsValue (xs : List Item) : Type 0 where
  pub value : Value
  pub rest : List Item
  pub is : xs ≡ nodes value rest

-- the nodes are those of so many values
pub record OfValues (xs : List Item) (count : ℕ) : Type 0 where
  pub values : List Value
  pub is : xs ≡ nodes_all (parts values) []
  pub count_is : count ≡ length values

-- so many nodes are those of the first value
pub record ValueLength (xs : List Item) (n : ℕ) : Type 0 where
  pub value : Value
  pub rest : List Item
  pub is : xs ≡ nodes value rest
  pub within : n ≤ length xs
  pub first : take n xs ≡ nodes value []
  pub others : drop n xs ≡ rest

-- these values were cut off, and the rest is that of the others
pub record Cuts (all : List Item) (count : ℕ) (done : List Value) (rest : List Item) : Type 0 where
  pub values : List Value
  pub rest_is : rest ≡ nodes_all (parts values) []
  pub all_is : all ≡ nodes_all (parts (done ++ values)) []
  pub count_is : count ≡ length (done ++ values)
