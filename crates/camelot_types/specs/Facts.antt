-- Private: words for functions of this crate.
-- What the code keeps of constructors, by their numbers.
use Rattle.std.specs.Prelude.{ℕ, suc, ◌+◌, List, [], ◌∷◌, ◌++◌, map, length}
use Rattle.camelot_values.specs.Kinds.{Constructor, DataType, constructor_of}
use Rattle.camelot_typing.specs.Kinds.{numbered}
use Rattle.camelot_types.specs.declared.facts.ConFact.{ConFact}

-- a constructor, and the number of its type
pub record Fact : Type 0 where
  pub con : Constructor
  pub owner : ℕ

abbrev pub fact_of : ConFact → Fact
fact_of f = record { con = constructor_of f.con.now; owner = f.owner }

abbrev pub fact_at : ℕ → Constructor → Fact
fact_at owner c = record { con = c; owner = owner }

-- those of all these types, of which the first has this number
abbrev pub facts_from : ℕ → List DataType → List Fact
facts_from owner [] = []
facts_from owner (d ∷ ds) = map (fact_at owner) d.cons ++ facts_from (suc owner) ds

-- the numbers of the constructors of each of these types, where the first constructor has this number
abbrev pub numbers_from_type : ℕ → List DataType → List (List ℕ)
numbers_from_type first [] = []
numbers_from_type first (d ∷ ds) = numbered first d.cons ∷ numbers_from_type (first + length d.cons) ds
