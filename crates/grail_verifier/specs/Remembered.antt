-- Private: words for functions of this crate.
-- Which annotations, by their numbers, are known to be at least which others, on all that a type reaches.
use Rattle.std.specs.Prelude.{ℕ, List}
use Rattle.std.specs.List.{AllByRecursion}
use Rattle.camelot_values.specs.Kinds.{DataType}
use Rattle.camelot_values.specs.declared.kinds.Kind.TheVariants.{Of}
use Rattle.annotations.specs.Vectors.{Vector, at, AtLeast}
use Rattle.grail_verifier.specs.Numbered.{held}

-- two numbers of annotations, and a type's number
abbrev pub Passed : Type 0
Passed = (ℕ × ℕ) × ℕ

-- the first are at least the second on all that the type reaches
abbrev pub IsPassed : List DataType → List Vector → Passed → Type 0
IsPassed types all e = AtLeast types (Of e.1) (at (held all e.0.0)) (at (held all e.0.1))

-- this is so of all that is remembered
unfoldable pub IsSound : List DataType → List Vector → List Passed → Type 0
IsSound types all memo = AllByRecursion (IsPassed types all) memo
