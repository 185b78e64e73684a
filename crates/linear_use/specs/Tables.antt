-- Laws, for the proofs of this crate and of those above it.
-- Names in a table: each once, in the order in which they came.
use Rattle.std.specs.Prelude.{ℕ, not, if◌then◌else◌, List, [], ◌∷◌, ◌++◌}
use Rattle.camelot_values.specs.Names.{stands}

-- the first names, and each of the others that doesn't stand yet
abbrev pub with_names : List (List ℕ) → List (List ℕ) → List (List ℕ)
with_names names [] = names
with_names names (w ∷ ws) = with_names (if not (stands names w) then names ++ w ∷ [] else names) ws
