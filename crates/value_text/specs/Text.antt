-- Cited by contracts.
-- Values as text.
use Rattle.std.specs.Prelude.{ℕ, cond, List, [], ◌++◌, codes}
use Rattle.std.specs.Fmt.{signed_decimal}
use Rattle.camelot_values.specs.Value.{Value, Values, Int, Flag, Dia, Con, End, And}

-- an int in decimal, with `-` where it is negative; `true` or `false`; `<>` for a diamond; a constructor by its
-- name, and where it has parts, these in parentheses with commas between them
abbrev mutual
  pub value_text : (ℕ → List ℕ) → Value → List ℕ
  value_text names (Int z) = signed_decimal z
  value_text names (Flag b) = cond b (codes "true") (codes "false")
  value_text names Dia = codes "<>"
  value_text names (Con c End) = names c
  value_text names (Con c (And v vs)) = names c ++ codes "(" ++ value_text names v ++ further_text names vs ++ codes ")"

  -- the second part and those that follow it, each after a comma
  pub further_text : (ℕ → List ℕ) → Values → List ℕ
  further_text names End = []
  further_text names (And v vs) = codes "," ++ value_text names v ++ further_text names vs
