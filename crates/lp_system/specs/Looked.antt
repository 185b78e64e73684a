-- Cited by contracts.
-- What is known of a function's locals that are only looked at.
use Rattle.std.specs.Prelude.{◌≡◌, ℕ, ◌<◌, Bool, List, length, slice_get, Some}
use Rattle.camelot_values.specs.Lists.{is_among}
use Rattle.grail_code.specs.Code.{Func}
use Rattle.grail_code.specs.WellFormed.{local_kinds, looked_in}

-- These marks say of each local of the function whether some arm that only looks at its cell has it as a field.
abbrev pub AreLooked : Func → List Bool → Type 0
AreLooked f marks = (x : ℕ) → x < length (local_kinds f) → slice_get marks x ≡ Some (is_among (looked_in f) x)
