-- Private: words for functions of this crate.
-- What may be due in a text of values.
use Rattle.std.specs.Prelude.{ℕ}
use Rattle.camelot_values.specs.declared.kinds.Kind.{Kind}

-- a value of a kind, or a byte of its own: a parenthesis, a comma, or the space between two values
pub data Due : Type 0 where
  Value : Kind → Due
  Mark : ℕ → Due
