-- Private: words for functions of this crate.
-- What was read of a text, or why not, with what it is alone.
use Rattle.std.specs.Prelude.{◌≡◌, ℕ, List}
use Rattle.camelot_values.specs.Value.{Value}
use Rattle.camelot_values.specs.Kinds.{DataType}
use Rattle.camelot_values.specs.declared.kinds.Kind.{Kind}
use Rattle.value_text.specs.Grammar.{IsTextOf, IsRead, IsTooLong, IsBadShape}
use Rattle.value_text.specs.declared.asking.ValueFault.{ValueFault}
use Rattle.value_text.specs.declared.asking.ValueFault.TheVariants as fault

-- the text is of no other values
abbrev pub OnlyText : List DataType → List Kind → List ℕ → List Value → Type 0
OnlyText types kinds text values = (others : List Value) → IsTextOf types kinds text others → others ≡ values

pub record OnlyRead (types : List DataType) (kinds : List Kind) (text : List ℕ) (values : List Value) : Type 0 where
  pub read : IsRead types kinds text values
  pub only : OnlyText types kinds text values

pub record OnlyLong (types : List DataType) (kinds : List Kind) (text : List ℕ) (items : ℕ) : Type 0 where
  pub long : IsTooLong types kinds text items
  pub only : OnlyText types kinds text long.values

-- the shape is wrong
abbrev pub IsBad : List DataType → List Kind → List ℕ → ValueFault → Type 0
IsBad types kinds text (fault.BadShape at) = IsBadShape types kinds text at
IsBad types kinds text (fault.TooLong items) = ⊥

abbrev pub OnlyFault : List DataType → List Kind → List ℕ → ValueFault → Type 0
OnlyFault types kinds text (fault.BadShape at) = IsBadShape types kinds text at
OnlyFault types kinds text (fault.TooLong items) = OnlyLong types kinds text items
