-- Cited by contracts.
-- What each answer of reading says of the text.
use Rattle.std.specs.Prelude.{◌≡◌, ℕ, List}
use Rattle.camelot_values.specs.Kinds.{DataType}
use Rattle.camelot_values.specs.declared.kinds.Kind.{Kind}
use Rattle.value_text.specs.Grammar.{IsTooLong, IsBadShape}
use Rattle.stops.specs.declared.stop.Stop.{Stop}
use Rattle.stops.specs.declared.stop.Stop.TheVariants.{Fault, Memory}
use Rattle.value_text.specs.declared.asking.ValueFault.{ValueFault}
use Rattle.value_text.specs.declared.asking.ValueFault.TheVariants as fault

-- what stands behind each fault
abbrev pub IsFault : List DataType → List Kind → List ℕ → ValueFault → Type 0
IsFault types kinds text (fault.BadShape at) = IsBadShape types kinds text at
IsFault types kinds text (fault.TooLong items) = IsTooLong types kinds text items

-- memory ran out
abbrev pub IsMemory : Stop ValueFault → Type 0
IsMemory (Fault f) = ⊥
IsMemory Memory = Unit {0}

-- the shape is wrong with this place, or memory ran out
abbrev pub IsBadAt : ℕ → Stop ValueFault → Type 0
IsBadAt place (Fault (fault.BadShape at)) = at ≡ place
IsBadAt place (Fault (fault.TooLong items)) = ⊥
IsBadAt place Memory = Unit {0}

-- there are so many nodes, or memory ran out
abbrev pub IsLongBy : ℕ → Stop ValueFault → Type 0
IsLongBy count (Fault (fault.BadShape at)) = ⊥
IsLongBy count (Fault (fault.TooLong items)) = items ≡ count
IsLongBy count Memory = Unit {0}
