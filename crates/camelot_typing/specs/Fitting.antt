-- Cited by contracts.
-- Names with values of their kinds, and calls that come to values of theirs: what the run of a typed expression starts
-- from.
use Rattle.std.specs.Prelude.{◌≡◌, ℕ, Bool, List, Some, slice_get, IsSomeAnd}
use Rattle.camelot_values.specs.Value.{Value}
use Rattle.camelot_values.specs.Names.{find}
use Rattle.camelot_values.specs.Kinds.{DataType}
use Rattle.camelot_values.specs.Typing.{Fits, ArgumentsFit}
use Rattle.camelot_values.specs.Bounds.{Yields}
use Rattle.camelot_values.specs.Runs.{Enter}
use Rattle.camelot_values.specs.declared.kinds.Kind.{Kind}
use Rattle.camelot_tree.specs.Tree.{Source}
use Rattle.camelot_tree.specs.Meaning.{Environment}
use Rattle.camelot_typing.specs.Kinds.{Scope, types_of}
use Rattle.camelot_typing.specs.Typing.{Signature}

-- each name in scope has a value of its kind
pub record Scoped (types : List DataType) (s : Scope Kind) (env : Environment) : Type 0 where
  pub holds : (name : List ℕ) (k : Kind) → find s name ≡ Some k → IsSomeAnd (env name) (Fits types k)

-- the calls of the program's functions on fitting arguments come to values of the results' kinds, or stop
abbrev pub CallsFit : Source → List Signature → Enter → Type 0
CallsFit p sigs enter = (k w : ℕ) (t : Bool) (i : ℕ) (args : List Value) (s : Signature) → slice_get sigs i ≡ Some s → ArgumentsFit (types_of p) s.params args → Yields (Fits (types_of p) s.result) (enter k w t i args)
