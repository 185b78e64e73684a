-- Private: words for functions of this crate.
-- What the code knows of a program.
use Rattle.std.specs.Prelude.{ℕ, List, [], ◌∷◌, Option, Some}
use Rattle.camelot_values.specs.Kinds.{DataType, type_of}
use Rattle.camelot_tree.specs.declared.tree.Arm.{Arm}
use Rattle.camelot_tree.specs.Tree.{Source, Branch, branch_of}
use Rattle.camelot_tree.specs.Programs.{program_of}
use Rattle.camelot_typing.specs.Kinds.{or_else, numbers_of}
use Rattle.camelot_typing.specs.Typing.{Signature}
use Rattle.camelot_typing.specs.TypedPrograms.{typing_of}
use Rattle.camelot_typing.specs.declared.typed.Typed.{Typed}

-- a program of the code, and the kinds of its functions
abbrev pub source_in : Typed → Source
source_in t = program_of t.program

abbrev pub signatures_in : Typed → List Signature
signatures_in t = (typing_of t).signatures

-- the constructors of a match, by the numbers of its arms'
abbrev pub cons_by : List DataType → List (Option ℕ) → List ℕ
cons_by types [] = []
cons_by types (o ∷ os) = numbers_of types (or_else (type_of types (or_else o 0)) 0)

-- an arm that is there
abbrev pub branch_at : Arm → Option Branch
branch_at a = Some (branch_of a)
