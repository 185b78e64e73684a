-- Private: words for functions of this crate.
-- What the check answers, in its parts.
use Rattle.std.specs.Prelude.{◌≡◌, List, [], map, Result, Ok, Err}
use Rattle.camelot_tree.specs.Tree.{Source}
use Rattle.camelot_typing.specs.Kinds.{types_of}
use Rattle.camelot_typing.specs.declared.kinds.FunKinds.{FunKinds}
use Rattle.camelot_typing.specs.Typed.{FunctionKinds, kinds_of}
use Rattle.camelot_types.specs.declared.fault.TypeFault.{TypeFault}
use Rattle.stops.specs.declared.stop.Stop.{Stop}
use Rattle.camelot_types.specs.declared.program.Parts.{Parts}
use Rattle.camelot_types.specs.Walk.{guesses_of, head_guesses}
use Rattle.camelot_types.specs.Solving.{Walked, Goes, and_then, bodies_on, Bodies, settled_funs, fresh, unknowns}
use Rattle.camelot_types.specs.Declaring.{types_checked, headers_checked}
use Rattle.camelot_types.specs.Doing.{StopsWith}
use Rattle.std.specs.Global.{Vec}

-- the walk of all bodies
abbrev pub bodies_walked : Source → Walked Bodies
bodies_walked p = bodies_on (guesses_of p) (fresh 0 (unknowns p.funs)) [] p.funs (head_guesses p 0 p.funs)

-- the walk of the whole program
abbrev pub program_walked : Source → Walked Bodies
program_walked p = and_then (types_checked p) (λ u. and_then (headers_checked p) (λ v. bodies_walked p))

-- the kinds that a walk leaves
pub record KindsLeft (p : Source) (o : Walked Bodies) (kinds : List FunctionKinds) : Type 0 where
  pub work : Bodies
  pub walked : o ≡ Goes work
  pub kinds_are : kinds ≡ settled_funs work.table (head_guesses p 0 p.funs) work.atoms

abbrev pub BodiesChecked : Source → Result (Vec FunKinds) (Stop TypeFault) → Type 0
BodiesChecked p (Ok kinds) = KindsLeft p (bodies_walked p) (map kinds_of kinds.items)
BodiesChecked p (Err stop) = StopsWith (bodies_walked p) stop

-- types, with the kinds that the walk leaves
pub record PartsFound (p : Source) (parts : Parts) : Type 0 where
  pub types_are : parts.types ≡ types_of p
  pub kinds : KindsLeft p (program_walked p) (map kinds_of parts.funs.items)

abbrev pub Checks : Source → Result Parts (Stop TypeFault) → Type 0
Checks p (Ok parts) = PartsFound p parts
Checks p (Err stop) = StopsWith (program_walked p) stop
