-- Cited by contracts.
-- A program with its kinds.
use Rattle.std.specs.Prelude.{List, [], ◌∷◌}
use Rattle.camelot_values.specs.declared.kinds.Kind.{Kind}
use Rattle.camelot_tree.specs.Tree.{Function, Source}
use Rattle.camelot_typing.specs.Kinds.{Globals, atoms_of}
use Rattle.camelot_typing.specs.Typing.{Signature, known_kind, params_scope, globals_of, IsTyped, IsWithinLimits}
use Rattle.camelot_typing.specs.declared.kinds.FunKinds.{FunKinds}

-- the kinds of a function's parameters, of its result, and of the expressions of its body, each behind those that are
-- evaluated before it
pub record FunctionKinds : Type 0 where
  pub params : List Kind
  pub result : Kind
  pub exprs : List Kind

abbrev pub kinds_of : FunKinds → FunctionKinds
kinds_of k = record { params = k.params.items; result = k.result; exprs = k.exprs.items }

abbrev pub signature_of : Function → FunctionKinds → Signature
signature_of f k = record { name = f.name.word; params = k.params; result = k.result }

abbrev pub signatures_of : List Function → List FunctionKinds → List Signature
signatures_of (f ∷ fs) (k ∷ ks) = signature_of f k ∷ signatures_of fs ks
signatures_of fs ks = []

abbrev pub function_kinds : Globals Kind → Function → Signature → FunctionKinds
function_kinds g f s = record { params = s.params; result = s.result; exprs = atoms_of known_kind g (params_scope f.params s.params) f.body }

abbrev pub functions_kinds : Globals Kind → List Function → List Signature → List FunctionKinds
functions_kinds g (f ∷ fs) (s ∷ ss) = function_kinds g f s ∷ functions_kinds g fs ss
functions_kinds g fs ss = []

-- a program and the kinds of its functions; all other kinds are functions of these
pub record Typing : Type 0 where
  pub source : Source
  pub signatures : List Signature

abbrev pub typing_globals : Typing → Globals Kind
typing_globals t = globals_of t.source t.signatures

abbrev pub typing_kinds : Typing → List FunctionKinds
typing_kinds t = functions_kinds (typing_globals t) t.source.funs t.signatures

-- the program is typed so, within the limits
pub record IsTyping (t : Typing) : Type 0 where
  pub typed : IsTyped t.source t.signatures
  pub within : IsWithinLimits t.source

-- a program and the kinds of its functions
abbrev pub typing : Source → List FunctionKinds → Typing
typing p kinds = record { source = p; signatures = signatures_of p.funs kinds }
