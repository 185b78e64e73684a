-- Cited by contracts.
-- Kinds of functions that a choice settles: what isn't `int` there is the same in the other list.
use Rattle.std.specs.Prelude.{◌≡◌, List, [], ◌∷◌}
use Rattle.camelot_values.specs.declared.kinds.Kind.{Kind}
use Rattle.camelot_values.specs.declared.kinds.Kind.TheVariants as kind
use Rattle.camelot_typing.specs.Typing.{Signature, IsTyped, globals_of}
use Rattle.camelot_typing.specs.Typed.{FunctionKinds, Typing, typing_kinds, functions_kinds}

-- what isn't `int` among the first kinds is the same among the others
abbrev pub SameButInts : List Kind → List Kind → Type 0
SameButInts [] [] = Unit {0}
SameButInts (k ∷ ks) (q ∷ qs) = ((k ≡ kind.Int → ⊥) → q ≡ k) × SameButInts ks qs
SameButInts ks qs = ⊥

pub record IsSettledBy (k q : FunctionKinds) : Type 0 where
  pub params : SameButInts k.params q.params
  pub result : (k.result ≡ kind.Int → ⊥) → q.result ≡ k.result
  pub exprs : SameButInts k.exprs q.exprs

-- function by function
abbrev pub KindsSettled : List FunctionKinds → List FunctionKinds → Type 0
KindsSettled [] [] = Unit {0}
KindsSettled (k ∷ ks) (q ∷ qs) = IsSettledBy k q × KindsSettled ks qs
KindsSettled ks qs = ⊥

-- a program's kinds other than `int` are those of every choice of kinds that obeys the rules
abbrev pub IsSettled : Typing → Type 0
IsSettled t = (sigs : List Signature) → IsTyped t.source sigs → KindsSettled (typing_kinds t) (functions_kinds (globals_of t.source sigs) t.source.funs sigs)
