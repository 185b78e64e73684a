-- Cited by contracts.
-- The left end of an expression. Chains of operators nest to the left, as deep as the text is long, while
-- everything else nests within the levels of the grammar: so walks over trees go along the left end in a loop.
use Rattle.std.specs.Prelude.{ℕ, suc, ◌+◌, List, [], ◌∷◌}
use Rattle.camelot_tree.specs.Tree.{Expression, Num, Truth, Var, Prim, If, Let, Match, Build, Call, Expressions, NoExpressions, AndExpression, Arms, NoArms, AndArm}

-- the operators and conditionals from the outermost inwards, each in the first part of the one before
abbrev pub spine_of : Expression → List Expression
spine_of (Prim op a b l) = Prim op a b l ∷ spine_of a
spine_of (If c a b l) = If c a b l ∷ spine_of c
spine_of e = []

-- the first part of the innermost of these: what is evaluated first, and is neither
abbrev pub leaf_of : Expression → Expression
leaf_of (Prim op a b l) = leaf_of a
leaf_of (If c a b l) = leaf_of c
leaf_of e = e

-- neither an operator nor a conditional
abbrev pub IsLeaf : Expression → Type 0
IsLeaf (Prim op a b l) = ⊥
IsLeaf (If c a b l) = ⊥
IsLeaf e = Unit {0}

-- the number of expressions
abbrev mutual
  pub size : Expression → ℕ
  size (Num z l) = 1
  size (Truth b l) = 1
  size (Var n) = 1
  size (Prim op a b l) = suc (size a + size b)
  size (If c a b l) = suc (size c + (size a + size b))
  size (Let n e b) = suc (size e + size b)
  size (Match e as' l) = suc (size e + arms_size as')
  size (Build c es place) = suc (expressions_size es)
  size (Call f es) = suc (expressions_size es)

  pub expressions_size : Expressions → ℕ
  expressions_size NoExpressions = 0
  expressions_size (AndExpression e es) = size e + expressions_size es

  pub arms_size : Arms → ℕ
  arms_size NoArms = 0
  arms_size (AndArm c fs x b as') = size b + arms_size as'

-- a parent with another first part
abbrev pub with_first : Expression → Expression → Expression
with_first (Prim op a b l) e = Prim op e b l
with_first (If c a b l) e = If e a b l
with_first p e = e

-- the outermost of these parents around an expression
abbrev pub around : List Expression → Expression → Expression
around [] e = e
around (p ∷ ps) e = with_first p (around ps e)
