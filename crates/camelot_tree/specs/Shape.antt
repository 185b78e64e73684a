-- Cited by contracts.
-- What the grammar gives of numbers: each type has a constructor, each function a parameter, each match an arm, and an
-- inline constructor no fields.
use Rattle.std.specs.Prelude.{Bool, true, false, not, ◌&&◌, ◌||◌, List, [], ◌∷◌}
use Rattle.std.specs.List.{list_all}
use Rattle.camelot_tree.specs.Tree.{Expression, Num, Truth, Var, Prim, If, Let, Match, Build, Call, Expressions, NoExpressions, AndExpression, Arms, NoArms, AndArm, Constructor, DataType, Function, Source}

abbrev pub is_nothing : {A : Type 0} → List A → Bool
is_nothing [] = true
is_nothing (x ∷ xs) = false

-- each match in it has an arm; a build or a call without arguments has no match in it, so that it keeps this trivially
abbrev mutual
  pub has_arms : Expression → Bool
  has_arms (Num z l) = true
  has_arms (Truth b l) = true
  has_arms (Var n) = true
  has_arms (Prim o a b l) = has_arms a && has_arms b
  has_arms (If c a b l) = has_arms c && (has_arms a && has_arms b)
  has_arms (Let n v b) = has_arms v && has_arms b
  has_arms (Match e NoArms l) = false
  has_arms (Match e (AndArm c fs x b as') l) = has_arms e && (has_arms b && have_arms as')
  has_arms (Build c es p) = each_has_arms es
  has_arms (Call f es) = each_has_arms es

  pub each_has_arms : Expressions → Bool
  each_has_arms NoExpressions = true
  each_has_arms (AndExpression e es) = has_arms e && each_has_arms es

  pub have_arms : Arms → Bool
  have_arms NoArms = true
  have_arms (AndArm c fs x b as') = has_arms b && have_arms as'

abbrev pub con_is_whole : Constructor → Bool
con_is_whole c = not c.inline || is_nothing c.fields

abbrev pub type_is_whole : DataType → Bool
type_is_whole t = not (is_nothing t.cons) && list_all con_is_whole t.cons

abbrev pub fun_is_whole : Function → Bool
fun_is_whole f = not (is_nothing f.params) && has_arms f.body

abbrev pub is_whole : Source → Bool
is_whole p = list_all type_is_whole p.types && list_all fun_is_whole p.funs
