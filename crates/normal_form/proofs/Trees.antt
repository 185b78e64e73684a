-- The code's trees as plain data.
use Rattle.std.proofs.Common.{◌≡◌, ℕ, map, Box, Vec, Global, rules}
use Rattle.camelot_tree.specs.declared.tree.PrimOp.{PrimOp}
use Rattle.camelot_tree.specs.declared.tree.Expr.{Expr}
use Rattle.camelot_tree.specs.declared.tree.Expr as code
use Rattle.camelot_tree.specs.declared.tree.Expr.TheFolds.{the_lemmas}
use Rattle.camelot_tree.specs.declared.tree.Arm.{Arm}
use Rattle.camelot_tree.specs.declared.tree.Build.{Build as BuildParts}
use Rattle.camelot_tree.specs.Tree.{Prim, If, Match, Build, expression_of, branch_of, operator_of, expressions, arms}

pub arm_is : (a : Arm) → branch_of a ≡ record { con = a.con; fields = a.fields.items; cell = a.cell; body = expression_of a.body }
arm_is a = search (rules, the_lemmas)

pub match_is : (on : Box Expr Global) (as' : Vec Arm Global) (l : ℕ)
    → expression_of (code.Match l on as') ≡ Match (expression_of on.value) (arms (map branch_of as'.items)) l
match_is on as' l = search (rules, the_lemmas)

pub build_is : (b : Box BuildParts Global) → expression_of (code.Build b) ≡ Build b.value.con (expressions (map expression_of b.value.args.items)) b.value.place
build_is b = search (rules, the_lemmas)

pub prim_is : (op : PrimOp) (a b : Box Expr Global) (l : ℕ)
    → expression_of (code.Prim op a b l) ≡ Prim (operator_of op) (expression_of a.value) (expression_of b.value) l
prim_is op a b l = search (rules, the_lemmas)

pub if_is : (c a b : Box Expr Global) (l : ℕ) → expression_of (code.If c a b l) ≡ If (expression_of c.value) (expression_of a.value) (expression_of b.value) l
if_is c a b l = search (rules, the_lemmas)
