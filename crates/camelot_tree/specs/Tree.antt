-- Cited by contracts.
-- The tree of a program as plain data. The code keeps lists in vectors and parts in boxes.
use Rattle.std.specs.Prelude.{ℕ, ℤ, Bool, List, [], ◌∷◌, map, Option}
use Rattle.camelot_values.specs.Operator as operator
use Rattle.camelot_values.specs.Operator.{Operator}
use Rattle.camelot_tree.specs.declared.tree.Name.{Name}
use Rattle.camelot_tree.specs.declared.tree.Atom.{Atom}
use Rattle.camelot_tree.specs.declared.tree.ConDecl.{ConDecl}
use Rattle.camelot_tree.specs.declared.tree.TypeDecl.{TypeDecl}
use Rattle.camelot_tree.specs.declared.tree.Param.{Param}
use Rattle.camelot_tree.specs.declared.tree.FunDecl.{FunDecl}
use Rattle.camelot_tree.specs.declared.tree.PrimOp.{PrimOp}
use Rattle.camelot_tree.specs.declared.tree.PrimOp.TheVariants as prim
use Rattle.camelot_tree.specs.declared.tree.ArmCell.{ArmCell}
use Rattle.camelot_tree.specs.declared.tree.Expr.{Expr}
use Rattle.camelot_tree.specs.declared.tree.Build.{Build as BuildParts}
use Rattle.camelot_tree.specs.declared.tree.Call.{Call as CallParts}
use Rattle.camelot_tree.specs.declared.tree.Arm.{Arm}
use Rattle.camelot_tree.specs.declared.tree.Expr.TheFolds.{fold-Expr, fold-Arm, fold-Build, fold-Call}
use Rattle.camelot_tree.specs.declared.tree.Expr.TheOpen as layer
use Rattle.camelot_tree.specs.declared.tree.Expr.TheOpen.{Expr-F, Arm-F, Build-F, Call-F}

-- expressions; a number at the end is the line
mutual
  pub data Expression : Type 0 where
    Num : (value : ℤ) (line : ℕ) → Expression
    Truth : (value : Bool) (line : ℕ) → Expression
    Var : Name → Expression
    Prim : Operator → (left right : Expression) (line : ℕ) → Expression
    If : (cond first second : Expression) (line : ℕ) → Expression
    Let : Name → (value body : Expression) → Expression
    Match : (on : Expression) (arms : Arms) (line : ℕ) → Expression
    Build : (con : Name) (args : Expressions) (place : Option Name) → Expression
    Call : (fun : Name) (args : Expressions) → Expression

  pub data Expressions : Type 0 where
    NoExpressions : Expressions
    AndExpression : Expression → Expressions → Expressions

  -- each arm is a constructor with the names of its fields, what becomes of its cell, and a body
  pub data Arms : Type 0 where
    NoArms : Arms
    AndArm : (con : Name) (fields : List (Option Name)) (cell : ArmCell) (body : Expression) → Arms → Arms

pub record Branch : Type 0 where
  pub con : Name
  pub fields : List (Option Name)
  pub cell : ArmCell
  pub body : Expression

abbrev pub expressions : List Expression → Expressions
expressions [] = NoExpressions
expressions (e ∷ es) = AndExpression e (expressions es)

abbrev pub arms : List Branch → Arms
arms [] = NoArms
arms (a ∷ as') = AndArm a.con a.fields a.cell a.body (arms as')

pub record Constructor : Type 0 where
  pub name : Name
  pub inline : Bool
  pub fields : List Atom

pub record DataType : Type 0 where
  pub name : Name
  pub cons : List Constructor

pub record Function : Type 0 where
  pub name : Name
  pub params : List Param
  pub result : Option Atom
  pub body : Expression

pub record Source : Type 0 where
  pub types : List DataType
  pub funs : List Function

-- ---- the plain data of the code's types

abbrev pub operator_of : PrimOp → Operator
operator_of prim.Add = operator.Add
operator_of prim.Sub = operator.Sub
operator_of prim.Mul = operator.Mul
operator_of prim.Div = operator.Div
operator_of prim.Mod = operator.Mod
operator_of prim.Eq = operator.Eq
operator_of prim.Ne = operator.Ne
operator_of prim.Lt = operator.Lt
operator_of prim.Le = operator.Le
operator_of prim.Gt = operator.Gt
operator_of prim.Ge = operator.Ge

abbrev pub expr_layer : Expr-F Expression Branch Expression Expression → Expression
expr_layer (layer.Num z l) = Num z l
expr_layer (layer.Truth b l) = Truth b l
expr_layer (layer.Var n) = Var n
expr_layer (layer.Prim o a b l) = Prim (operator_of o) a.value b.value l
expr_layer (layer.If c a b l) = If c.value a.value b.value l
expr_layer (layer.Let n v b) = Let n.value v.value b.value
expr_layer (layer.Match l e as') = Match e.value (arms as'.items) l
expr_layer (layer.Build b) = b.value
expr_layer (layer.Call c) = c.value

abbrev pub arm_layer : Arm-F Expression Branch Expression Expression → Branch
arm_layer a = record { con = a.con; fields = a.fields.items; cell = a.cell; body = a.body }

abbrev pub build_layer : Build-F Expression Branch Expression Expression → Expression
build_layer b = Build b.con (expressions b.args.items) b.place

abbrev pub call_layer : Call-F Expression Branch Expression Expression → Expression
call_layer c = Call c.fun (expressions c.args.items)

abbrev pub expression_of : Expr → Expression
expression_of = fold-Expr Expression Branch Expression Expression expr_layer arm_layer build_layer call_layer

-- the expressions that the parts of a build and of a call stand for
abbrev pub built_of : BuildParts → Expression
built_of = fold-Build Expression Branch Expression Expression expr_layer arm_layer build_layer call_layer

abbrev pub called_of : CallParts → Expression
called_of = fold-Call Expression Branch Expression Expression expr_layer arm_layer build_layer call_layer

abbrev pub branch_of : Arm → Branch
branch_of = fold-Arm Expression Branch Expression Expression expr_layer arm_layer build_layer call_layer

abbrev pub constructor_of : ConDecl → Constructor
constructor_of c = record { name = c.name; inline = c.inline; fields = c.fields.items }

abbrev pub data_type_of : TypeDecl → DataType
data_type_of t = record { name = t.name; cons = map constructor_of t.cons.items }

abbrev pub function_of : FunDecl → Function
function_of f = record { name = f.name; params = f.params.items; result = f.result; body = expression_of f.body }
