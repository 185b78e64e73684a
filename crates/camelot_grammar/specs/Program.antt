-- Cited by contracts. The program that a tree of the grammar stands for: what `&&`, `||`, `not` and a minus sign stand
-- for, and the line of each expression, which is that of its first token, parentheses around it left out.
use Rattle.std.specs.Prelude.{ℕ, pos, ◌-ℤ◌, Bool, true, false, List, [], ◌∷◌, ◌++◌, Option, Some, None}
use Rattle.camelot_values.specs.Operator as operator
use Rattle.camelot_values.specs.Operator.{Operator}
use Rattle.camelot_tree.specs.declared.tree.Name.{Name}
use Rattle.camelot_tree.specs.declared.tree.Atom.{Atom}
use Rattle.camelot_tree.specs.declared.tree.Atom.TheVariants as atom
use Rattle.camelot_tree.specs.declared.tree.Param.{Param}
use Rattle.camelot_tree.specs.declared.tree.ArmCell.{ArmCell}
use Rattle.camelot_tree.specs.declared.tree.ArmCell.TheVariants as cell
use Rattle.camelot_tree.specs.Tree as tree
use Rattle.camelot_tree.specs.Tree.{Expression, Branch, Constructor, DataType, Function, Source, expressions}
use Rattle.camelot_grammar.specs.Grammar.{Place, NoPlace, At, Field, Named, Blank, FieldList, OneField, MoreFields, Fields, NoFields, InParens, Cell, NoCell, AtField, ProductSign, Star, Slash, Mod, Sign, Plus, Minus, Comparison, Eq, Ne, Lt, Le, Gt, Ge, Solid, Literal, True, False, Full, Placed, Firm, Is, Paren, Units, NoUnits, AndLower, AndFirm, BareLower, BareSolid, Bare, AndUpper, BareUpper, Pre, Not, Negative, Least, Apply, ApplyBare, Con, Alone, Prod, OnePre, Times, Sum, OneProd, Adds, Cmp, OneSum, Compares, And, OneCmp, Both, Or, OneAnd, Either, Expr, Let, If, Match, Chain, Exprs, OneExpr, MoreExprs, Arms, OneArm, MoreArms, Arm, Case, WrittenAtom, Int, Bool', Dia, Of, AtomList, OneAtom, MoreAtoms, ConDecl, Inline, NoFields', WithFields, Cons, OneCon, MoreCons, Kind, NoKind, OfKind, ReadMark, NoRead, Read, WrittenParam, Simple, Marked, Params, OneParam, MoreParams, Decls, NoDecls, AndType, AndFun}

-- what an operator does with its operands
pub data Joint : Type 0 where
  Prim : Operator → Joint
  AndThen : Joint
  OrElse : Joint

-- an operand: its tree, and the line of its first token
pub record Operand : Type 0 where
  pub expression : Expression
  pub line : ℕ

-- Two operands and what joins them, in this line: `a && b` is `if a then b else false`, and `a || b` is
-- `if a then true else b`.
abbrev pub join : Joint → ℕ → Operand → Operand → Operand
join (Prim op) l a b = record { expression = tree.Prim op a.expression b.expression a.line; line = a.line }
join AndThen l a b = record { expression = tree.If a.expression b.expression (tree.Truth false l) a.line; line = a.line }
join OrElse l a b = record { expression = tree.If a.expression (tree.Truth true l) b.expression a.line; line = a.line }

-- `not a` is `if a then false else true`
abbrev pub negated : ℕ → Operand → Operand
negated l a = record { expression = tree.If a.expression (tree.Truth false l) (tree.Truth true l) l; line = l }

-- a name alone is a variable; with units behind it, it is a call
abbrev pub applied : Name → List Expression → Expression
applied f [] = tree.Var f
applied f (e ∷ es) = tree.Call f (expressions (e ∷ es))

abbrev pub product_joint : ProductSign → Joint
product_joint Star = Prim operator.Mul
product_joint Slash = Prim operator.Div
product_joint Mod = Prim operator.Mod

abbrev pub sign_joint : Sign → Joint
sign_joint Plus = Prim operator.Add
sign_joint Minus = Prim operator.Sub

abbrev pub comparison_joint : Comparison → Joint
comparison_joint Eq = Prim operator.Eq
comparison_joint Ne = Prim operator.Ne
comparison_joint Lt = Prim operator.Lt
comparison_joint Le = Prim operator.Le
comparison_joint Gt = Prim operator.Gt
comparison_joint Ge = Prim operator.Ge

abbrev pub place_name : Place → Option Name
place_name NoPlace = None
place_name (At l n) = Some n

abbrev pub field_name : Field → Option Name
field_name (Named n) = Some n
field_name (Blank l) = None

abbrev pub field_names : FieldList → List (Option Name)
field_names (OneField f) = field_name f ∷ []
field_names (MoreFields fs l f) = field_names fs ++ field_name f ∷ []

abbrev pub names_of : Fields → List (Option Name)
names_of NoFields = []
names_of (InParens l fs m) = field_names fs

abbrev pub cell_of : Cell → ArmCell
cell_of NoCell = cell.Plain
cell_of (AtField l (Named n)) = cell.Keep n
cell_of (AtField l (Blank m)) = cell.Free

abbrev mutual
  pub solid_operand : Solid → Operand
  solid_operand (Literal n l) = record { expression = tree.Num (pos n) l; line = l }
  solid_operand (True l) = record { expression = tree.Truth true l; line = l }
  solid_operand (False l) = record { expression = tree.Truth false l; line = l }
  solid_operand (Full c l es m p) = record { expression = tree.Build c (expressions (expr_trees es)) (place_name p); line = c.line }
  solid_operand (Placed c l d) = record { expression = tree.Build c tree.NoExpressions (Some d); line = c.line }

  pub firm_operand : Firm → Operand
  firm_operand (Is s) = solid_operand s
  firm_operand (Paren l e m) = record { expression = expr_tree e; line = l }

  pub unit_expressions : Units → List Expression
  unit_expressions NoUnits = []
  unit_expressions (AndLower us n) = unit_expressions us ++ tree.Var n ∷ []
  unit_expressions (AndFirm us u) = unit_expressions us ++ (firm_operand u).expression ∷ []
  unit_expressions (BareLower bs n) = bare_expressions bs ++ tree.Var n ∷ []
  unit_expressions (BareSolid bs u) = bare_expressions bs ++ (solid_operand u).expression ∷ []

  pub bare_expressions : Bare → List Expression
  bare_expressions (AndUpper us n) = unit_expressions us ++ tree.Build n tree.NoExpressions None ∷ []
  bare_expressions (BareUpper bs n) = bare_expressions bs ++ tree.Build n tree.NoExpressions None ∷ []

  pub pre_operand : Pre → Operand
  pre_operand (Not l p) = negated l (pre_operand p)
  pre_operand (Negative l n m) = record { expression = tree.Num (pos 0 -ℤ pos n) l; line = l }
  pre_operand (Least l m) = record { expression = tree.Num (pos 0 -ℤ pos 2147483648) l; line = l }
  pre_operand (Apply f us) = record { expression = applied f (unit_expressions us); line = f.line }
  pre_operand (ApplyBare f bs) = record { expression = applied f (bare_expressions bs); line = f.line }
  pre_operand (Con c) = record { expression = tree.Build c tree.NoExpressions None; line = c.line }
  pre_operand (Alone u) = firm_operand u

  pub prod_operand : Prod → Operand
  prod_operand (OnePre p) = pre_operand p
  prod_operand (Times x o l p) = join (product_joint o) l (prod_operand x) (pre_operand p)

  pub sum_operand : Sum → Operand
  sum_operand (OneProd x) = prod_operand x
  sum_operand (Adds s o l x) = join (sign_joint o) l (sum_operand s) (prod_operand x)

  pub cmp_operand : Cmp → Operand
  cmp_operand (OneSum s) = sum_operand s
  cmp_operand (Compares s o l t) = join (comparison_joint o) l (sum_operand s) (sum_operand t)

  pub and_operand : And → Operand
  and_operand (OneCmp c) = cmp_operand c
  and_operand (Both a l c) = join AndThen l (and_operand a) (cmp_operand c)

  pub or_operand : Or → Operand
  or_operand (OneAnd a) = and_operand a
  or_operand (Either o l a) = join OrElse l (or_operand o) (and_operand a)

  pub expr_tree : Expr → Expression
  expr_tree (Let l n m v i b) = tree.Let n (expr_tree v) (expr_tree b)
  expr_tree (If l c m a n b) = tree.If (expr_tree c) (expr_tree a) (expr_tree b) l
  expr_tree (Match l e m bar as' n) = tree.Match (expr_tree e) (tree.arms (branches as')) l
  expr_tree (Chain o) = (or_operand o).expression

  pub expr_trees : Exprs → List Expression
  expr_trees (OneExpr e) = expr_tree e ∷ []
  expr_trees (MoreExprs es l e) = expr_trees es ++ expr_tree e ∷ []

  pub branches : Arms → List Branch
  branches (OneArm a) = branch a ∷ []
  branches (MoreArms as' l a) = branches as' ++ branch a ∷ []

  pub branch : Arm → Branch
  branch (Case c fs at l e) = record { con = c; fields = names_of fs; cell = cell_of at; body = expr_tree e }

abbrev pub atom_of : WrittenAtom → Atom
atom_of (Int l) = atom.Int
atom_of (Bool' l) = atom.Bool
atom_of (Dia l) = atom.Dia
atom_of (Of n) = atom.Named n

abbrev pub atoms_of : AtomList → List Atom
atoms_of (OneAtom a) = atom_of a ∷ []
atoms_of (MoreAtoms as' l a) = atoms_of as' ++ atom_of a ∷ []

abbrev pub con_of : ConDecl → Constructor
con_of (Inline l n) = record { name = n; inline = true; fields = [] }
con_of (NoFields' n) = record { name = n; inline = false; fields = [] }
con_of (WithFields n l as') = record { name = n; inline = false; fields = atoms_of as' }

abbrev pub cons_of : Cons → List Constructor
cons_of (OneCon c) = con_of c ∷ []
cons_of (MoreCons cs l c) = cons_of cs ++ con_of c ∷ []

abbrev pub kind_of : Kind → Option Atom
kind_of NoKind = None
kind_of (OfKind l a) = Some (atom_of a)

abbrev pub is_read : ReadMark → Bool
is_read NoRead = false
is_read (Read l) = true

abbrev pub param_of : WrittenParam → Param
param_of (Simple n) = record { name = n; read = false; kind = None }
param_of (Marked l w n k m) = record { name = n; read = is_read w; kind = kind_of k }

abbrev pub params_of : Params → List Param
params_of (OneParam p) = param_of p ∷ []
params_of (MoreParams ps p) = params_of ps ++ param_of p ∷ []

abbrev pub types_of : Decls → List DataType
types_of NoDecls = []
types_of (AndType ds l n m cs) = types_of ds ++ record { name = n; cons = cons_of cs } ∷ []
types_of (AndFun ds l n ps k m e) = types_of ds

abbrev pub funs_of : Decls → List Function
funs_of NoDecls = []
funs_of (AndType ds l n m cs) = funs_of ds
funs_of (AndFun ds l n ps k m e) = funs_of ds ++ record { name = n; params = params_of ps; result = kind_of k; body = expr_tree e } ∷ []

abbrev pub source_of : Decls → Source
source_of ds = record { types = types_of ds; funs = funs_of ds }
