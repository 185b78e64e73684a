-- Cited by contracts.
-- What the tokens of a text give of a program's names and numbers: types, functions, parameters, variables, fields and
-- diamonds have lower names and constructors upper ones, each of at most 64 bytes, and a literal has 32 bits.
use Rattle.std.specs.Prelude.{Bool, true, ◌&&◌, Option, Some, None}
use Rattle.std.specs.List.{list_all}
use Rattle.camelot_values.specs.Value.{is_int32}
use Rattle.camelot_values.specs.Names.{is_lower_name, is_upper_name}
use Rattle.camelot_tree.specs.declared.tree.Name.{Name}
use Rattle.camelot_tree.specs.declared.tree.Atom.{Atom}
use Rattle.camelot_tree.specs.declared.tree.Atom.TheVariants as atom
use Rattle.camelot_tree.specs.declared.tree.Param.{Param}
use Rattle.camelot_tree.specs.declared.tree.ArmCell.{ArmCell}
use Rattle.camelot_tree.specs.declared.tree.ArmCell.TheVariants as cell
use Rattle.camelot_tree.specs.Tree.{Expression, Num, Truth, Var, Prim, If, Let, Match, Build, Call, Expressions, NoExpressions, AndExpression, Arms, NoArms, AndArm, Constructor, DataType, Function, Source}

-- ---- names

abbrev pub is_lower : Name → Bool
is_lower n = is_lower_name n.word

abbrev pub is_upper : Name → Bool
is_upper n = is_upper_name n.word

-- a name that may be left out
abbrev pub is_lower_or_none : Option Name → Bool
is_lower_or_none None = true
is_lower_or_none (Some n) = is_lower n

abbrev pub cell_is_named : ArmCell → Bool
cell_is_named cell.Plain = true
cell_is_named cell.Free = true
cell_is_named (cell.Keep d) = is_lower d

abbrev mutual
  pub expression_is_named : Expression → Bool
  expression_is_named (Num z l) = true
  expression_is_named (Truth b l) = true
  expression_is_named (Var n) = is_lower n
  expression_is_named (Prim op a b l) = expression_is_named a && expression_is_named b
  expression_is_named (If c a b l) = expression_is_named c && (expression_is_named a && expression_is_named b)
  expression_is_named (Let n e b) = is_lower n && (expression_is_named e && expression_is_named b)
  expression_is_named (Match e as' l) = expression_is_named e && arms_are_named as'
  expression_is_named (Build c es place) = is_upper c && (expressions_are_named es && is_lower_or_none place)
  expression_is_named (Call f es) = is_lower f && expressions_are_named es

  pub expressions_are_named : Expressions → Bool
  expressions_are_named NoExpressions = true
  expressions_are_named (AndExpression e es) = expression_is_named e && expressions_are_named es

  pub arms_are_named : Arms → Bool
  arms_are_named NoArms = true
  arms_are_named (AndArm c fs x b as') = (is_upper c && (list_all is_lower_or_none fs && (cell_is_named x && expression_is_named b))) && arms_are_named as'

abbrev pub atom_is_named : Atom → Bool
atom_is_named (atom.Named n) = is_lower n
atom_is_named atom.Int = true
atom_is_named atom.Bool = true
atom_is_named atom.Dia = true

abbrev pub written_is_named : Option Atom → Bool
written_is_named None = true
written_is_named (Some a) = atom_is_named a

abbrev pub con_is_named : Constructor → Bool
con_is_named c = is_upper c.name && list_all atom_is_named c.fields

abbrev pub type_is_named : DataType → Bool
type_is_named t = is_lower t.name && list_all con_is_named t.cons

abbrev pub param_is_named : Param → Bool
param_is_named x = is_lower x.name && written_is_named x.kind

abbrev pub fun_is_named : Function → Bool
fun_is_named f = is_lower f.name && (list_all param_is_named f.params && (written_is_named f.result && expression_is_named f.body))

-- each name in the program has its form
abbrev pub is_named : Source → Bool
is_named p = list_all type_is_named p.types && list_all fun_is_named p.funs

-- ---- literals

abbrev mutual
  pub expression_has_ints : Expression → Bool
  expression_has_ints (Num z l) = is_int32 z
  expression_has_ints (Truth b l) = true
  expression_has_ints (Var n) = true
  expression_has_ints (Prim op a b l) = expression_has_ints a && expression_has_ints b
  expression_has_ints (If c a b l) = expression_has_ints c && (expression_has_ints a && expression_has_ints b)
  expression_has_ints (Let n e b) = expression_has_ints e && expression_has_ints b
  expression_has_ints (Match e as' l) = expression_has_ints e && arms_have_ints as'
  expression_has_ints (Build c es place) = expressions_have_ints es
  expression_has_ints (Call f es) = expressions_have_ints es

  pub expressions_have_ints : Expressions → Bool
  expressions_have_ints NoExpressions = true
  expressions_have_ints (AndExpression e es) = expression_has_ints e && expressions_have_ints es

  pub arms_have_ints : Arms → Bool
  arms_have_ints NoArms = true
  arms_have_ints (AndArm c fs x b as') = expression_has_ints b && arms_have_ints as'

-- each literal in the program has 32 bits
abbrev pub has_ints : Source → Bool
has_ints p = list_all (λ f. expression_has_ints f.body) p.funs
