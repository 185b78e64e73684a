-- Cited by contracts: of the law `answers_of_the_machine`, and of the parser's private functions. A machine that reads
-- token by token, with a stack of what is unfinished. The grammar says what the answers mean, and knows nothing of
-- this.
use Rattle.std.specs.Prelude.{ℕ, suc, length, pos, ◌-◌, ◌-ℤ◌, nat_le, if◌then◌else◌, Bool, true, false, List, [], ◌∷◌, ◌++◌, Option, Some, None}
use Rattle.camelot_values.specs.Operator as operator
use Rattle.camelot_tree.specs.declared.tree.Name.{Name}
use Rattle.camelot_tree.specs.declared.tree.Atom.{Atom}
use Rattle.camelot_tree.specs.declared.tree.Atom.TheVariants as atom
use Rattle.camelot_tree.specs.declared.tree.Param.{Param}
use Rattle.camelot_tree.specs.declared.tree.ArmCell.{ArmCell}
use Rattle.camelot_tree.specs.declared.tree.ArmCell.TheVariants as cell
use Rattle.camelot_grammar.specs.declared.lexeme.Mark.TheVariants as mark
use Rattle.camelot_grammar.specs.declared.lexeme.Lexeme.{Lexeme}
use Rattle.camelot_grammar.specs.declared.lexeme.Lexeme.TheVariants.{Lower, Upper, Number, Greatest, Mark}
use Rattle.camelot_grammar.specs.declared.fault.ParseFault.{ParseFault}
use Rattle.camelot_grammar.specs.declared.fault.ParseFault.TheVariants as fault
use Rattle.camelot_grammar.specs.Parsing.{limit, stop_fault, first_line}
use Rattle.camelot_tree.specs.Tree as tree
use Rattle.camelot_tree.specs.Tree.{Expression, Branch, Constructor, Source, expressions, arms}
use Rattle.camelot_grammar.specs.Program.{Operand, Joint, Prim, AndThen, OrElse, join, negated, applied}

-- ---- what was read so far

-- what stands to the left of an operator, what it joins, the operator's line, and the level around what follows it
pub record Left : Type 0 where
  pub operand : Operand
  pub joint : Joint
  pub line : ℕ
  pub within : ℕ

-- the chains that are unfinished in one expression: at most one of each operator's rank; `around` is the level of the
-- expression's own tokens
pub record Lefts : Type 0 where
  pub around : ℕ
  pub ors : Option Left
  pub ands : Option Left
  pub cmp : Option Left
  pub sum : Option Left
  pub prod : Option Left

-- the place of a `pre`: the lines of the `not`s before it, last first, and the level of its tokens
pub record Slot : Type 0 where
  pub lefts : Lefts
  pub nots : List ℕ
  pub level : ℕ

-- a name with the units that stand behind it so far
pub record Callee : Type 0 where
  pub fun : Name
  pub args : List Expression

-- the place of a unit: alone, or behind a name
pub record Spot : Type 0 where
  pub slot : Slot
  pub call : Option Callee

-- a match with the arms so far
pub record Matching : Type 0 where
  pub level : ℕ
  pub line : ℕ
  pub on : Expression
  pub arms : List Branch

-- an arm before its body
pub record ArmHead : Type 0 where
  pub con : Name
  pub fields : List (Option Name)
  pub cell : ArmCell

-- the declaration of a type with the constructors so far
pub record TypeDraft : Type 0 where
  pub before : Source
  pub name : Name
  pub cons : List Constructor

-- that of a function with the parameters so far
pub record FunDraft : Type 0 where
  pub before : Source
  pub name : Name
  pub params : List Param

-- an expression that is to be finished, within what is to be finished later
pub data Frame : Type 0 where
  Body : FunDraft → Option Atom → Frame
  Paren : Spot → ℕ → Frame
  Args : Spot → Name → List Expression → Frame
  LetValue : (level : ℕ) → Name → Frame
  LetBody : Name → Expression → Frame
  IfCond : (level line : ℕ) → Frame
  IfThen : (level line : ℕ) → Expression → Frame
  IfElse : (line : ℕ) → Expression → Expression → Frame
  MatchOn : (level line : ℕ) → Frame
  ArmBody : Matching → ArmHead → Frame

-- where the machine stands in declarations
pub data DeclState : Type 0 where
  Top : Source → DeclState
  TypeName : Source → DeclState
  TypeEquals : Source → Name → DeclState
  WantCon : TypeDraft → DeclState
  InlineCon : TypeDraft → DeclState
  BareCon : TypeDraft → Name → DeclState
  WantField : TypeDraft → Name → List Atom → DeclState
  HaveField : TypeDraft → Name → List Atom → DeclState
  HaveCon : TypeDraft → DeclState
  FunName : Source → DeclState
  FirstParam : Source → Name → DeclState
  NextParam : FunDraft → DeclState
  OpenParam : FunDraft → DeclState
  ReadParam : FunDraft → DeclState
  ParamName : FunDraft → Name → Bool → DeclState
  ParamKind : FunDraft → Name → Bool → DeclState
  ParamClose : FunDraft → Param → DeclState
  ResultKind : FunDraft → DeclState
  ResultEquals : FunDraft → Atom → DeclState

-- in expressions
pub data ExprState : Type 0 where
  Want : (around : ℕ) → ExprState
  LetName : (level : ℕ) → ExprState
  LetEquals : (level : ℕ) → Name → ExprState
  WantPre : Lefts → List ℕ → (around : ℕ) → ExprState
  Negative : Slot → ℕ → ExprState
  Applied : Slot → Name → List Expression → ExprState
  Have : Slot → Operand → ExprState
  Con : Spot → Name → ExprState
  Full : Spot → Name → List Expression → ExprState
  Placed : Spot → Name → List Expression → ExprState
  Whole : Expression → ExprState

-- in the head of an arm
pub data ArmState : Type 0 where
  FirstArm : Matching → ArmState
  WantArm : Matching → ArmState
  ArmCon : Matching → Name → ArmState
  WantName : Matching → Name → List (Option Name) → ArmState
  HaveName : Matching → Name → List (Option Name) → ArmState
  HaveNames : Matching → Name → List (Option Name) → ArmState
  WantCell : Matching → Name → List (Option Name) → ArmState
  WantArrow : Matching → ArmHead → ArmState

pub data State : Type 0 where
  InDecl : DeclState → State
  InExpr : ExprState → State
  InArm : ArmState → State
  Finished : Source → State

-- one token: none may stand here, or its level, and the state and the stack behind it
pub data Step : Type 0 where
  Stuck : Step
  Goes : (level : ℕ) → State → List Frame → Step

-- ---- what is finished

abbrev pub finished : Option Left → Operand → Operand
finished None a = a
finished (Some l) a = join l.joint l.line l.operand a

abbrev pub negated_all : List ℕ → Operand → Operand
negated_all [] a = a
negated_all (l ∷ ls) a = negated_all ls (negated l a)

-- the level around what follows
abbrev pub within : Option Left → ℕ → ℕ
within None k = k
within (Some l) k = l.within

-- what stands to the left of an operator at this level
abbrev pub left : Operand → Joint → ℕ → ℕ → Option Left
left a j l k = Some (record { operand = a; joint = j; line = l; within = suc k })

abbrev pub type_done : TypeDraft → Source
type_done d = record { types = d.before.types ++ record { name = d.name; cons = d.cons } ∷ []; funs = d.before.funs }

abbrev pub with_con : TypeDraft → Name → Bool → List Atom → TypeDraft
with_con d n b as' = record { before = d.before; name = d.name; cons = d.cons ++ record { name = n; inline = b; fields = as' } ∷ [] }

abbrev pub with_param : FunDraft → Param → FunDraft
with_param d p = record { before = d.before; name = d.name; params = d.params ++ p ∷ [] }

abbrev pub fun_done : FunDraft → Option Atom → Expression → Source
fun_done d r e = record { types = d.before.types; funs = d.before.funs ++ record { name = d.name; params = d.params; result = r; body = e } ∷ [] }

abbrev pub with_arm : Matching → ArmHead → Expression → Matching
with_arm m h e = record { level = m.level; line = m.line; on = m.on; arms = m.arms ++ record { con = h.con; fields = h.fields; cell = h.cell; body = e } ∷ [] }

-- a unit is read: behind a name it is one more of its units
abbrev pub unit_of : Option Callee → Slot → Operand → ExprState
unit_of None s a = Have s a
unit_of (Some c) s a = Applied s c.fun (c.args ++ a.expression ∷ [])

abbrev pub unit_done : Spot → Operand → ExprState
unit_done s a = unit_of s.call s.slot a

abbrev pub built : Name → List Expression → Option Name → Operand
built c es p = record { expression = tree.Build c (expressions es) p; line = c.line }

abbrev pub applied_operand : Name → List Expression → Operand
applied_operand f es = record { expression = applied f es; line = f.line }

-- ---- steps in declarations

unfoldable pub top_step : Source → Lexeme → List Frame → Step
top_step p (Mark mark.Type l) st = Goes 0 (InDecl (TypeName p)) st
top_step p (Mark mark.Let l) st = Goes 0 (InDecl (FunName p)) st
top_step p (Mark mark.EndOfText l) st = Goes 0 (Finished p) st
top_step p t st = Stuck

unfoldable pub con_step : TypeDraft → Lexeme → List Frame → Step
con_step d (Mark mark.Bar l) st = Goes 0 (InDecl (WantCon d)) st
con_step d t st = top_step (type_done d) t st

abbrev pub lexeme_atom : Lexeme → Option Atom
lexeme_atom (Mark mark.Int l) = Some atom.Int
lexeme_atom (Mark mark.Bool l) = Some atom.Bool
lexeme_atom (Mark mark.Diamond l) = Some atom.Dia
lexeme_atom (Lower n) = Some (atom.Named n)
lexeme_atom t = None

-- with the atom that the token is, where it is one
abbrev pub on_atom : Option Atom → (Atom → DeclState) → List Frame → Step
on_atom None next st = Stuck
on_atom (Some a) next st = Goes 0 (InDecl (next a)) st

unfoldable pub type_step : DeclState → Lexeme → List Frame → Step
type_step (TypeName p) (Lower n) st = Goes 0 (InDecl (TypeEquals p n)) st
type_step (TypeEquals p n) (Mark mark.Equal l) st = Goes 0 (InDecl (WantCon (record { before = p; name = n; cons = [] }))) st
type_step (WantCon d) (Mark mark.Bang l) st = Goes 0 (InDecl (InlineCon d)) st
type_step (WantCon d) (Upper n) st = Goes 0 (InDecl (BareCon d n)) st
type_step (InlineCon d) (Upper n) st = Goes 0 (InDecl (HaveCon (with_con d n true []))) st
type_step (BareCon d n) (Mark mark.Of l) st = Goes 0 (InDecl (WantField d n [])) st
type_step (BareCon d n) t st = con_step (with_con d n false []) t st
type_step (WantField d n as') t st = on_atom (lexeme_atom t) (λ a. HaveField d n (as' ++ a ∷ [])) st
type_step (HaveField d n as') (Mark mark.Star l) st = Goes 0 (InDecl (WantField d n as')) st
type_step (HaveField d n as') t st = con_step (with_con d n false as') t st
type_step (HaveCon d) t st = con_step d t st
type_step s t st = Stuck

unfoldable pub param_step : DeclState → Lexeme → List Frame → Step
param_step (OpenParam d) (Mark mark.Read l) st = Goes 0 (InDecl (ReadParam d)) st
param_step (OpenParam d) (Lower n) st = Goes 0 (InDecl (ParamName d n false)) st
param_step (ReadParam d) (Lower n) st = Goes 0 (InDecl (ParamName d n true)) st
param_step (ParamName d n b) (Mark mark.Colon l) st = Goes 0 (InDecl (ParamKind d n b)) st
param_step (ParamName d n b) (Mark mark.Close l) st = Goes 0 (InDecl (NextParam (with_param d (record { name = n; read = b; kind = None })))) st
param_step (ParamKind d n b) t st = on_atom (lexeme_atom t) (λ a. ParamClose d (record { name = n; read = b; kind = Some a })) st
param_step (ParamClose d p) (Mark mark.Close l) st = Goes 0 (InDecl (NextParam (with_param d p))) st
param_step s t st = Stuck

unfoldable pub fun_step : DeclState → Lexeme → List Frame → Step
fun_step (FunName p) (Lower n) st = Goes 0 (InDecl (FirstParam p n)) st
fun_step (FirstParam p n) (Lower x) st = Goes 0 (InDecl (NextParam (record { before = p; name = n; params = record { name = x; read = false; kind = None } ∷ [] }))) st
fun_step (FirstParam p n) (Mark mark.Open l) st = Goes 0 (InDecl (OpenParam (record { before = p; name = n; params = [] }))) st
fun_step (NextParam d) (Lower x) st = Goes 0 (InDecl (NextParam (with_param d (record { name = x; read = false; kind = None })))) st
fun_step (NextParam d) (Mark mark.Open l) st = Goes 0 (InDecl (OpenParam d)) st
fun_step (NextParam d) (Mark mark.Colon l) st = Goes 0 (InDecl (ResultKind d)) st
fun_step (NextParam d) (Mark mark.Equal l) st = Goes 0 (InExpr (Want 0)) (Body d None ∷ st)
fun_step (ResultKind d) t st = on_atom (lexeme_atom t) (λ a. ResultEquals d a) st
fun_step (ResultEquals d a) (Mark mark.Equal l) st = Goes 0 (InExpr (Want 0)) (Body d (Some a) ∷ st)
fun_step s t st = Stuck

unfoldable pub decl_step : DeclState → Lexeme → List Frame → Step
decl_step (Top p) t st = top_step p t st
decl_step (TypeName p) t st = type_step (TypeName p) t st
decl_step (TypeEquals p n) t st = type_step (TypeEquals p n) t st
decl_step (WantCon d) t st = type_step (WantCon d) t st
decl_step (InlineCon d) t st = type_step (InlineCon d) t st
decl_step (BareCon d n) t st = type_step (BareCon d n) t st
decl_step (WantField d n as') t st = type_step (WantField d n as') t st
decl_step (HaveField d n as') t st = type_step (HaveField d n as') t st
decl_step (HaveCon d) t st = type_step (HaveCon d) t st
decl_step (FunName p) t st = fun_step (FunName p) t st
decl_step (FirstParam p n) t st = fun_step (FirstParam p n) t st
decl_step (NextParam d) t st = fun_step (NextParam d) t st
decl_step (ResultKind d) t st = fun_step (ResultKind d) t st
decl_step (ResultEquals d a) t st = fun_step (ResultEquals d a) t st
decl_step (OpenParam d) t st = param_step (OpenParam d) t st
decl_step (ReadParam d) t st = param_step (ReadParam d) t st
decl_step (ParamName d n b) t st = param_step (ParamName d n b) t st
decl_step (ParamKind d n b) t st = param_step (ParamKind d n b) t st
decl_step (ParamClose d p) t st = param_step (ParamClose d p) t st

-- ---- steps behind a whole expression

unfoldable pub close_in : Frame → Expression → Lexeme → List Frame → Step
close_in (Body d r) e t st = top_step (fun_done d r e) t st
close_in (Paren s l) e (Mark mark.Close m) st = Goes s.slot.level (InExpr (unit_done s (record { expression = e; line = l }))) st
close_in (Args s c es) e (Mark mark.Comma m) st = Goes s.slot.level (InExpr (Want s.slot.level)) (Args s c (es ++ e ∷ []) ∷ st)
close_in (Args s c es) e (Mark mark.Close m) st = Goes s.slot.level (InExpr (Full s c (es ++ e ∷ []))) st
close_in (LetValue k n) e (Mark mark.In m) st = Goes k (InExpr (Want k)) (LetBody n e ∷ st)
close_in (IfCond k l) e (Mark mark.Then m) st = Goes k (InExpr (Want k)) (IfThen k l e ∷ st)
close_in (IfThen k l c) e (Mark mark.Else m) st = Goes k (InExpr (Want k)) (IfElse l c e ∷ st)
close_in (MatchOn k l) e (Mark mark.With m) st = Goes k (InArm (FirstArm (record { level = k; line = l; on = e; arms = [] }))) st
close_in (ArmBody m h) e (Mark mark.Bar l) st = Goes m.level (InArm (WantArm (with_arm m h e))) st
close_in (ArmBody m h) e (Mark mark.End l) st = Goes m.level (InExpr (Whole (tree.Match m.on (arms (with_arm m h e).arms) m.line))) st
close_in f e t st = Stuck

-- the bodies of `let` and `else` end where what is around them goes on: the `let` or `if` that ends with an expression
abbrev pub enclosed : Frame → Expression → Option Expression
enclosed (LetBody n v) e = Some (tree.Let n v e)
enclosed (IfElse l c a) e = Some (tree.If c a e l)
enclosed f e = None

-- the innermost frame whose expression has an end of its own, with that expression and the frames below
pub data Unwound : Type 0 where
  Nowhere : Unwound
  Inside : Frame → Expression → List Frame → Unwound

abbrev pub on_enclosed : Option Expression → (Expression → Unwound) → Unwound → Unwound
on_enclosed None next here = here
on_enclosed (Some e) next here = next e

unfoldable pub unwind : List Frame → Expression → Unwound
unwind [] e = Nowhere
unwind (f ∷ st) e = on_enclosed (enclosed f e) (λ whole. unwind st whole) (Inside f e st)

abbrev pub closed : Unwound → Lexeme → Step
closed Nowhere t = Stuck
closed (Inside f e st) t = close_in f e t st

unfoldable pub close : List Frame → Expression → Lexeme → Step
close st e t = closed (unwind st e) t

-- ---- steps behind an operand: an operator ends the chains of higher ranks; `k` is the level of the expression's own
-- tokens, and then come the unfinished chains that are left

abbrev pub lefts : ℕ → (ors ands cmp sum prod : Option Left) → Lefts
lefts k o a c s p = record { around = k; ors = o; ands = a; cmp = c; sum = s; prod = p }

-- an operator of this level, and a `pre` behind it
abbrev pub operator_read : ℕ → Lefts → List Frame → Step
operator_read k c st = Goes k (InExpr (WantPre c [] (suc k))) st

unfoldable pub after_and : ℕ → (ors : Option Left) → Operand → Lexeme → List Frame → Step
after_and k o x (Mark mark.OrOr l) st = operator_read (within o k) (lefts k (left (finished o x) OrElse l (within o k)) None None None None) st
after_and k o x t st = close st (finished o x).expression t

unfoldable pub after_cmp : ℕ → (ors ands : Option Left) → Operand → Lexeme → List Frame → Step
after_cmp k o a x (Mark mark.AndAnd l) st =
    operator_read (within a (within o k)) (lefts k o (left (finished a x) AndThen l (within a (within o k))) None None None) st
after_cmp k o a x t st = after_and k o (finished a x) t st

-- a chain of comparisons has at most one
abbrev pub compares : ℕ → (ors ands cmp : Option Left) → Operand → Joint → ℕ → List Frame → Step
compares k o a None x j l st = operator_read (within a (within o k)) (lefts k o a (left x j l (within a (within o k))) None None) st
compares k o a (Some before) x j l st = Stuck

unfoldable pub after_sum : ℕ → (ors ands cmp : Option Left) → Operand → Lexeme → List Frame → Step
after_sum k o a c x (Mark mark.Equal l) st = compares k o a c x (Prim operator.Eq) l st
after_sum k o a c x (Mark mark.Diamond l) st = compares k o a c x (Prim operator.Ne) l st
after_sum k o a c x (Mark mark.Less l) st = compares k o a c x (Prim operator.Lt) l st
after_sum k o a c x (Mark mark.LessEqual l) st = compares k o a c x (Prim operator.Le) l st
after_sum k o a c x (Mark mark.Greater l) st = compares k o a c x (Prim operator.Gt) l st
after_sum k o a c x (Mark mark.GreaterEqual l) st = compares k o a c x (Prim operator.Ge) l st
after_sum k o a c x t st = after_cmp k o a (finished c x) t st

-- the level of the next sign in a sum
abbrev pub sum_level : ℕ → (ors ands cmp sum : Option Left) → ℕ
sum_level k o a c s = within s (within c (within a (within o k)))

abbrev pub adds : ℕ → (ors ands cmp sum : Option Left) → Operand → Joint → ℕ → List Frame → Step
adds k o a c s x j l st = operator_read (sum_level k o a c s) (lefts k o a c (left (finished s x) j l (sum_level k o a c s)) None) st

unfoldable pub after_prod : ℕ → (ors ands cmp sum : Option Left) → Operand → Lexeme → List Frame → Step
after_prod k o a c s x (Mark mark.Plus l) st = adds k o a c s x (Prim operator.Add) l st
after_prod k o a c s x (Mark mark.Minus l) st = adds k o a c s x (Prim operator.Sub) l st
after_prod k o a c s x t st = after_sum k o a c (finished s x) t st

-- the level of the next operator in a product
abbrev pub prod_level : Lefts → ℕ
prod_level c = within c.prod (sum_level c.around c.ors c.ands c.cmp c.sum)

abbrev pub multiplies : Lefts → Operand → Joint → ℕ → List Frame → Step
multiplies c x j l st = operator_read (prod_level c) (lefts c.around c.ors c.ands c.cmp c.sum (left (finished c.prod x) j l (prod_level c))) st

unfoldable pub after_pre : Lefts → Operand → Lexeme → List Frame → Step
after_pre c x (Mark mark.Star l) st = multiplies c x (Prim operator.Mul) l st
after_pre c x (Mark mark.Slash l) st = multiplies c x (Prim operator.Div) l st
after_pre c x (Mark mark.Mod l) st = multiplies c x (Prim operator.Mod) l st
after_pre c x t st = after_prod c.around c.ors c.ands c.cmp c.sum (finished c.prod x) t st

unfoldable pub after_operand : Slot → Operand → Lexeme → List Frame → Step
after_operand s x t st = after_pre s.lefts (negated_all s.nots x) t st

-- ---- steps at and behind a unit

-- whether a unit that isn't a name begins so
abbrev pub begins_unit : Lexeme → Bool
begins_unit (Number n l) = true
begins_unit (Upper n) = true
begins_unit (Mark mark.True l) = true
begins_unit (Mark mark.False l) = true
begins_unit (Mark mark.Open l) = true
begins_unit t = false

abbrev pub begins_argument : Lexeme → Bool
begins_argument (Lower n) = true
begins_argument t = begins_unit t

abbrev pub begins_pre : Lexeme → Bool
begins_pre (Mark mark.Not l) = true
begins_pre (Mark mark.Minus l) = true
begins_pre t = begins_argument t

unfoldable pub unit_step : Spot → Lexeme → List Frame → Step
unit_step s (Number n l) st = Goes s.slot.level (InExpr (unit_done s (record { expression = tree.Num (pos n) l; line = l }))) st
unit_step s (Mark mark.True l) st = Goes s.slot.level (InExpr (unit_done s (record { expression = tree.Truth true l; line = l }))) st
unit_step s (Mark mark.False l) st = Goes s.slot.level (InExpr (unit_done s (record { expression = tree.Truth false l; line = l }))) st
unit_step s (Upper n) st = Goes s.slot.level (InExpr (Con s n)) st
unit_step s (Mark mark.Open l) st = Goes s.slot.level (InExpr (Want s.slot.level)) (Paren s l ∷ st)
unit_step s t st = Stuck

unfoldable pub argument_step : Slot → Name → List Expression → Lexeme → List Frame → Step
argument_step s f es (Lower n) st = Goes s.level (InExpr (Applied s f (es ++ tree.Var n ∷ []))) st
argument_step s f es t st = unit_step (record { slot = s; call = Some (record { fun = f; args = es }) }) t st

unfoldable pub applied_step : Slot → Name → List Expression → Lexeme → List Frame → Step
applied_step s f es t st = if begins_argument t then argument_step s f es t st else after_operand s (applied_operand f es) t st

abbrev pub after_unit_of : Option Callee → Slot → Operand → Lexeme → List Frame → Step
after_unit_of None s a t st = after_operand s a t st
after_unit_of (Some c) s a t st = applied_step s c.fun (c.args ++ a.expression ∷ []) t st

unfoldable pub after_unit : Spot → Operand → Lexeme → List Frame → Step
after_unit s a t st = after_unit_of s.call s.slot a t st

unfoldable pub con_unit_step : Spot → Name → Lexeme → List Frame → Step
con_unit_step s c (Mark mark.Open l) st = Goes s.slot.level (InExpr (Want s.slot.level)) (Args s c [] ∷ st)
con_unit_step s c (Mark mark.At l) st = Goes s.slot.level (InExpr (Placed s c [])) st
con_unit_step s c t st = after_unit s (built c [] None) t st

unfoldable pub full_step : Spot → Name → List Expression → Lexeme → List Frame → Step
full_step s c es (Mark mark.At l) st = Goes s.slot.level (InExpr (Placed s c es)) st
full_step s c es t st = after_unit s (built c es None) t st

unfoldable pub placed_step : Spot → Name → List Expression → Lexeme → List Frame → Step
placed_step s c es (Lower d) st = Goes s.slot.level (InExpr (unit_done s (built c es (Some d)))) st
placed_step s c es t st = Stuck

-- ---- steps at the beginning of an expression

-- the tokens of a `pre` have the level `s.level`
unfoldable pub slot_step : Slot → Lexeme → List Frame → Step
slot_step s (Mark mark.Not l) st = Goes s.level (InExpr (WantPre s.lefts (l ∷ s.nots) s.level)) st
slot_step s (Mark mark.Minus l) st = Goes s.level (InExpr (Negative s l)) st
slot_step s (Lower n) st = Goes s.level (InExpr (Applied s n [])) st
slot_step s t st = unit_step (record { slot = s; call = None }) t st

unfoldable pub pre_step : Lefts → List ℕ → ℕ → Lexeme → List Frame → Step
pre_step c nots k t st = if begins_pre t then slot_step (record { lefts = c; nots = nots; level = suc k }) t st else Stuck

unfoldable pub want_step : ℕ → Lexeme → List Frame → Step
want_step k (Mark mark.Let l) st = Goes (suc k) (InExpr (LetName (suc k))) st
want_step k (Mark mark.If l) st = Goes (suc k) (InExpr (Want (suc k))) (IfCond (suc k) l ∷ st)
want_step k (Mark mark.Match l) st = Goes (suc k) (InExpr (Want (suc k))) (MatchOn (suc k) l ∷ st)
want_step k t st = pre_step (lefts (suc k) None None None None None) [] (suc k) t st

unfoldable pub negative_step : Slot → ℕ → Lexeme → List Frame → Step
negative_step s l (Number n m) st = Goes s.level (InExpr (Have s (record { expression = tree.Num (pos 0 -ℤ pos n) l; line = l }))) st
negative_step s l (Greatest m) st = Goes s.level (InExpr (Have s (record { expression = tree.Num (pos 0 -ℤ pos 2147483648) l; line = l }))) st
negative_step s l t st = Stuck

unfoldable pub let_step : ExprState → Lexeme → List Frame → Step
let_step (LetName k) (Lower n) st = Goes k (InExpr (LetEquals k n)) st
let_step (LetEquals k n) (Mark mark.Equal l) st = Goes k (InExpr (Want k)) (LetValue k n ∷ st)
let_step s t st = Stuck

unfoldable pub expr_step : ExprState → Lexeme → List Frame → Step
expr_step (Want k) t st = want_step k t st
expr_step (LetName k) t st = let_step (LetName k) t st
expr_step (LetEquals k n) t st = let_step (LetEquals k n) t st
expr_step (WantPre c nots k) t st = pre_step c nots k t st
expr_step (Negative s l) t st = negative_step s l t st
expr_step (Applied s f es) t st = applied_step s f es t st
expr_step (Have s a) t st = after_operand s a t st
expr_step (Con s c) t st = con_unit_step s c t st
expr_step (Full s c es) t st = full_step s c es t st
expr_step (Placed s c es) t st = placed_step s c es t st
expr_step (Whole e) t st = close st e t

-- ---- steps in the head of an arm

abbrev pub head : Name → List (Option Name) → ArmCell → ArmHead
head c fs at = record { con = c; fields = fs; cell = at }

unfoldable pub arm_name_step : Matching → Name → List (Option Name) → Lexeme → List Frame → Step
arm_name_step m c fs (Lower n) st = Goes m.level (InArm (HaveName m c (fs ++ Some n ∷ []))) st
arm_name_step m c fs (Mark mark.Blank l) st = Goes m.level (InArm (HaveName m c (fs ++ None ∷ []))) st
arm_name_step m c fs t st = Stuck

unfoldable pub arrow_step : Matching → ArmHead → Lexeme → List Frame → Step
arrow_step m h (Mark mark.Arrow l) st = Goes m.level (InExpr (Want m.level)) (ArmBody m h ∷ st)
arrow_step m h t st = Stuck

unfoldable pub arm_end_step : Matching → Name → List (Option Name) → Lexeme → List Frame → Step
arm_end_step m c fs (Mark mark.At l) st = Goes m.level (InArm (WantCell m c fs)) st
arm_end_step m c fs t st = arrow_step m (head c fs cell.Plain) t st

unfoldable pub arm_step : ArmState → Lexeme → List Frame → Step
arm_step (FirstArm m) (Mark mark.Bar l) st = Goes m.level (InArm (WantArm m)) st
arm_step (FirstArm m) (Upper n) st = Goes m.level (InArm (ArmCon m n)) st
arm_step (WantArm m) (Upper n) st = Goes m.level (InArm (ArmCon m n)) st
arm_step (ArmCon m c) (Mark mark.Open l) st = Goes m.level (InArm (WantName m c [])) st
arm_step (ArmCon m c) t st = arm_end_step m c [] t st
arm_step (WantName m c fs) t st = arm_name_step m c fs t st
arm_step (HaveName m c fs) (Mark mark.Comma l) st = Goes m.level (InArm (WantName m c fs)) st
arm_step (HaveName m c fs) (Mark mark.Close l) st = Goes m.level (InArm (HaveNames m c fs)) st
arm_step (HaveNames m c fs) t st = arm_end_step m c fs t st
arm_step (WantCell m c fs) (Lower n) st = Goes m.level (InArm (WantArrow m (head c fs (cell.Keep n)))) st
arm_step (WantCell m c fs) (Mark mark.Blank l) st = Goes m.level (InArm (WantArrow m (head c fs cell.Free))) st
arm_step (WantArrow m h) t st = arrow_step m h t st
arm_step s t st = Stuck

-- ---- a whole run

unfoldable pub step : State → Lexeme → List Frame → Step
step (InDecl s) t st = decl_step s t st
step (InExpr s) t st = expr_step s t st
step (InArm s) t st = arm_step s t st
step (Finished p) t st = Stuck

-- a step within the limit
pub data Move : Type 0 where
  Stops : Move
  Sinks : Move
  Moves : State → List Frame → Move

abbrev pub limited : Step → Move
limited Stuck = Stops
limited (Goes k s st) = if nat_le k limit then Moves s st else Sinks

-- what a run comes to: a program, or the tokens from the first one on that doesn't go on or is too deep
pub data Result : Type 0 where
  Yes : Source → Result
  Stopped : List Lexeme → Result
  TooDeep : List Lexeme → Result

-- the end of the text is no token of it
unfoldable pub advance : State → Lexeme → List Frame → Step
advance s (Mark mark.EndOfText l) st = Stuck
advance s t st = step s t st

abbrev pub onward : Move → (State → List Frame → Result) → List Lexeme → Result
onward Stops next ts = Stopped ts
onward Sinks next ts = TooDeep ts
onward (Moves s st) next ts = next s st

abbrev pub ending : Move → Result
ending (Moves (Finished p) st) = Yes p
ending m = Stopped []

abbrev pub runs : State → List Frame → List Lexeme → Result
runs s st [] = ending (limited (step s (Mark mark.EndOfText 0) st))
runs s st (t ∷ ts) = onward (limited (advance s t st)) (λ s2 st2. runs s2 st2 ts) (t ∷ ts)

abbrev pub nothing : Source
nothing = record { types = []; funs = [] }

abbrev pub start : State
start = InDecl (Top nothing)

-- the fault of a run over so many tokens, where `last` is the line of the text's last byte
abbrev pub fault_of : (count last : ℕ) → Result → Option ParseFault
fault_of count last (Yes p) = None
fault_of count last (Stopped rest) = Some (stop_fault rest (count - length rest) (first_line rest last))
fault_of count last (TooDeep rest) = Some (fault.TooDeep (count - length rest) (first_line rest last))
