-- The machine's states with trees of the grammar in them: what each stands for, and what was read up to it.
use Rattle.std.proofs.Common.{ℕ, suc, true, List, [], ◌∷◌, ◌++◌, Option, Some, None}
use Rattle.camelot_tree.specs.declared.tree.Name.{Name}
use Rattle.camelot_tree.specs.declared.tree.Atom.{Atom}
use Rattle.camelot_tree.specs.declared.tree.Param.{Param}
use Rattle.camelot_grammar.specs.declared.lexeme.Mark.TheVariants as mark
use Rattle.camelot_grammar.specs.declared.lexeme.Lexeme.{Lexeme}
use Rattle.camelot_grammar.specs.declared.lexeme.Lexeme.TheVariants.{Lower, Upper, Mark}
use Rattle.camelot_tree.specs.Tree.{Expression, Branch, Constructor}
use Rattle.camelot_grammar.specs.Grammar as gr
use Rattle.camelot_grammar.specs.Program as pr
use Rattle.camelot_grammar.specs.Levels as lv
use Rattle.camelot_grammar.specs.Machine as mc
use Rattle.camelot_grammar.specs.Machine.{State, InDecl, InExpr, InArm, Finished, Frame, Left, Lefts, Slot, Spot, Callee, TypeDraft, FunDraft}

-- ---- unfinished chains

pub data ProdLeft : Type 0 where
  NoProd : ProdLeft
  ProdSign : gr.Prod → gr.ProductSign → ℕ → ProdLeft

pub data SumLeft : Type 0 where
  NoSum : SumLeft
  SumSign : gr.Sum → gr.Sign → ℕ → SumLeft

pub data CmpLeft : Type 0 where
  NoCmp : CmpLeft
  CmpSign : gr.Sum → gr.Comparison → ℕ → CmpLeft

pub data AndLeft : Type 0 where
  NoAnd : AndLeft
  AndSign : gr.And → ℕ → AndLeft

pub data OrLeft : Type 0 where
  NoOr : OrLeft
  OrSign : gr.Or → ℕ → OrLeft

abbrev pub prod_left : ProdLeft → ℕ → Option Left
prod_left NoProd k = None
prod_left (ProdSign y x l) k = mc.left (pr.prod_operand y) (pr.product_joint x) l (lv.in_prod y k)

abbrev pub sum_left : SumLeft → ℕ → Option Left
sum_left NoSum k = None
sum_left (SumSign y x l) k = mc.left (pr.sum_operand y) (pr.sign_joint x) l (lv.in_sum y k)

abbrev pub cmp_left : CmpLeft → ℕ → Option Left
cmp_left NoCmp k = None
cmp_left (CmpSign y x l) k = mc.left (pr.sum_operand y) (pr.comparison_joint x) l k

abbrev pub and_left : AndLeft → ℕ → Option Left
and_left NoAnd k = None
and_left (AndSign y l) k = mc.left (pr.and_operand y) pr.AndThen l (lv.in_and y k)

abbrev pub or_left : OrLeft → ℕ → Option Left
or_left NoOr k = None
or_left (OrSign y l) k = mc.left (pr.or_operand y) pr.OrElse l (lv.in_or y k)

abbrev pub prod_before : ProdLeft → List Lexeme → List Lexeme
prod_before NoProd r = r
prod_before (ProdSign y x l) r = gr.spell_prod y (gr.product_mark x l ∷ r)

abbrev pub sum_before : SumLeft → List Lexeme → List Lexeme
sum_before NoSum r = r
sum_before (SumSign y x l) r = gr.spell_sum y (gr.sign_mark x l ∷ r)

abbrev pub cmp_before : CmpLeft → List Lexeme → List Lexeme
cmp_before NoCmp r = r
cmp_before (CmpSign y x l) r = gr.spell_sum y (gr.comparison_mark x l ∷ r)

abbrev pub and_before : AndLeft → List Lexeme → List Lexeme
and_before NoAnd r = r
and_before (AndSign y l) r = gr.spell_and y (Mark mark.AndAnd l ∷ r)

abbrev pub or_before : OrLeft → List Lexeme → List Lexeme
or_before NoOr r = r
or_before (OrSign y l) r = gr.spell_or y (Mark mark.OrOr l ∷ r)

-- the level around, and the chains
pub data Chains : Type 0 where
  MkChains : (k : ℕ) → OrLeft → AndLeft → CmpLeft → SumLeft → ProdLeft → Chains

abbrev pub or_of : ℕ → OrLeft → ℕ
or_of k o = mc.within (or_left o k) k

abbrev pub and_of : ℕ → OrLeft → AndLeft → ℕ
and_of k o a = mc.within (and_left a (or_of k o)) (or_of k o)

abbrev pub cmp_of : ℕ → OrLeft → AndLeft → CmpLeft → ℕ
cmp_of k o a c = mc.within (cmp_left c (and_of k o a)) (and_of k o a)

abbrev pub sum_of : ℕ → OrLeft → AndLeft → CmpLeft → SumLeft → ℕ
sum_of k o a c s = mc.within (sum_left s (cmp_of k o a c)) (cmp_of k o a c)

abbrev pub prod_of : ℕ → OrLeft → AndLeft → CmpLeft → SumLeft → ProdLeft → ℕ
prod_of k o a c s x = mc.within (prod_left x (sum_of k o a c s)) (sum_of k o a c s)

abbrev pub chains_lefts : Chains → Lefts
chains_lefts (MkChains k o a c s x) =
    mc.lefts k (or_left o k) (and_left a (or_of k o)) (cmp_left c (and_of k o a)) (sum_left s (cmp_of k o a c)) (prod_left x (sum_of k o a c s))

-- the level around the next `pre`, `not`s left out
abbrev pub chains_level : Chains → ℕ
chains_level (MkChains k o a c s x) = prod_of k o a c s x

abbrev pub chains_before : Chains → List Lexeme → List Lexeme
chains_before (MkChains k o a c s x) r = or_before o (and_before a (cmp_before c (sum_before s (prod_before x r))))

-- each `not` is one level more
abbrev pub under : List ℕ → ℕ → ℕ
under [] k = k
under (l ∷ ls) k = suc (under ls k)

abbrev pub nots_before : List ℕ → List Lexeme → List Lexeme
nots_before [] r = r
nots_before (l ∷ ls) r = nots_before ls (Mark mark.Not l ∷ r)

abbrev pub slot_of : Chains → List ℕ → Slot
slot_of c nots = record { lefts = chains_lefts c; nots = nots; level = suc (under nots (chains_level c)) }

abbrev pub slot_before : Chains → List ℕ → List Lexeme → List Lexeme
slot_before c nots r = chains_before c (nots_before nots r)

-- ---- units

-- the name that a unit stands behind
pub data FirmCall : Type 0 where
  NoCall : FirmCall
  Behind : Name → gr.Units → FirmCall

pub data Call : Type 0 where
  Firm : FirmCall → Call
  BehindBare : Name → gr.Bare → Call

abbrev pub callee_of : Call → Option Callee
callee_of (Firm NoCall) = None
callee_of (Firm (Behind f us)) = Some (record { fun = f; args = pr.unit_expressions us })
callee_of (BehindBare f bs) = Some (record { fun = f; args = pr.bare_expressions bs })

abbrev pub call_before : Call → List Lexeme → List Lexeme
call_before (Firm NoCall) r = r
call_before (Firm (Behind f us)) r = Lower f ∷ gr.spell_units us r
call_before (BehindBare f bs) r = Lower f ∷ gr.spell_bare bs r

abbrev pub spot_of : Chains → List ℕ → Call → Spot
spot_of c nots x = record { slot = slot_of c nots; call = callee_of x }

abbrev pub spot_before : Chains → List ℕ → Call → List Lexeme → List Lexeme
spot_before c nots x r = slot_before c nots (call_before x r)

-- the arguments of a constructor so far
pub data SomeExprs : Type 0 where
  NoExprs : SomeExprs
  ExprsComma : gr.Exprs → ℕ → SomeExprs

abbrev pub some_expressions : SomeExprs → List Expression
some_expressions NoExprs = []
some_expressions (ExprsComma es l) = pr.expr_trees es

abbrev pub some_before : SomeExprs → List Lexeme → List Lexeme
some_before NoExprs r = r
some_before (ExprsComma es l) r = gr.spell_exprs es (Mark mark.Comma l ∷ r)

abbrev pub more_exprs : SomeExprs → gr.Expr → gr.Exprs
more_exprs NoExprs e = gr.OneExpr e
more_exprs (ExprsComma es l) e = gr.MoreExprs es l e

-- ---- matches

pub data SomeArms : Type 0 where
  NoArms : gr.FirstBar → SomeArms
  ArmsBar : gr.FirstBar → gr.Arms → ℕ → SomeArms

pub data Matching : Type 0 where
  MkMatching : (k l : ℕ) → gr.Expr → ℕ → SomeArms → Matching

abbrev pub some_branches : SomeArms → List Branch
some_branches (NoArms bar) = []
some_branches (ArmsBar bar as' l) = pr.branches as'

abbrev pub arms_before : SomeArms → List Lexeme → List Lexeme
arms_before (NoArms bar) r = gr.spell_bar bar r
arms_before (ArmsBar bar as' l) r = gr.spell_bar bar (gr.spell_arms as' (Mark mark.Bar l ∷ r))

abbrev pub matching_of : Matching → mc.Matching
matching_of (MkMatching k l e m as') = record { level = k; line = l; on = pr.expr_tree e; arms = some_branches as' }

abbrev pub matching_before : Matching → List Lexeme → List Lexeme
matching_before (MkMatching k l e m as') r = Mark mark.Match l ∷ gr.spell_expr e (Mark mark.With m ∷ arms_before as' r)

-- ---- the stack, from the top on

pub data Stack : Type 0 where
  Body : gr.Decls → (l : ℕ) → Name → gr.Params → gr.Kind → (m : ℕ) → Stack
  Paren : Chains → List ℕ → FirmCall → ℕ → Stack → Stack
  Args : Chains → List ℕ → Call → Name → ℕ → SomeExprs → Stack → Stack
  LetValue : (k l : ℕ) → Name → ℕ → Stack → Stack
  LetBody : ℕ → Name → ℕ → gr.Expr → ℕ → Stack → Stack
  IfCond : (k l : ℕ) → Stack → Stack
  IfThen : (k l : ℕ) → gr.Expr → ℕ → Stack → Stack
  IfElse : (l : ℕ) → gr.Expr → ℕ → gr.Expr → ℕ → Stack → Stack
  MatchOn : (k l : ℕ) → Stack → Stack
  ArmBody : Matching → Name → gr.Fields → gr.Cell → ℕ → Stack → Stack

abbrev pub fun_draft : gr.Decls → Name → gr.Params → FunDraft
fun_draft ds n ps = record { before = pr.source_of ds; name = n; params = pr.params_of ps }

abbrev pub frames : Stack → List Frame
frames (Body ds l n ps k m) = mc.Body (fun_draft ds n ps) (pr.kind_of k) ∷ []
frames (Paren c nots x l st) = mc.Paren (spot_of c nots (Firm x)) l ∷ frames st
frames (Args c nots x n l es st) = mc.Args (spot_of c nots x) n (some_expressions es) ∷ frames st
frames (LetValue k l n m st) = mc.LetValue k n ∷ frames st
frames (LetBody l n m e i st) = mc.LetBody n (pr.expr_tree e) ∷ frames st
frames (IfCond k l st) = mc.IfCond k l ∷ frames st
frames (IfThen k l c m st) = mc.IfThen k l (pr.expr_tree c) ∷ frames st
frames (IfElse l c m a n st) = mc.IfElse l (pr.expr_tree c) (pr.expr_tree a) ∷ frames st
frames (MatchOn k l st) = mc.MatchOn k l ∷ frames st
frames (ArmBody m c fs x l st) = mc.ArmBody (matching_of m) (mc.head c (pr.names_of fs) (pr.cell_of x)) ∷ frames st

abbrev pub stack_before : Stack → List Lexeme → List Lexeme
stack_before (Body ds l n ps k m) r = gr.spell_decls ds (Mark mark.Let l ∷ Lower n ∷ gr.spell_params ps (gr.spell_kind k (Mark mark.Equal m ∷ r)))
stack_before (Paren c nots x l st) r = stack_before st (spot_before c nots (Firm x) (Mark mark.Open l ∷ r))
stack_before (Args c nots x n l es st) r = stack_before st (spot_before c nots x (Upper n ∷ Mark mark.Open l ∷ some_before es r))
stack_before (LetValue k l n m st) r = stack_before st (Mark mark.Let l ∷ Lower n ∷ Mark mark.Equal m ∷ r)
stack_before (LetBody l n m e i st) r = stack_before st (Mark mark.Let l ∷ Lower n ∷ Mark mark.Equal m ∷ gr.spell_expr e (Mark mark.In i ∷ r))
stack_before (IfCond k l st) r = stack_before st (Mark mark.If l ∷ r)
stack_before (IfThen k l c m st) r = stack_before st (Mark mark.If l ∷ gr.spell_expr c (Mark mark.Then m ∷ r))
stack_before (IfElse l c m a n st) r = stack_before st (Mark mark.If l ∷ gr.spell_expr c (Mark mark.Then m ∷ gr.spell_expr a (Mark mark.Else n ∷ r)))
stack_before (MatchOn k l st) r = stack_before st (Mark mark.Match l ∷ r)
stack_before (ArmBody m c fs x l st) r = stack_before st (matching_before m (Upper c ∷ gr.spell_fields fs (gr.spell_cell x (Mark mark.Arrow l ∷ r))))

-- ---- states in expressions

pub data Parts : Type 0 where
  NoParts : Parts
  SomeParts : ℕ → gr.Exprs → ℕ → Parts

abbrev pub part_expressions : Parts → List Expression
part_expressions NoParts = []
part_expressions (SomeParts l es m) = pr.expr_trees es

abbrev pub parts_before : Parts → List Lexeme → List Lexeme
parts_before NoParts r = r
parts_before (SomeParts l es m) r = Mark mark.Open l ∷ gr.spell_exprs es (Mark mark.Close m ∷ r)

pub data ExprState : Type 0 where
  Want : (k : ℕ) → ExprState
  LetName : (k l : ℕ) → ExprState
  LetEquals : (k l : ℕ) → Name → ExprState
  WantPre : Chains → List ℕ → ExprState
  Negative : Chains → List ℕ → ℕ → ExprState
  Applied : Chains → List ℕ → Name → gr.Units → ExprState
  Have : Chains → List ℕ → gr.Pre → ExprState
  Con : Chains → List ℕ → Call → Name → ExprState
  Full : Chains → List ℕ → Call → Name → ℕ → gr.Exprs → ℕ → ExprState
  Placed : Chains → List ℕ → Call → Name → Parts → ℕ → ExprState
  Whole : gr.Expr → ExprState

abbrev pub expr_state : ExprState → mc.ExprState
expr_state (Want k) = mc.Want k
expr_state (LetName k l) = mc.LetName k
expr_state (LetEquals k l n) = mc.LetEquals k n
expr_state (WantPre c nots) = mc.WantPre (chains_lefts c) nots (under nots (chains_level c))
expr_state (Negative c nots l) = mc.Negative (slot_of c nots) l
expr_state (Applied c nots f us) = mc.Applied (slot_of c nots) f (pr.unit_expressions us)
expr_state (Have c nots x) = mc.Have (slot_of c nots) (pr.pre_operand x)
expr_state (Con c nots x n) = mc.Con (spot_of c nots x) n
expr_state (Full c nots x n l es m) = mc.Full (spot_of c nots x) n (pr.expr_trees es)
expr_state (Placed c nots x n ps l) = mc.Placed (spot_of c nots x) n (part_expressions ps)
expr_state (Whole e) = mc.Whole (pr.expr_tree e)

abbrev pub expr_before : ExprState → List Lexeme → List Lexeme
expr_before (Want k) r = r
expr_before (LetName k l) r = Mark mark.Let l ∷ r
expr_before (LetEquals k l n) r = Mark mark.Let l ∷ Lower n ∷ r
expr_before (WantPre c nots) r = slot_before c nots r
expr_before (Negative c nots l) r = slot_before c nots (Mark mark.Minus l ∷ r)
expr_before (Applied c nots f us) r = slot_before c nots (Lower f ∷ gr.spell_units us r)
expr_before (Have c nots x) r = slot_before c nots (gr.spell_pre x r)
expr_before (Con c nots x n) r = spot_before c nots x (Upper n ∷ r)
expr_before (Full c nots x n l es m) r = spot_before c nots x (Upper n ∷ Mark mark.Open l ∷ gr.spell_exprs es (Mark mark.Close m ∷ r))
expr_before (Placed c nots x n ps l) r = spot_before c nots x (Upper n ∷ parts_before ps (Mark mark.At l ∷ r))
expr_before (Whole e) r = gr.spell_expr e r

-- ---- states in the head of an arm

-- the fields so far: behind `(` or a comma
pub data SomeFields : Type 0 where
  OpenFields : ℕ → SomeFields
  FieldsComma : ℕ → gr.FieldList → ℕ → SomeFields

abbrev pub some_names : SomeFields → List (Option Name)
some_names (OpenFields l) = []
some_names (FieldsComma l fs m) = pr.field_names fs

abbrev pub fields_before : SomeFields → List Lexeme → List Lexeme
fields_before (OpenFields l) r = Mark mark.Open l ∷ r
fields_before (FieldsComma l fs m) r = Mark mark.Open l ∷ gr.spell_field_list fs (Mark mark.Comma m ∷ r)

pub data ArmState : Type 0 where
  FirstArm : (k l : ℕ) → gr.Expr → ℕ → ArmState
  WantArm : Matching → ArmState
  ArmCon : Matching → Name → ArmState
  WantName : Matching → Name → SomeFields → ArmState
  HaveName : Matching → Name → SomeFields → gr.Field → ArmState
  HaveNames : Matching → Name → ℕ → gr.FieldList → ℕ → ArmState
  WantCell : Matching → Name → gr.Fields → ℕ → ArmState
  WantArrow : Matching → Name → gr.Fields → gr.Cell → ArmState

abbrev pub arm_state : ArmState → mc.ArmState
arm_state (FirstArm k l e m) = mc.FirstArm (record { level = k; line = l; on = pr.expr_tree e; arms = [] })
arm_state (WantArm m) = mc.WantArm (matching_of m)
arm_state (ArmCon m c) = mc.ArmCon (matching_of m) c
arm_state (WantName m c fs) = mc.WantName (matching_of m) c (some_names fs)
arm_state (HaveName m c fs f) = mc.HaveName (matching_of m) c (some_names fs ++ pr.field_name f ∷ [])
arm_state (HaveNames m c l fs n) = mc.HaveNames (matching_of m) c (pr.field_names fs)
arm_state (WantCell m c fs l) = mc.WantCell (matching_of m) c (pr.names_of fs)
arm_state (WantArrow m c fs x) = mc.WantArrow (matching_of m) (mc.head c (pr.names_of fs) (pr.cell_of x))

abbrev pub arm_before : ArmState → List Lexeme → List Lexeme
arm_before (FirstArm k l e m) r = Mark mark.Match l ∷ gr.spell_expr e (Mark mark.With m ∷ r)
arm_before (WantArm m) r = matching_before m r
arm_before (ArmCon m c) r = matching_before m (Upper c ∷ r)
arm_before (WantName m c fs) r = matching_before m (Upper c ∷ fields_before fs r)
arm_before (HaveName m c fs f) r = matching_before m (Upper c ∷ fields_before fs (gr.field_lexeme f ∷ r))
arm_before (HaveNames m c l fs n) r = matching_before m (Upper c ∷ Mark mark.Open l ∷ gr.spell_field_list fs (Mark mark.Close n ∷ r))
arm_before (WantCell m c fs l) r = matching_before m (Upper c ∷ gr.spell_fields fs (Mark mark.At l ∷ r))
arm_before (WantArrow m c fs x) r = matching_before m (Upper c ∷ gr.spell_fields fs (gr.spell_cell x r))

-- ---- states in declarations

pub data SomeCons : Type 0 where
  NoCons : SomeCons
  ConsBar : gr.Cons → ℕ → SomeCons

pub data TypeHead : Type 0 where
  MkHead : gr.Decls → ℕ → Name → ℕ → SomeCons → TypeHead

abbrev pub some_constructors : SomeCons → List Constructor
some_constructors NoCons = []
some_constructors (ConsBar cs l) = pr.cons_of cs

abbrev pub cons_before : SomeCons → List Lexeme → List Lexeme
cons_before NoCons r = r
cons_before (ConsBar cs l) r = gr.spell_cons cs (Mark mark.Bar l ∷ r)

abbrev pub type_draft : TypeHead → TypeDraft
type_draft (MkHead ds l n m cs) = record { before = pr.source_of ds; name = n; cons = some_constructors cs }

abbrev pub head_before : TypeHead → List Lexeme → List Lexeme
head_before (MkHead ds l n m cs) r = gr.spell_decls ds (Mark mark.Type l ∷ Lower n ∷ Mark mark.Equal m ∷ cons_before cs r)

pub data SomeAtoms : Type 0 where
  OfSign : ℕ → SomeAtoms
  AtomsStar : ℕ → gr.AtomList → ℕ → SomeAtoms

abbrev pub some_atoms : SomeAtoms → List Atom
some_atoms (OfSign l) = []
some_atoms (AtomsStar l as' m) = pr.atoms_of as'

abbrev pub atoms_before : SomeAtoms → List Lexeme → List Lexeme
atoms_before (OfSign l) r = Mark mark.Of l ∷ r
atoms_before (AtomsStar l as' m) r = Mark mark.Of l ∷ gr.spell_atoms as' (Mark mark.Star m ∷ r)

pub data SomeParams : Type 0 where
  NoParams : SomeParams
  HaveParams : gr.Params → SomeParams

pub data FunHead : Type 0 where
  MkFun : gr.Decls → ℕ → Name → SomeParams → FunHead

abbrev pub some_params : SomeParams → List Param
some_params NoParams = []
some_params (HaveParams ps) = pr.params_of ps

abbrev pub params_before : SomeParams → List Lexeme → List Lexeme
params_before NoParams r = r
params_before (HaveParams ps) r = gr.spell_params ps r

abbrev pub head_draft : FunHead → FunDraft
head_draft (MkFun ds l n ps) = record { before = pr.source_of ds; name = n; params = some_params ps }

abbrev pub fun_before : FunHead → List Lexeme → List Lexeme
fun_before (MkFun ds l n ps) r = gr.spell_decls ds (Mark mark.Let l ∷ Lower n ∷ params_before ps r)

pub data DeclState : Type 0 where
  Top : gr.Decls → DeclState
  TypeName : gr.Decls → ℕ → DeclState
  TypeEquals : gr.Decls → ℕ → Name → DeclState
  WantCon : TypeHead → DeclState
  InlineCon : TypeHead → ℕ → DeclState
  BareCon : TypeHead → Name → DeclState
  WantField : TypeHead → Name → SomeAtoms → DeclState
  HaveField : TypeHead → Name → SomeAtoms → gr.WrittenAtom → DeclState
  HaveCon : TypeHead → ℕ → Name → DeclState
  FunName : gr.Decls → ℕ → DeclState
  FirstParam : gr.Decls → ℕ → Name → DeclState
  NextParam : gr.Decls → ℕ → Name → gr.Params → DeclState
  OpenParam : FunHead → ℕ → DeclState
  ReadParam : FunHead → ℕ → ℕ → DeclState
  ParamName : FunHead → ℕ → gr.ReadMark → Name → DeclState
  ParamKind : FunHead → ℕ → gr.ReadMark → Name → ℕ → DeclState
  ParamClose : FunHead → ℕ → gr.ReadMark → Name → ℕ → gr.WrittenAtom → DeclState
  ResultKind : gr.Decls → ℕ → Name → gr.Params → ℕ → DeclState
  ResultEquals : gr.Decls → ℕ → Name → gr.Params → ℕ → gr.WrittenAtom → DeclState

abbrev pub decl_state : DeclState → mc.DeclState
decl_state (Top ds) = mc.Top (pr.source_of ds)
decl_state (TypeName ds l) = mc.TypeName (pr.source_of ds)
decl_state (TypeEquals ds l n) = mc.TypeEquals (pr.source_of ds) n
decl_state (WantCon d) = mc.WantCon (type_draft d)
decl_state (InlineCon d l) = mc.InlineCon (type_draft d)
decl_state (BareCon d n) = mc.BareCon (type_draft d) n
decl_state (WantField d n as') = mc.WantField (type_draft d) n (some_atoms as')
decl_state (HaveField d n as' a) = mc.HaveField (type_draft d) n (some_atoms as' ++ pr.atom_of a ∷ [])
decl_state (HaveCon d l n) = mc.HaveCon (mc.with_con (type_draft d) n true [])
decl_state (FunName ds l) = mc.FunName (pr.source_of ds)
decl_state (FirstParam ds l n) = mc.FirstParam (pr.source_of ds) n
decl_state (NextParam ds l n ps) = mc.NextParam (fun_draft ds n ps)
decl_state (OpenParam d l) = mc.OpenParam (head_draft d)
decl_state (ReadParam d l m) = mc.ReadParam (head_draft d)
decl_state (ParamName d l w n) = mc.ParamName (head_draft d) n (pr.is_read w)
decl_state (ParamKind d l w n m) = mc.ParamKind (head_draft d) n (pr.is_read w)
decl_state (ParamClose d l w n m a) = mc.ParamClose (head_draft d) (record { name = n; read = pr.is_read w; kind = Some (pr.atom_of a) })
decl_state (ResultKind ds l n ps m) = mc.ResultKind (fun_draft ds n ps)
decl_state (ResultEquals ds l n ps m a) = mc.ResultEquals (fun_draft ds n ps) (pr.atom_of a)

abbrev pub decl_before : DeclState → List Lexeme → List Lexeme
decl_before (Top ds) r = gr.spell_decls ds r
decl_before (TypeName ds l) r = gr.spell_decls ds (Mark mark.Type l ∷ r)
decl_before (TypeEquals ds l n) r = gr.spell_decls ds (Mark mark.Type l ∷ Lower n ∷ r)
decl_before (WantCon d) r = head_before d r
decl_before (InlineCon d l) r = head_before d (Mark mark.Bang l ∷ r)
decl_before (BareCon d n) r = head_before d (Upper n ∷ r)
decl_before (WantField d n as') r = head_before d (Upper n ∷ atoms_before as' r)
decl_before (HaveField d n as' a) r = head_before d (Upper n ∷ atoms_before as' (gr.atom_lexeme a ∷ r))
decl_before (HaveCon d l n) r = head_before d (Mark mark.Bang l ∷ Upper n ∷ r)
decl_before (FunName ds l) r = gr.spell_decls ds (Mark mark.Let l ∷ r)
decl_before (FirstParam ds l n) r = gr.spell_decls ds (Mark mark.Let l ∷ Lower n ∷ r)
decl_before (NextParam ds l n ps) r = gr.spell_decls ds (Mark mark.Let l ∷ Lower n ∷ gr.spell_params ps r)
decl_before (OpenParam d l) r = fun_before d (Mark mark.Open l ∷ r)
decl_before (ReadParam d l m) r = fun_before d (Mark mark.Open l ∷ Mark mark.Read m ∷ r)
decl_before (ParamName d l w n) r = fun_before d (Mark mark.Open l ∷ gr.spell_read w (Lower n ∷ r))
decl_before (ParamKind d l w n m) r = fun_before d (Mark mark.Open l ∷ gr.spell_read w (Lower n ∷ Mark mark.Colon m ∷ r))
decl_before (ParamClose d l w n m a) r = fun_before d (Mark mark.Open l ∷ gr.spell_read w (Lower n ∷ Mark mark.Colon m ∷ gr.atom_lexeme a ∷ r))
decl_before (ResultKind ds l n ps m) r = gr.spell_decls ds (Mark mark.Let l ∷ Lower n ∷ gr.spell_params ps (Mark mark.Colon m ∷ r))
decl_before (ResultEquals ds l n ps m a) r = gr.spell_decls ds (Mark mark.Let l ∷ Lower n ∷ gr.spell_params ps (Mark mark.Colon m ∷ gr.atom_lexeme a ∷ r))

-- ---- all states

pub data Config : Type 0 where
  InDecls : DeclState → Config
  InExprs : ExprState → Stack → Config
  InArms : ArmState → Stack → Config

abbrev pub state_of : Config → State
state_of (InDecls s) = InDecl (decl_state s)
state_of (InExprs s st) = InExpr (expr_state s)
state_of (InArms s st) = InArm (arm_state s)

abbrev pub stack_of : Config → List Frame
stack_of (InDecls s) = []
stack_of (InExprs s st) = frames st
stack_of (InArms s st) = frames st

abbrev pub so_far : Config → List Lexeme → List Lexeme
so_far (InDecls s) r = decl_before s r
so_far (InExprs s st) r = stack_before st (expr_before s r)
so_far (InArms s st) r = stack_before st (arm_before s r)
