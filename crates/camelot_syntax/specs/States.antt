-- Private: words for functions of this crate. The states of the code as those of the machine.
use Rattle.std.specs.Prelude.{◌≡◌, ℕ, ◌<◌, List, [], ◌∷◌, map, Option, Some, None, Result, MatchResult}
use Rattle.camelot_tree.specs.declared.tree.Expr.{Expr}
use Rattle.camelot_grammar.specs.declared.lexeme.Lexeme.{Lexeme}
use Rattle.camelot_grammar.specs.declared.lexeme.Lexeme.TheVariants as lexeme
use Rattle.camelot_grammar.specs.declared.lexeme.Lexeme.TheVariants.{Number}
use Rattle.camelot_syntax.specs.declared.state.Operand.{Operand}
use Rattle.camelot_syntax.specs.declared.state.Joint.{Joint}
use Rattle.camelot_syntax.specs.declared.state.Joint.TheVariants as joint
use Rattle.camelot_syntax.specs.declared.state.Left.{Left}
use Rattle.camelot_syntax.specs.declared.state.Lefts.{Lefts}
use Rattle.camelot_syntax.specs.declared.state.Callee.{Callee}
use Rattle.camelot_syntax.specs.declared.state.Spot.{Spot}
use Rattle.camelot_syntax.specs.declared.state.Matching.{Matching}
use Rattle.camelot_syntax.specs.declared.state.ArmHead.{ArmHead}
use Rattle.camelot_syntax.specs.declared.state.Decls.{Decls}
use Rattle.camelot_syntax.specs.declared.state.TypeDraft.{TypeDraft}
use Rattle.camelot_syntax.specs.declared.state.FunDraft.{FunDraft}
use Rattle.camelot_syntax.specs.declared.state.Frame.{Frame}
use Rattle.camelot_syntax.specs.declared.state.Frame.TheVariants as frame
use Rattle.camelot_syntax.specs.declared.state.Outer.{Outer}
use Rattle.camelot_syntax.specs.declared.state.Enclosed.{Enclosed}
use Rattle.camelot_syntax.specs.declared.state.Enclosed.TheVariants as enclosed
use Rattle.camelot_syntax.specs.declared.state.DeclState.{DeclState}
use Rattle.camelot_syntax.specs.declared.state.DeclState.TheVariants as decl
use Rattle.camelot_syntax.specs.declared.state.ExprState.{ExprState}
use Rattle.camelot_syntax.specs.declared.state.ExprState.TheVariants as expr
use Rattle.camelot_syntax.specs.declared.state.ArmState.{ArmState}
use Rattle.camelot_syntax.specs.declared.state.ArmState.TheVariants as arm
use Rattle.camelot_syntax.specs.declared.state.State.{State}
use Rattle.camelot_syntax.specs.declared.state.State.TheVariants as state
use Rattle.camelot_syntax.specs.declared.state.Halt.{Halt}
use Rattle.camelot_syntax.specs.declared.parser.Parser.{Parser}
use Rattle.camelot_syntax.specs.declared.words.TokenView.{TokenView}
use Rattle.camelot_syntax.specs.declared.words.TokenView.TheVariants as view
use Rattle.camelot_syntax.specs.declared.state.Halt.TheVariants.{Stuck, Deep, Memory}
use Rattle.camelot_tree.specs.Tree.{Expression, Source, operator_of, expression_of, branch_of, constructor_of, data_type_of, function_of}
use Rattle.camelot_grammar.specs.declared.fault.ParseFault.{ParseFault}
use Rattle.camelot_grammar.specs.declared.fault.ParseFault.TheVariants as fault
use Rattle.stops.specs.declared.stop.Stop.{Stop}
use Rattle.stops.specs.declared.stop.Stop.TheVariants as stop
use Rattle.camelot_grammar.specs.Parsing.{stop_fault, line_of}
use Rattle.camelot_grammar.specs.Program as pr
use Rattle.camelot_grammar.specs.Machine as mc
use Rattle.camelot_grammar.specs.Machine.{Step, Move, Moves, Stops, Sinks, limited, fault_of}

-- the token that the parser sees: the bytes of a name stand in the text
abbrev pub seen : TokenView → Lexeme
seen (view.Lower w l) = lexeme.Lower (record { word = w.now; line = l })
seen (view.Upper w l) = lexeme.Upper (record { word = w.now; line = l })
seen (view.Variable l) = lexeme.Variable l
seen (view.Number n l) = lexeme.Number n l
seen (view.Greatest l) = lexeme.Greatest l
seen (view.Mark m l) = lexeme.Mark m l

abbrev pub expressions_of : List Expr → List Expression
expressions_of es = map expression_of es

abbrev pub operand_of : Operand → pr.Operand
operand_of a = record { expression = expression_of a.tree.value; line = a.line }

abbrev pub joint_of : Joint → pr.Joint
joint_of (joint.Prim o) = pr.Prim (operator_of o)
joint_of joint.AndThen = pr.AndThen
joint_of joint.OrElse = pr.OrElse

abbrev pub left_of : Left → mc.Left
left_of l = record { operand = operand_of l.operand; joint = joint_of l.joint; line = l.line; within = l.within }

abbrev pub some_left : Option Left → Option mc.Left
some_left None = None
some_left (Some l) = Some (left_of l)

abbrev pub lefts_of : Lefts → mc.Lefts
lefts_of c = record {
  around = c.around;
  ors = some_left c.ors;
  ands = some_left c.ands;
  cmp = some_left c.cmp;
  sum = some_left c.sum;
  prod = some_left c.prod;
}

-- the last first
abbrev pub upside : List ℕ → List ℕ → List ℕ
upside [] below = below
upside (x ∷ xs) below = upside xs (x ∷ below)

abbrev pub nots_of : List ℕ → List ℕ
nots_of ls = upside ls []

abbrev pub slot_of : Spot → mc.Slot
slot_of s = record { lefts = lefts_of s.lefts; nots = nots_of s.nots.items; level = s.level }

abbrev pub callee_of : Callee → mc.Callee
callee_of c = record { fun = c.fun; args = expressions_of c.args.items }

abbrev pub some_callee : Option Callee → Option mc.Callee
some_callee None = None
some_callee (Some c) = Some (callee_of c)

abbrev pub spot_of : Spot → mc.Spot
spot_of s = record { slot = slot_of s; call = some_callee s.call }

-- where an operand is wanted, or behind a name
abbrev pub open_as : Option Callee → mc.Slot → mc.ExprState
open_as None s = mc.WantPre s.lefts s.nots s.level
open_as (Some c) s = mc.Applied s c.fun (expressions_of c.args.items)

abbrev pub matching_of : Matching → mc.Matching
matching_of m = record { level = m.level; line = m.line; on = expression_of m.on.value; arms = map branch_of m.arms.items }

abbrev pub arm_head_of : ArmHead → mc.ArmHead
arm_head_of h = record { con = h.con; fields = h.fields.items; cell = h.cell }

abbrev pub decls_of : Decls → Source
decls_of d = record { types = map data_type_of d.types.items; funs = map function_of d.funs.items }

abbrev pub type_draft_of : TypeDraft → mc.TypeDraft
type_draft_of d = record { before = decls_of d.before.value; name = d.name; cons = map constructor_of d.cons.items }

abbrev pub fun_draft_of : FunDraft → mc.FunDraft
fun_draft_of d = record { before = decls_of d.before.value; name = d.name; params = d.params.items }

abbrev pub frame_of : Frame → mc.Frame
frame_of (frame.Body d) = mc.Body (fun_draft_of d.value) d.value.result
frame_of (frame.Paren s l) = mc.Paren (spot_of s.value) l
frame_of (frame.Args s b) = mc.Args (spot_of s.value) b.value.con (expressions_of b.value.args.items)
frame_of (frame.LetValue k n) = mc.LetValue k n.value
frame_of (frame.LetBody n e) = mc.LetBody n.value (expression_of e.value)
frame_of (frame.IfCond k l) = mc.IfCond k l
frame_of (frame.IfThen k l e) = mc.IfThen k l (expression_of e.value)
frame_of (frame.IfElse l e a) = mc.IfElse l (expression_of e.value) (expression_of a.value)
frame_of (frame.MatchOn k l) = mc.MatchOn k l
frame_of (frame.ArmBody m h) = mc.ArmBody (matching_of m.value) (arm_head_of h.value)

-- the last frame of the code's stack is on top
abbrev pub stacked : List Frame → List mc.Frame → List mc.Frame
stacked [] below = below
stacked (f ∷ fs) below = stacked fs (frame_of f ∷ below)

unfoldable pub stack_of : List Frame → List mc.Frame
stack_of fs = stacked fs []

abbrev pub unwound_of : Option Outer → List mc.Frame → mc.Unwound
unwound_of None st = mc.Nowhere
unwound_of (Some o) st = mc.Inside (frame_of o.frame) (expression_of o.tree.value) st

-- the whole that ends with the expression, or the frame with the expression
abbrev pub Encloses : mc.Frame → Expression → Enclosed → Type 0
Encloses f e (enclosed.Whole whole) = mc.enclosed f e ≡ Some (expression_of whole.value)
Encloses f e (enclosed.Outer o) = (mc.enclosed f e ≡ None) × (frame_of o.frame ≡ f) × (expression_of o.tree.value ≡ e)

abbrev pub decl_of : DeclState → mc.DeclState
decl_of (decl.Top d) = mc.Top (decls_of d.value)
decl_of (decl.TypeName d) = mc.TypeName (decls_of d.value)
decl_of (decl.TypeEquals d n) = mc.TypeEquals (decls_of d.value) n
decl_of (decl.WantCon d) = mc.WantCon (type_draft_of d.value)
decl_of (decl.InlineCon d) = mc.InlineCon (type_draft_of d.value)
decl_of (decl.BareCon d n) = mc.BareCon (type_draft_of d.value) n
decl_of (decl.WantField d c) = mc.WantField (type_draft_of d.value) c.value.name c.value.fields.items
decl_of (decl.HaveField d c) = mc.HaveField (type_draft_of d.value) c.value.name c.value.fields.items
decl_of (decl.HaveCon d) = mc.HaveCon (type_draft_of d.value)
decl_of (decl.FunName d) = mc.FunName (decls_of d.value)
decl_of (decl.FirstParam d n) = mc.FirstParam (decls_of d.value) n
decl_of (decl.NextParam d) = mc.NextParam (fun_draft_of d.value)
decl_of (decl.OpenParam d) = mc.OpenParam (fun_draft_of d.value)
decl_of (decl.ReadParam d) = mc.ReadParam (fun_draft_of d.value)
decl_of (decl.ParamName d n b) = mc.ParamName (fun_draft_of d.value) n b
decl_of (decl.ParamKind d n b) = mc.ParamKind (fun_draft_of d.value) n b
decl_of (decl.ParamClose d p) = mc.ParamClose (fun_draft_of d.value) p.value
decl_of (decl.ResultKind d) = mc.ResultKind (fun_draft_of d.value)
decl_of (decl.ResultEquals d a) = mc.ResultEquals (fun_draft_of d.value) a

abbrev pub expr_of : ExprState → mc.ExprState
expr_of (expr.Want k) = mc.Want k
expr_of (expr.LetName k) = mc.LetName k
expr_of (expr.LetEquals k n) = mc.LetEquals k n.value
expr_of (expr.Open s) = open_as s.value.call (slot_of s.value)
expr_of (expr.Negative s l) = mc.Negative (slot_of s.value) l
expr_of (expr.Have s a) = mc.Have (slot_of s.value) (operand_of a)
expr_of (expr.Con s n) = mc.Con (spot_of s.value) n
expr_of (expr.Full s b) = mc.Full (spot_of s.value) b.value.con (expressions_of b.value.args.items)
expr_of (expr.Placed s b) = mc.Placed (spot_of s.value) b.value.con (expressions_of b.value.args.items)
expr_of (expr.Whole e) = mc.Whole (expression_of e.value)

abbrev pub arm_of : ArmState → mc.ArmState
arm_of (arm.FirstArm m) = mc.FirstArm (matching_of m.value)
arm_of (arm.WantArm m) = mc.WantArm (matching_of m.value)
arm_of (arm.ArmCon m h) = mc.ArmCon (matching_of m.value) h.value.con
arm_of (arm.WantName m h) = mc.WantName (matching_of m.value) h.value.con h.value.fields.items
arm_of (arm.HaveName m h) = mc.HaveName (matching_of m.value) h.value.con h.value.fields.items
arm_of (arm.HaveNames m h) = mc.HaveNames (matching_of m.value) h.value.con h.value.fields.items
arm_of (arm.WantCell m h) = mc.WantCell (matching_of m.value) h.value.con h.value.fields.items
arm_of (arm.WantArrow m h) = mc.WantArrow (matching_of m.value) (arm_head_of h.value)

abbrev pub state_of : State → mc.State
state_of (state.InDecl s) = mc.InDecl (decl_of s)
state_of (state.InExpr s) = mc.InExpr (expr_of s)
state_of (state.InArm s) = mc.InArm (arm_of s)
state_of (state.Finished d) = mc.Finished (decls_of d.value)

-- ---- what a step of the code answers

abbrev pub HaltsBy : Halt → Move → Type 0
HaltsBy Stuck m = m ≡ Stops
HaltsBy Deep m = m ≡ Sinks
HaltsBy Memory m = Unit {0}

-- the parser does the machine's step within the limit, unless memory runs out
pub record Does (step : Step) (parser : Parser) (result : Result (Unit {0}) Halt) : Type 0 where
  pub does : MatchResult result (λ u. limited step ≡ Moves (state_of parser.state) (stack_of parser.stack.items)) (λ h. HaltsBy h (limited step))

-- a number token is below the greatest one
abbrev pub IsSmall : Lexeme → Type 0
IsSmall (Number n l) = n < 2147483648
IsSmall t = Unit {0}

-- ---- what a run of the code answers: its fault is that of the machine's run, over so many tokens

abbrev pub FailsWith : Stop ParseFault → Option ParseFault → Type 0
FailsWith (stop.Fault f) o = o ≡ Some f
FailsWith stop.Memory o = Unit {0}

-- the code's answer to tokens is the machine's, unless memory runs out
pub record Answers (count last : ℕ) (run : mc.Result) (result : Result Decls (Stop ParseFault)) : Type 0 where
  pub answers : MatchResult result (λ d. run ≡ mc.Yes (decls_of d)) (λ s. FailsWith s (fault_of count last run))

-- the code's answer to one token at this place
abbrev pub FailsAt : Lexeme → ℕ → Stop ParseFault → Move → Type 0
FailsAt t at stop.Memory m = Unit {0}
FailsAt t at (stop.Fault (fault.TooDeep token line)) m = (m ≡ Sinks) × (token ≡ at) × (line ≡ line_of t)
FailsAt t at (stop.Fault f) m = (m ≡ Stops) × ((rest : List Lexeme) → f ≡ stop_fault (t ∷ rest) at (line_of t))

pub record Reads (step : Step) (t : Lexeme) (at : ℕ) (parser : Parser) (result : Result (Unit {0}) (Stop ParseFault)) : Type 0 where
  pub reads : MatchResult result (λ u. limited step ≡ Moves (state_of parser.state) (stack_of parser.stack.items)) (λ s. FailsAt t at s (limited step))

-- the text can't end in this state
abbrev pub IsUnfinished : mc.State → Type 0
IsUnfinished (mc.Finished p) = ⊥
IsUnfinished s = Unit {0}
