-- What the machine has read is spelled by trees of the grammar: each step keeps this.
use Rattle.std.proofs.Common.{◌≡◌, ℕ, suc, Bool, true, false, if◌then◌else◌, List, [], ◌∷◌, ◌++◌, None, refl}
use Rattle.camelot_tree.specs.declared.tree.Name.{Name}
use Rattle.camelot_grammar.specs.declared.lexeme.Mark.TheVariants as mark
use Rattle.camelot_grammar.specs.declared.lexeme.Lexeme.{Lexeme}
use Rattle.camelot_grammar.specs.declared.lexeme.Lexeme.TheVariants.{Lower, Upper, Number, Greatest, Mark}
use Rattle.camelot_tree.specs.Tree.{Source}
use Rattle.camelot_grammar.specs.Grammar as gr
use Rattle.camelot_grammar.specs.Program as pr
use Rattle.camelot_grammar.specs.Program.{Operand}
use Rattle.camelot_grammar.specs.Machine as mc
use Rattle.camelot_grammar.specs.Machine.{State, InDecl, InExpr, InArm, Finished, Frame, Step, Stuck, Goes, step}
use Rattle.camelot_grammar.proofs.Concrete as co
use Rattle.camelot_grammar.proofs.Concrete.{Config, InDecls, InExprs, InArms, state_of, stack_of, so_far, Chains, MkChains, Stack, frames, stack_before, Call, Firm, FirmCall, NoCall, Behind, BehindBare, slot_of, slot_before, spot_of, spot_before}

-- this state stands for what was read before, and this token behind it
pub record Continued (read : List Lexeme → List Lexeme) (t : Lexeme) (s : State) (st : List Frame) : Type 0 where
  pub config : Config
  pub is_state : state_of config ≡ s
  pub is_stack : stack_of config ≡ st
  pub spells : (r : List Lexeme) → so_far config r ≡ read (t ∷ r)

abbrev pub IsEnd : Lexeme → Type 0
IsEnd (Mark mark.EndOfText l) = Unit {0}
IsEnd t = ⊥

-- what was read before is this program, at the end of the text
pub record Ended (read : List Lexeme → List Lexeme) (t : Lexeme) (level : ℕ) (source : Source) : Type 0 where
  pub no_level : level ≡ 0
  pub at_end : IsEnd t
  pub decls : gr.Decls
  pub is : pr.source_of decls ≡ source
  pub spells : (r : List Lexeme) → gr.spell_decls decls r ≡ read r

abbrev pub Keeps : (List Lexeme → List Lexeme) → Lexeme → Step → Type 0
Keeps read t Stuck = Unit {0}
Keeps read t (Goes k (Finished p) st) = Ended read t k p
Keeps read t (Goes k s st) = Continued read t s st

keep : {read : List Lexeme → List Lexeme} {t : Lexeme} (c : Config) → ((r : List Lexeme) → so_far c r ≡ read (t ∷ r))
    → Continued read t (state_of c) (stack_of c)
keep c h = record { config = c; is_state = refl; is_stack = refl; spells = h }

-- ---- declarations

top_keeps : (ds : gr.Decls) (t : Lexeme) → Keeps (λ r. gr.spell_decls ds r) t (mc.top_step (pr.source_of ds) t [])
unfolding mc.top_step
top_keeps ds (Mark mark.Type l) = keep (InDecls (co.TypeName ds l)) (λ r. refl)
top_keeps ds (Mark mark.Let l) = keep (InDecls (co.FunName ds l)) (λ r. refl)
top_keeps ds (Mark mark.EndOfText l) = record { no_level = refl; at_end = tt; decls = ds; is = refl; spells = λ r. refl }
top_keeps ds t = tt

con_keeps : (ds : gr.Decls) (l : ℕ) (n : Name) (m : ℕ) (cs : co.SomeCons) (c : gr.ConDecl) (t : Lexeme)
    → Keeps (λ r. co.head_before (co.MkHead ds l n m cs) (gr.spell_con c r)) t
    (mc.con_step (record { before = pr.source_of ds; name = n; cons = co.some_constructors cs ++ pr.con_of c ∷ [] }) t [])
unfolding mc.con_step
con_keeps ds l n m co.NoCons c (Mark mark.Bar i) = keep (InDecls (co.WantCon (co.MkHead ds l n m (co.ConsBar (gr.OneCon c) i)))) (λ r. refl)
con_keeps ds l n m (co.ConsBar cs j) c (Mark mark.Bar i) = keep (InDecls (co.WantCon (co.MkHead ds l n m (co.ConsBar (gr.MoreCons cs j c) i)))) (λ r. refl)
con_keeps ds l n m co.NoCons c t = top_keeps (gr.AndType ds l n m (gr.OneCon c)) t
con_keeps ds l n m (co.ConsBar cs j) c t = top_keeps (gr.AndType ds l n m (gr.MoreCons cs j c)) t

field_keeps : (d : co.TypeHead) (n : Name) (as' : co.SomeAtoms) (t : Lexeme)
    → Keeps (λ r. co.decl_before (co.WantField d n as') r) t (mc.on_atom (mc.lexeme_atom t) (λ a. mc.HaveField (co.type_draft d) n (co.some_atoms as' ++ a ∷ [])) [])
field_keeps d n as' (Mark mark.Int l) = keep (InDecls (co.HaveField d n as' (gr.Int l))) (λ r. refl)
field_keeps d n as' (Mark mark.Bool l) = keep (InDecls (co.HaveField d n as' (gr.Bool' l))) (λ r. refl)
field_keeps d n as' (Mark mark.Diamond l) = keep (InDecls (co.HaveField d n as' (gr.Dia l))) (λ r. refl)
field_keeps d n as' (Lower x) = keep (InDecls (co.HaveField d n as' (gr.Of x))) (λ r. refl)
field_keeps d n as' t = tt

have_field_keeps : (ds : gr.Decls) (l : ℕ) (x : Name) (m : ℕ) (cs : co.SomeCons) (n : Name) (as' : co.SomeAtoms) (a : gr.WrittenAtom) (t : Lexeme)
    → Keeps (λ r. co.decl_before (co.HaveField (co.MkHead ds l x m cs) n as' a) r) t (mc.type_step (co.decl_state (co.HaveField (co.MkHead ds l x m cs) n as' a)) t [])
unfolding mc.type_step
have_field_keeps ds l x m cs n (co.OfSign i) a (Mark mark.Star j) = keep (InDecls (co.WantField (co.MkHead ds l x m cs) n (co.AtomsStar i (gr.OneAtom a) j))) (λ r. refl)
have_field_keeps ds l x m cs n (co.AtomsStar i as' k) a (Mark mark.Star j) =
    keep (InDecls (co.WantField (co.MkHead ds l x m cs) n (co.AtomsStar i (gr.MoreAtoms as' k a) j))) (λ r. refl)
have_field_keeps ds l x m cs n (co.OfSign i) a t = con_keeps ds l x m cs (gr.WithFields n i (gr.OneAtom a)) t
have_field_keeps ds l x m cs n (co.AtomsStar i as' k) a t = con_keeps ds l x m cs (gr.WithFields n i (gr.MoreAtoms as' k a)) t

bare_con_keeps : (ds : gr.Decls) (l : ℕ) (x : Name) (m : ℕ) (cs : co.SomeCons) (n : Name) (t : Lexeme)
    → Keeps (λ r. co.decl_before (co.BareCon (co.MkHead ds l x m cs) n) r) t (mc.type_step (co.decl_state (co.BareCon (co.MkHead ds l x m cs) n)) t [])
unfolding mc.type_step
bare_con_keeps ds l x m cs n (Mark mark.Of i) = keep (InDecls (co.WantField (co.MkHead ds l x m cs) n (co.OfSign i))) (λ r. refl)
bare_con_keeps ds l x m cs n t = con_keeps ds l x m cs (gr.NoFields' n) t

-- behind a parameter there is one more
param_next : (read : List Lexeme → List Lexeme) (ds : gr.Decls) (l : ℕ) (n : Name) (ps : co.SomeParams) (p : gr.WrittenParam) (t : Lexeme)
    → ((r : List Lexeme) → co.fun_before (co.MkFun ds l n ps) (gr.spell_param p r) ≡ read (t ∷ r))
    → Continued read t (InDecl (mc.NextParam (mc.with_param (co.head_draft (co.MkFun ds l n ps)) (pr.param_of p)))) []
param_next read ds l n co.NoParams p t h = keep (InDecls (co.NextParam ds l n (gr.OneParam p))) h
param_next read ds l n (co.HaveParams ps) p t h = keep (InDecls (co.NextParam ds l n (gr.MoreParams ps p))) h

param_kind_keeps : (d : co.FunHead) (l : ℕ) (w : gr.ReadMark) (n : Name) (m : ℕ) (t : Lexeme)
    → Keeps (λ r. co.decl_before (co.ParamKind d l w n m) r) t (mc.param_step (co.decl_state (co.ParamKind d l w n m)) t [])
unfolding mc.param_step
param_kind_keeps d l w n m (Mark mark.Int i) = keep (InDecls (co.ParamClose d l w n m (gr.Int i))) (λ r. refl)
param_kind_keeps d l w n m (Mark mark.Bool i) = keep (InDecls (co.ParamClose d l w n m (gr.Bool' i))) (λ r. refl)
param_kind_keeps d l w n m (Mark mark.Diamond i) = keep (InDecls (co.ParamClose d l w n m (gr.Dia i))) (λ r. refl)
param_kind_keeps d l w n m (Lower x) = keep (InDecls (co.ParamClose d l w n m (gr.Of x))) (λ r. refl)
param_kind_keeps d l w n m t = tt

result_kind_keeps : (ds : gr.Decls) (l : ℕ) (n : Name) (ps : gr.Params) (m : ℕ) (t : Lexeme)
    → Keeps (λ r. co.decl_before (co.ResultKind ds l n ps m) r) t (mc.fun_step (co.decl_state (co.ResultKind ds l n ps m)) t [])
unfolding mc.fun_step
result_kind_keeps ds l n ps m (Mark mark.Int i) = keep (InDecls (co.ResultEquals ds l n ps m (gr.Int i))) (λ r. refl)
result_kind_keeps ds l n ps m (Mark mark.Bool i) = keep (InDecls (co.ResultEquals ds l n ps m (gr.Bool' i))) (λ r. refl)
result_kind_keeps ds l n ps m (Mark mark.Diamond i) = keep (InDecls (co.ResultEquals ds l n ps m (gr.Dia i))) (λ r. refl)
result_kind_keeps ds l n ps m (Lower x) = keep (InDecls (co.ResultEquals ds l n ps m (gr.Of x))) (λ r. refl)
result_kind_keeps ds l n ps m t = tt

decl_keeps : (s : co.DeclState) (t : Lexeme) → Keeps (λ r. co.decl_before s r) t (mc.decl_step (co.decl_state s) t [])
unfolding mc.decl_step mc.type_step mc.fun_step mc.param_step
decl_keeps (co.Top ds) t = top_keeps ds t
decl_keeps (co.TypeName ds l) (Lower n) = keep (InDecls (co.TypeEquals ds l n)) (λ r. refl)
decl_keeps (co.TypeName ds l) t = tt
decl_keeps (co.TypeEquals ds l n) (Mark mark.Equal m) = keep (InDecls (co.WantCon (co.MkHead ds l n m co.NoCons))) (λ r. refl)
decl_keeps (co.TypeEquals ds l n) t = tt
decl_keeps (co.WantCon d) (Mark mark.Bang l) = keep (InDecls (co.InlineCon d l)) (λ r. refl)
decl_keeps (co.WantCon d) (Upper n) = keep (InDecls (co.BareCon d n)) (λ r. refl)
decl_keeps (co.WantCon d) t = tt
decl_keeps (co.InlineCon d l) (Upper n) = keep (InDecls (co.HaveCon d l n)) (λ r. refl)
decl_keeps (co.InlineCon d l) t = tt
decl_keeps (co.BareCon (co.MkHead ds l x m cs) n) t = bare_con_keeps ds l x m cs n t
decl_keeps (co.WantField d n as') t = field_keeps d n as' t
decl_keeps (co.HaveField (co.MkHead ds l x m cs) n as' a) t = have_field_keeps ds l x m cs n as' a t
decl_keeps (co.HaveCon (co.MkHead ds l x m cs) i n) t = con_keeps ds l x m cs (gr.Inline i n) t
decl_keeps (co.FunName ds l) (Lower n) = keep (InDecls (co.FirstParam ds l n)) (λ r. refl)
decl_keeps (co.FunName ds l) t = tt
decl_keeps (co.FirstParam ds l n) (Lower x) = keep (InDecls (co.NextParam ds l n (gr.OneParam (gr.Simple x)))) (λ r. refl)
decl_keeps (co.FirstParam ds l n) (Mark mark.Open m) = keep (InDecls (co.OpenParam (co.MkFun ds l n co.NoParams) m)) (λ r. refl)
decl_keeps (co.FirstParam ds l n) t = tt
decl_keeps (co.NextParam ds l n ps) (Lower x) = keep (InDecls (co.NextParam ds l n (gr.MoreParams ps (gr.Simple x)))) (λ r. refl)
decl_keeps (co.NextParam ds l n ps) (Mark mark.Open m) = keep (InDecls (co.OpenParam (co.MkFun ds l n (co.HaveParams ps)) m)) (λ r. refl)
decl_keeps (co.NextParam ds l n ps) (Mark mark.Colon m) = keep (InDecls (co.ResultKind ds l n ps m)) (λ r. refl)
decl_keeps (co.NextParam ds l n ps) (Mark mark.Equal m) = keep (InExprs (co.Want 0) (co.Body ds l n ps gr.NoKind m)) (λ r. refl)
decl_keeps (co.NextParam ds l n ps) t = tt
decl_keeps (co.OpenParam d l) (Mark mark.Read m) = keep (InDecls (co.ReadParam d l m)) (λ r. refl)
decl_keeps (co.OpenParam d l) (Lower n) = keep (InDecls (co.ParamName d l gr.NoRead n)) (λ r. refl)
decl_keeps (co.OpenParam d l) t = tt
decl_keeps (co.ReadParam d l m) (Lower n) = keep (InDecls (co.ParamName d l (gr.Read m) n)) (λ r. refl)
decl_keeps (co.ReadParam d l m) t = tt
decl_keeps (co.ParamName d l w n) (Mark mark.Colon m) = keep (InDecls (co.ParamKind d l w n m)) (λ r. refl)
decl_keeps (co.ParamName (co.MkFun ds i x ps) l w n) (Mark mark.Close m) = param_next _ ds i x ps (gr.Marked l w n gr.NoKind m) (Mark mark.Close m) (λ r. refl)
decl_keeps (co.ParamName d l w n) t = tt
decl_keeps (co.ParamKind d l w n m) t = param_kind_keeps d l w n m t
decl_keeps (co.ParamClose (co.MkFun ds i x ps) l w n m a) (Mark mark.Close j) = param_next _ ds i x ps (gr.Marked l w n (gr.OfKind m a) j) (Mark mark.Close j) (λ r. refl)
decl_keeps (co.ParamClose d l w n m a) t = tt
decl_keeps (co.ResultKind ds l n ps m) t = result_kind_keeps ds l n ps m t
decl_keeps (co.ResultEquals ds l n ps m a) (Mark mark.Equal i) = keep (InExprs (co.Want 0) (co.Body ds l n ps (gr.OfKind m a) i)) (λ r. refl)
decl_keeps (co.ResultEquals ds l n ps m a) t = tt

-- ---- behind a whole expression

-- a unit in parentheses is read
paren_kept : (read : List Lexeme → List Lexeme) (t : Lexeme) (c : Chains) (nots : List ℕ) (x : FirmCall) (u : gr.Firm) (st : Stack)
    → ((r : List Lexeme) → stack_before st (spot_before c nots (Firm x) (gr.spell_firm u r)) ≡ read (t ∷ r))
    → Continued read t (InExpr (mc.unit_done (spot_of c nots (Firm x)) (pr.firm_operand u))) (frames st)
paren_kept read t c nots NoCall u st h = keep (InExprs (co.Have c nots (gr.Alone u)) st) h
paren_kept read t c nots (Behind f us) u st h = keep (InExprs (co.Applied c nots f (gr.AndFirm us u)) st) h

args_comma : (read : List Lexeme → List Lexeme) (t : Lexeme) (c : Chains) (nots : List ℕ) (x : Call) (n : Name) (l m : ℕ) (es : co.SomeExprs) (e : gr.Expr) (st : Stack)
    → ((r : List Lexeme) → stack_before st (spot_before c nots x (Upper n ∷ Mark mark.Open l ∷ gr.spell_exprs (co.more_exprs es e) (Mark mark.Comma m ∷ r))) ≡ read (t ∷ r))
    → Continued read t (InExpr (mc.Want (slot_of c nots).level)) (mc.Args (spot_of c nots x) n (co.some_expressions es ++ pr.expr_tree e ∷ []) ∷ frames st)
args_comma read t c nots x n l m co.NoExprs e st h = keep (InExprs (co.Want (slot_of c nots).level) (co.Args c nots x n l (co.ExprsComma (gr.OneExpr e) m) st)) h
args_comma read t c nots x n l m (co.ExprsComma es i) e st h = keep (InExprs (co.Want (slot_of c nots).level) (co.Args c nots x n l (co.ExprsComma (gr.MoreExprs es i e) m) st)) h

args_close : (read : List Lexeme → List Lexeme) (t : Lexeme) (c : Chains) (nots : List ℕ) (x : Call) (n : Name) (l m : ℕ) (es : co.SomeExprs) (e : gr.Expr) (st : Stack)
    → ((r : List Lexeme) → stack_before st (spot_before c nots x (Upper n ∷ Mark mark.Open l ∷ gr.spell_exprs (co.more_exprs es e) (Mark mark.Close m ∷ r))) ≡ read (t ∷ r))
    → Continued read t (InExpr (mc.Full (spot_of c nots x) n (co.some_expressions es ++ pr.expr_tree e ∷ []))) (frames st)
args_close read t c nots x n l m co.NoExprs e st h = keep (InExprs (co.Full c nots x n l (gr.OneExpr e) m) st) h
args_close read t c nots x n l m (co.ExprsComma es i) e st h = keep (InExprs (co.Full c nots x n l (gr.MoreExprs es i e) m) st) h

body_keeps : (m : co.Matching) (c : Name) (fs : gr.Fields) (x : gr.Cell) (l : ℕ) (e : gr.Expr) (st : Stack) (t : Lexeme)
    → Keeps (λ r. stack_before (co.ArmBody m c fs x l st) (gr.spell_expr e r)) t (mc.close_in (mc.ArmBody (co.matching_of m) (mc.head c (pr.names_of fs) (pr.cell_of x))) (pr.expr_tree e) t (frames st))
unfolding mc.close_in
body_keeps (co.MkMatching k i o j (co.NoArms bar)) c fs x l e st (Mark mark.Bar n) =
    keep (InArms (co.WantArm (co.MkMatching k i o j (co.ArmsBar bar (gr.OneArm (gr.Case c fs x l e)) n))) st) (λ r. refl)
body_keeps (co.MkMatching k i o j (co.ArmsBar bar as' h)) c fs x l e st (Mark mark.Bar n) =
    keep (InArms (co.WantArm (co.MkMatching k i o j (co.ArmsBar bar (gr.MoreArms as' h (gr.Case c fs x l e)) n))) st) (λ r. refl)
body_keeps (co.MkMatching k i o j (co.NoArms bar)) c fs x l e st (Mark mark.End n) =
    keep (InExprs (co.Whole (gr.Match i o j bar (gr.OneArm (gr.Case c fs x l e)) n)) st) (λ r. refl)
body_keeps (co.MkMatching k i o j (co.ArmsBar bar as' h)) c fs x l e st (Mark mark.End n) =
    keep (InExprs (co.Whole (gr.Match i o j bar (gr.MoreArms as' h (gr.Case c fs x l e)) n)) st) (λ r. refl)
body_keeps m c fs x l e st t = tt

args_keeps : (c : Chains) (nots : List ℕ) (x : Call) (n : Name) (l : ℕ) (es : co.SomeExprs) (st : Stack) (e : gr.Expr) (t : Lexeme)
    → Keeps (λ r. stack_before (co.Args c nots x n l es st) (gr.spell_expr e r)) t (mc.close_in (mc.Args (spot_of c nots x) n (co.some_expressions es)) (pr.expr_tree e) t (frames st))
unfolding mc.close_in
args_keeps c nots x n l co.NoExprs st e (Mark mark.Comma m) =
    keep (InExprs (co.Want (slot_of c nots).level) (co.Args c nots x n l (co.ExprsComma (gr.OneExpr e) m) st)) (λ r. refl)
args_keeps c nots x n l (co.ExprsComma es i) st e (Mark mark.Comma m) =
    keep (InExprs (co.Want (slot_of c nots).level) (co.Args c nots x n l (co.ExprsComma (gr.MoreExprs es i e) m) st)) (λ r. refl)
args_keeps c nots x n l co.NoExprs st e (Mark mark.Close m) = keep (InExprs (co.Full c nots x n l (gr.OneExpr e) m) st) (λ r. refl)
args_keeps c nots x n l (co.ExprsComma es i) st e (Mark mark.Close m) = keep (InExprs (co.Full c nots x n l (gr.MoreExprs es i e) m) st) (λ r. refl)
args_keeps c nots x n l es st e t = tt

close_keeps : (st : Stack) (e : gr.Expr) (t : Lexeme) → Keeps (λ r. stack_before st (gr.spell_expr e r)) t (mc.close (frames st) (pr.expr_tree e) t)
unfolding mc.close mc.unwind mc.close_in
close_keeps (co.Body ds l n ps k m) e t = top_keeps (gr.AndFun ds l n ps k m e) t
close_keeps (co.LetBody l n m w i st) e t = close_keeps st (gr.Let l n m w i e) t
close_keeps (co.IfElse l c m a n st) e t = close_keeps st (gr.If l c m a n e) t
close_keeps (co.Paren c nots x l st) e (Mark mark.Close m) = paren_kept _ (Mark mark.Close m) c nots x (gr.Paren l e m) st (λ r. refl)
close_keeps (co.Paren c nots x l st) e t = tt
close_keeps (co.Args c nots x n l es st) e t = args_keeps c nots x n l es st e t
close_keeps (co.LetValue k l n m st) e (Mark mark.In i) = keep (InExprs (co.Want k) (co.LetBody l n m e i st)) (λ r. refl)
close_keeps (co.LetValue k l n m st) e t = tt
close_keeps (co.IfCond k l st) e (Mark mark.Then m) = keep (InExprs (co.Want k) (co.IfThen k l e m st)) (λ r. refl)
close_keeps (co.IfCond k l st) e t = tt
close_keeps (co.IfThen k l c m st) e (Mark mark.Else n) = keep (InExprs (co.Want k) (co.IfElse l c m e n st)) (λ r. refl)
close_keeps (co.IfThen k l c m st) e t = tt
close_keeps (co.MatchOn k l st) e (Mark mark.With m) = keep (InArms (co.FirstArm k l e m) st) (λ r. refl)
close_keeps (co.MatchOn k l st) e t = tt
close_keeps (co.ArmBody m c fs x l st) e t = body_keeps m c fs x l e st t

-- ---- behind an operand

and_keeps : (k : ℕ) (o : co.OrLeft) (y : gr.And) (st : Stack) (t : Lexeme)
    → Keeps (λ r. stack_before st (co.or_before o (gr.spell_and y r))) t (mc.after_and k (co.or_left o k) (pr.and_operand y) t (frames st))
unfolding mc.after_and
and_keeps k co.NoOr y st (Mark mark.OrOr l) = keep (InExprs (co.WantPre (MkChains k (co.OrSign (gr.OneAnd y) l) co.NoAnd co.NoCmp co.NoSum co.NoProd) []) st) (λ r. refl)
and_keeps k (co.OrSign x i) y st (Mark mark.OrOr l) = keep (InExprs (co.WantPre (MkChains k (co.OrSign (gr.Either x i y) l) co.NoAnd co.NoCmp co.NoSum co.NoProd) []) st) (λ r. refl)
and_keeps k co.NoOr y st t = close_keeps st (gr.Chain (gr.OneAnd y)) t
and_keeps k (co.OrSign x i) y st t = close_keeps st (gr.Chain (gr.Either x i y)) t

cmp_keeps : (k : ℕ) (o : co.OrLeft) (a : co.AndLeft) (y : gr.Cmp) (st : Stack) (t : Lexeme)
    → Keeps (λ r. stack_before st (co.or_before o (co.and_before a (gr.spell_cmp y r)))) t (mc.after_cmp k (co.or_left o k) (co.and_left a (co.or_of k o)) (pr.cmp_operand y) t (frames st))
unfolding mc.after_cmp
cmp_keeps k o co.NoAnd y st (Mark mark.AndAnd l) = keep (InExprs (co.WantPre (MkChains k o (co.AndSign (gr.OneCmp y) l) co.NoCmp co.NoSum co.NoProd) []) st) (λ r. refl)
cmp_keeps k o (co.AndSign x i) y st (Mark mark.AndAnd l) = keep (InExprs (co.WantPre (MkChains k o (co.AndSign (gr.Both x i y) l) co.NoCmp co.NoSum co.NoProd) []) st) (λ r. refl)
cmp_keeps k o co.NoAnd y st t = and_keeps k o (gr.OneCmp y) st t
cmp_keeps k o (co.AndSign x i) y st t = and_keeps k o (gr.Both x i y) st t

compares_keeps : (k : ℕ) (o : co.OrLeft) (a : co.AndLeft) (c : co.CmpLeft) (y : gr.Sum) (x : gr.Comparison) (l : ℕ) (st : Stack)
    → Keeps (λ r. stack_before st (co.or_before o (co.and_before a (co.cmp_before c (gr.spell_sum y r))))) (gr.comparison_mark x l)
    (mc.compares k (co.or_left o k) (co.and_left a (co.or_of k o)) (co.cmp_left c (co.and_of k o a)) (pr.sum_operand y) (pr.comparison_joint x) l (frames st))
compares_keeps k o a co.NoCmp y x l st = keep (InExprs (co.WantPre (MkChains k o a (co.CmpSign y x l) co.NoSum co.NoProd) []) st) (λ r. refl)
compares_keeps k o a (co.CmpSign w z i) y x l st = tt

sum_keeps : (k : ℕ) (o : co.OrLeft) (a : co.AndLeft) (c : co.CmpLeft) (y : gr.Sum) (st : Stack) (t : Lexeme)
    → Keeps (λ r. stack_before st (co.or_before o (co.and_before a (co.cmp_before c (gr.spell_sum y r))))) t
    (mc.after_sum k (co.or_left o k) (co.and_left a (co.or_of k o)) (co.cmp_left c (co.and_of k o a)) (pr.sum_operand y) t (frames st))
unfolding mc.after_sum
sum_keeps k o a c y st (Mark mark.Equal l) = compares_keeps k o a c y gr.Eq l st
sum_keeps k o a c y st (Mark mark.Diamond l) = compares_keeps k o a c y gr.Ne l st
sum_keeps k o a c y st (Mark mark.Less l) = compares_keeps k o a c y gr.Lt l st
sum_keeps k o a c y st (Mark mark.LessEqual l) = compares_keeps k o a c y gr.Le l st
sum_keeps k o a c y st (Mark mark.Greater l) = compares_keeps k o a c y gr.Gt l st
sum_keeps k o a c y st (Mark mark.GreaterEqual l) = compares_keeps k o a c y gr.Ge l st
sum_keeps k o a co.NoCmp y st t = cmp_keeps k o a (gr.OneSum y) st t
sum_keeps k o a (co.CmpSign w x i) y st t = cmp_keeps k o a (gr.Compares w x i y) st t

adds_keeps : (k : ℕ) (o : co.OrLeft) (a : co.AndLeft) (c : co.CmpLeft) (s : co.SumLeft) (y : gr.Prod) (x : gr.Sign) (l : ℕ) (st : Stack)
    → Keeps (λ r. stack_before st (co.or_before o (co.and_before a (co.cmp_before c (co.sum_before s (gr.spell_prod y r)))))) (gr.sign_mark x l)
    (mc.adds k (co.or_left o k) (co.and_left a (co.or_of k o)) (co.cmp_left c (co.and_of k o a)) (co.sum_left s (co.cmp_of k o a c)) (pr.prod_operand y) (pr.sign_joint x) l (frames st))
adds_keeps k o a c co.NoSum y x l st = keep (InExprs (co.WantPre (MkChains k o a c (co.SumSign (gr.OneProd y) x l) co.NoProd) []) st) (λ r. refl)
adds_keeps k o a c (co.SumSign w z i) y x l st = keep (InExprs (co.WantPre (MkChains k o a c (co.SumSign (gr.Adds w z i y) x l) co.NoProd) []) st) (λ r. refl)

prod_keeps : (k : ℕ) (o : co.OrLeft) (a : co.AndLeft) (c : co.CmpLeft) (s : co.SumLeft) (y : gr.Prod) (st : Stack) (t : Lexeme)
    → Keeps (λ r. stack_before st (co.or_before o (co.and_before a (co.cmp_before c (co.sum_before s (gr.spell_prod y r)))))) t
    (mc.after_prod k (co.or_left o k) (co.and_left a (co.or_of k o)) (co.cmp_left c (co.and_of k o a)) (co.sum_left s (co.cmp_of k o a c)) (pr.prod_operand y) t (frames st))
unfolding mc.after_prod
prod_keeps k o a c s y st (Mark mark.Plus l) = adds_keeps k o a c s y gr.Plus l st
prod_keeps k o a c s y st (Mark mark.Minus l) = adds_keeps k o a c s y gr.Minus l st
prod_keeps k o a c co.NoSum y st t = sum_keeps k o a c (gr.OneProd y) st t
prod_keeps k o a c (co.SumSign w x i) y st t = sum_keeps k o a c (gr.Adds w x i y) st t

multiplies_keeps : (c : Chains) (x : gr.Pre) (w : gr.ProductSign) (l : ℕ) (st : Stack)
    → Keeps (λ r. stack_before st (co.chains_before c (gr.spell_pre x r))) (gr.product_mark w l) (mc.multiplies (co.chains_lefts c) (pr.pre_operand x) (pr.product_joint w) l (frames st))
multiplies_keeps (MkChains k o a c s co.NoProd) x w l st = keep (InExprs (co.WantPre (MkChains k o a c s (co.ProdSign (gr.OnePre x) w l)) []) st) (λ r. refl)
multiplies_keeps (MkChains k o a c s (co.ProdSign y v i)) x w l st = keep (InExprs (co.WantPre (MkChains k o a c s (co.ProdSign (gr.Times y v i x) w l)) []) st) (λ r. refl)

pre_keeps : (c : Chains) (x : gr.Pre) (st : Stack) (t : Lexeme)
    → Keeps (λ r. stack_before st (co.chains_before c (gr.spell_pre x r))) t (mc.after_pre (co.chains_lefts c) (pr.pre_operand x) t (frames st))
unfolding mc.after_pre
pre_keeps c x st (Mark mark.Star l) = multiplies_keeps c x gr.Star l st
pre_keeps c x st (Mark mark.Slash l) = multiplies_keeps c x gr.Slash l st
pre_keeps c x st (Mark mark.Mod l) = multiplies_keeps c x gr.Mod l st
pre_keeps (MkChains k o a c s co.NoProd) x st t = prod_keeps k o a c s (gr.OnePre x) st t
pre_keeps (MkChains k o a c s (co.ProdSign y w i)) x st t = prod_keeps k o a c s (gr.Times y w i x) st t

-- the `not`s before it are read too
operand_keeps : (c : Chains) (nots : List ℕ) (x : gr.Pre) (st : Stack) (t : Lexeme)
    → Keeps (λ r. stack_before st (slot_before c nots (gr.spell_pre x r))) t (mc.after_pre (co.chains_lefts c) (mc.negated_all nots (pr.pre_operand x)) t (frames st))
operand_keeps c [] x st t = pre_keeps c x st t
operand_keeps c (l ∷ nots) x st t = operand_keeps c nots (gr.Not l x) st t

-- ---- units

solid_kept : (read : List Lexeme → List Lexeme) (t : Lexeme) (c : Chains) (nots : List ℕ) (x : Call) (u : gr.Solid) (st : Stack)
    → ((r : List Lexeme) → stack_before st (spot_before c nots x (gr.spell_solid u r)) ≡ read (t ∷ r))
    → Continued read t (InExpr (mc.unit_done (spot_of c nots x) (pr.solid_operand u))) (frames st)
solid_kept read t c nots (Firm NoCall) u st h = keep (InExprs (co.Have c nots (gr.Alone (gr.Is u))) st) h
solid_kept read t c nots (Firm (Behind f us)) u st h = keep (InExprs (co.Applied c nots f (gr.AndFirm us (gr.Is u))) st) h
solid_kept read t c nots (BehindBare f bs) u st h = keep (InExprs (co.Applied c nots f (gr.BareSolid bs u)) st) h

unit_keeps : (c : Chains) (nots : List ℕ) (x : FirmCall) (st : Stack) (t : Lexeme)
    → Keeps (λ r. stack_before st (spot_before c nots (Firm x) r)) t (mc.unit_step (spot_of c nots (Firm x)) t (frames st))
unfolding mc.unit_step
unit_keeps c nots x st (Number n l) = solid_kept _ (Number n l) c nots (Firm x) (gr.Literal n l) st (λ r. refl)
unit_keeps c nots x st (Mark mark.True l) = solid_kept _ (Mark mark.True l) c nots (Firm x) (gr.True l) st (λ r. refl)
unit_keeps c nots x st (Mark mark.False l) = solid_kept _ (Mark mark.False l) c nots (Firm x) (gr.False l) st (λ r. refl)
unit_keeps c nots x st (Upper n) = keep (InExprs (co.Con c nots (Firm x) n) st) (λ r. refl)
unit_keeps c nots x st (Mark mark.Open l) = keep (InExprs (co.Want (slot_of c nots).level) (co.Paren c nots x l st)) (λ r. refl)
unit_keeps c nots x st t = tt

-- whether it is `(`
abbrev NotOpen : Lexeme → Type 0
NotOpen (Mark mark.Open l) = ⊥
NotOpen t = Unit {0}

bare_unit_keeps : (c : Chains) (nots : List ℕ) (f : Name) (bs : gr.Bare) (st : Stack) (t : Lexeme) → NotOpen t
    → Keeps (λ r. stack_before st (spot_before c nots (BehindBare f bs) r)) t (mc.unit_step (spot_of c nots (BehindBare f bs)) t (frames st))
unfolding mc.unit_step
bare_unit_keeps c nots f bs st (Number n l) h = solid_kept _ (Number n l) c nots (BehindBare f bs) (gr.Literal n l) st (λ r. refl)
bare_unit_keeps c nots f bs st (Mark mark.True l) h = solid_kept _ (Mark mark.True l) c nots (BehindBare f bs) (gr.True l) st (λ r. refl)
bare_unit_keeps c nots f bs st (Mark mark.False l) h = solid_kept _ (Mark mark.False l) c nots (BehindBare f bs) (gr.False l) st (λ r. refl)
bare_unit_keeps c nots f bs st (Upper n) h = keep (InExprs (co.Con c nots (BehindBare f bs) n) st) (λ r. refl)
bare_unit_keeps c nots f bs st (Mark mark.Open l) h = absurd h
bare_unit_keeps c nots f bs st t h = tt

argument_keeps : (c : Chains) (nots : List ℕ) (f : Name) (us : gr.Units) (st : Stack) (t : Lexeme)
    → Keeps (λ r. stack_before st (slot_before c nots (Lower f ∷ gr.spell_units us r))) t (mc.argument_step (slot_of c nots) f (pr.unit_expressions us) t (frames st))
unfolding mc.argument_step
argument_keeps c nots f us st (Lower n) = keep (InExprs (co.Applied c nots f (gr.AndLower us n)) st) (λ r. refl)
argument_keeps c nots f us st t = unit_keeps c nots (Behind f us) st t

bare_argument_keeps : (c : Chains) (nots : List ℕ) (f : Name) (bs : gr.Bare) (st : Stack) (t : Lexeme) → NotOpen t
    → Keeps (λ r. stack_before st (slot_before c nots (Lower f ∷ gr.spell_bare bs r))) t (mc.argument_step (slot_of c nots) f (pr.bare_expressions bs) t (frames st))
unfolding mc.argument_step
bare_argument_keeps c nots f bs st (Lower n) h = keep (InExprs (co.Applied c nots f (gr.BareLower bs n)) st) (λ r. refl)
bare_argument_keeps c nots f bs st t h = bare_unit_keeps c nots f bs st t h

-- one of two steps
either_keeps : (read : List Lexeme → List Lexeme) (t : Lexeme) (b : Bool) (x y : Step) → Keeps read t x → Keeps read t y → Keeps read t (if b then x else y)
either_keeps read t true x y h i = h
either_keeps read t false x y h i = i

applied_keeps : (c : Chains) (nots : List ℕ) (f : Name) (us : gr.Units) (st : Stack) (t : Lexeme)
    → Keeps (λ r. stack_before st (slot_before c nots (Lower f ∷ gr.spell_units us r))) t (mc.applied_step (slot_of c nots) f (pr.unit_expressions us) t (frames st))
unfolding mc.applied_step mc.after_operand
applied_keeps c nots f us st t =
    either_keeps _ t (mc.begins_argument t) _ _ (argument_keeps c nots f us st t) (operand_keeps c nots (gr.Apply f us) st t)

bare_applied_keeps : (c : Chains) (nots : List ℕ) (f : Name) (bs : gr.Bare) (st : Stack) (t : Lexeme) → NotOpen t
    → Keeps (λ r. stack_before st (slot_before c nots (Lower f ∷ gr.spell_bare bs r))) t (mc.applied_step (slot_of c nots) f (pr.bare_expressions bs) t (frames st))
unfolding mc.applied_step mc.after_operand
bare_applied_keeps c nots f bs st t h =
    either_keeps _ t (mc.begins_argument t) _ _ (bare_argument_keeps c nots f bs st t h) (operand_keeps c nots (gr.ApplyBare f bs) st t)

-- behind a unit
solid_after : (c : Chains) (nots : List ℕ) (x : Call) (u : gr.Solid) (st : Stack) (t : Lexeme)
    → Keeps (λ r. stack_before st (spot_before c nots x (gr.spell_solid u r))) t (mc.after_unit (spot_of c nots x) (pr.solid_operand u) t (frames st))
unfolding mc.after_unit mc.after_operand
solid_after c nots (Firm NoCall) u st t = operand_keeps c nots (gr.Alone (gr.Is u)) st t
solid_after c nots (Firm (Behind f us)) u st t = applied_keeps c nots f (gr.AndFirm us (gr.Is u)) st t
solid_after c nots (BehindBare f bs) u st t = applied_keeps c nots f (gr.BareSolid bs u) st t

con_after : (c : Chains) (nots : List ℕ) (x : Call) (n : Name) (st : Stack) (t : Lexeme) → NotOpen t
    → Keeps (λ r. stack_before st (spot_before c nots x (Upper n ∷ r))) t (mc.after_unit (spot_of c nots x) (mc.built n [] None) t (frames st))
unfolding mc.after_unit mc.after_operand
con_after c nots (Firm NoCall) n st t h = operand_keeps c nots (gr.Con n) st t
con_after c nots (Firm (Behind f us)) n st t h = bare_applied_keeps c nots f (gr.AndUpper us n) st t h
con_after c nots (BehindBare f bs) n st t h = bare_applied_keeps c nots f (gr.BareUpper bs n) st t h

con_unit_keeps : (c : Chains) (nots : List ℕ) (x : Call) (n : Name) (st : Stack) (t : Lexeme)
    → Keeps (λ r. stack_before st (spot_before c nots x (Upper n ∷ r))) t (mc.con_unit_step (spot_of c nots x) n t (frames st))
unfolding mc.con_unit_step
con_unit_keeps c nots x n st (Mark mark.Open l) = keep (InExprs (co.Want (slot_of c nots).level) (co.Args c nots x n l co.NoExprs st)) (λ r. refl)
con_unit_keeps c nots x n st (Mark mark.At l) = keep (InExprs (co.Placed c nots x n co.NoParts l) st) (λ r. refl)
con_unit_keeps c nots x n st t = con_after c nots x n st t tt

full_keeps : (c : Chains) (nots : List ℕ) (x : Call) (n : Name) (l : ℕ) (es : gr.Exprs) (m : ℕ) (st : Stack) (t : Lexeme)
    → Keeps (λ r. stack_before st (co.expr_before (co.Full c nots x n l es m) r)) t (mc.full_step (spot_of c nots x) n (pr.expr_trees es) t (frames st))
unfolding mc.full_step
full_keeps c nots x n l es m st (Mark mark.At i) = keep (InExprs (co.Placed c nots x n (co.SomeParts l es m) i) st) (λ r. refl)
full_keeps c nots x n l es m st t = solid_after c nots x (gr.Full n l es m gr.NoPlace) st t

placed_keeps : (c : Chains) (nots : List ℕ) (x : Call) (n : Name) (ps : co.Parts) (l : ℕ) (st : Stack) (t : Lexeme)
    → Keeps (λ r. stack_before st (co.expr_before (co.Placed c nots x n ps l) r)) t (mc.placed_step (spot_of c nots x) n (co.part_expressions ps) t (frames st))
unfolding mc.placed_step
placed_keeps c nots x n co.NoParts l st (Lower d) = solid_kept _ (Lower d) c nots x (gr.Placed n l d) st (λ r. refl)
placed_keeps c nots x n (co.SomeParts i es j) l st (Lower d) = solid_kept _ (Lower d) c nots x (gr.Full n i es j (gr.At l d)) st (λ r. refl)
placed_keeps c nots x n ps l st t = tt

-- ---- at the beginning of an expression

slot_keeps : (c : Chains) (nots : List ℕ) (st : Stack) (t : Lexeme)
    → Keeps (λ r. stack_before st (slot_before c nots r)) t (mc.slot_step (slot_of c nots) t (frames st))
unfolding mc.slot_step
slot_keeps c nots st (Mark mark.Not l) = keep (InExprs (co.WantPre c (l ∷ nots)) st) (λ r. refl)
slot_keeps c nots st (Mark mark.Minus l) = keep (InExprs (co.Negative c nots l) st) (λ r. refl)
slot_keeps c nots st (Lower n) = keep (InExprs (co.Applied c nots n gr.NoUnits) st) (λ r. refl)
slot_keeps c nots st t = unit_keeps c nots NoCall st t

want_pre_keeps : (c : Chains) (nots : List ℕ) (st : Stack) (t : Lexeme)
    → Keeps (λ r. stack_before st (slot_before c nots r)) t (mc.pre_step (co.chains_lefts c) nots (co.under nots (co.chains_level c)) t (frames st))
unfolding mc.pre_step
want_pre_keeps c nots st t = either_keeps _ t (mc.begins_pre t) _ _ (slot_keeps c nots st t) tt

want_keeps : (k : ℕ) (st : Stack) (t : Lexeme) → Keeps (λ r. stack_before st r) t (mc.want_step k t (frames st))
unfolding mc.want_step
want_keeps k st (Mark mark.Let l) = keep (InExprs (co.LetName (suc k) l) st) (λ r. refl)
want_keeps k st (Mark mark.If l) = keep (InExprs (co.Want (suc k)) (co.IfCond (suc k) l st)) (λ r. refl)
want_keeps k st (Mark mark.Match l) = keep (InExprs (co.Want (suc k)) (co.MatchOn (suc k) l st)) (λ r. refl)
want_keeps k st t = want_pre_keeps (MkChains (suc k) co.NoOr co.NoAnd co.NoCmp co.NoSum co.NoProd) [] st t

expr_keeps : (s : co.ExprState) (st : Stack) (t : Lexeme) → Keeps (λ r. stack_before st (co.expr_before s r)) t (mc.expr_step (co.expr_state s) t (frames st))
unfolding mc.expr_step mc.let_step mc.negative_step mc.after_operand
expr_keeps (co.Want k) st t = want_keeps k st t
expr_keeps (co.LetName k l) st (Lower n) = keep (InExprs (co.LetEquals k l n) st) (λ r. refl)
expr_keeps (co.LetName k l) st t = tt
expr_keeps (co.LetEquals k l n) st (Mark mark.Equal m) = keep (InExprs (co.Want k) (co.LetValue k l n m st)) (λ r. refl)
expr_keeps (co.LetEquals k l n) st t = tt
expr_keeps (co.WantPre c nots) st t = want_pre_keeps c nots st t
expr_keeps (co.Negative c nots l) st (Number n m) = keep (InExprs (co.Have c nots (gr.Negative l n m)) st) (λ r. refl)
expr_keeps (co.Negative c nots l) st (Greatest m) = keep (InExprs (co.Have c nots (gr.Least l m)) st) (λ r. refl)
expr_keeps (co.Negative c nots l) st t = tt
expr_keeps (co.Applied c nots f us) st t = applied_keeps c nots f us st t
expr_keeps (co.Have c nots x) st t = operand_keeps c nots x st t
expr_keeps (co.Con c nots x n) st t = con_unit_keeps c nots x n st t
expr_keeps (co.Full c nots x n l es m) st t = full_keeps c nots x n l es m st t
expr_keeps (co.Placed c nots x n ps l) st t = placed_keeps c nots x n ps l st t
expr_keeps (co.Whole e) st t = close_keeps st e t

-- ---- in the head of an arm

name_keeps : (m : co.Matching) (c : Name) (fs : co.SomeFields) (st : Stack) (t : Lexeme)
    → Keeps (λ r. stack_before st (co.arm_before (co.WantName m c fs) r)) t (mc.arm_name_step (co.matching_of m) c (co.some_names fs) t (frames st))
unfolding mc.arm_name_step
name_keeps m c fs st (Lower n) = keep (InArms (co.HaveName m c fs (gr.Named n)) st) (λ r. refl)
name_keeps m c fs st (Mark mark.Blank l) = keep (InArms (co.HaveName m c fs (gr.Blank l)) st) (λ r. refl)
name_keeps m c fs st t = tt

have_name_keeps : (m : co.Matching) (c : Name) (fs : co.SomeFields) (f : gr.Field) (st : Stack) (t : Lexeme)
    → Keeps (λ r. stack_before st (co.arm_before (co.HaveName m c fs f) r)) t (mc.arm_step (co.arm_state (co.HaveName m c fs f)) t (frames st))
unfolding mc.arm_step
have_name_keeps m c (co.OpenFields l) f st (Mark mark.Comma i) = keep (InArms (co.WantName m c (co.FieldsComma l (gr.OneField f) i)) st) (λ r. refl)
have_name_keeps m c (co.FieldsComma l fs j) f st (Mark mark.Comma i) = keep (InArms (co.WantName m c (co.FieldsComma l (gr.MoreFields fs j f) i)) st) (λ r. refl)
have_name_keeps m c (co.OpenFields l) f st (Mark mark.Close i) = keep (InArms (co.HaveNames m c l (gr.OneField f) i) st) (λ r. refl)
have_name_keeps m c (co.FieldsComma l fs j) f st (Mark mark.Close i) = keep (InArms (co.HaveNames m c l (gr.MoreFields fs j f) i) st) (λ r. refl)
have_name_keeps m c fs f st t = tt

arm_end_keeps : (m : co.Matching) (c : Name) (fs : gr.Fields) (st : Stack) (t : Lexeme)
    → Keeps (λ r. stack_before st (co.matching_before m (Upper c ∷ gr.spell_fields fs r))) t (mc.arm_end_step (co.matching_of m) c (pr.names_of fs) t (frames st))
unfolding mc.arm_end_step mc.arrow_step
arm_end_keeps (co.MkMatching k i o j as') c fs st (Mark mark.At l) = keep (InArms (co.WantCell (co.MkMatching k i o j as') c fs l) st) (λ r. refl)
arm_end_keeps (co.MkMatching k i o j as') c fs st (Mark mark.Arrow l) = keep (InExprs (co.Want k) (co.ArmBody (co.MkMatching k i o j as') c fs gr.NoCell l st)) (λ r. refl)
arm_end_keeps m c fs st t = tt

arm_keeps : (s : co.ArmState) (st : Stack) (t : Lexeme) → Keeps (λ r. stack_before st (co.arm_before s r)) t (mc.arm_step (co.arm_state s) t (frames st))
unfolding mc.arm_step mc.arrow_step
arm_keeps (co.FirstArm k l e m) st (Mark mark.Bar i) = keep (InArms (co.WantArm (co.MkMatching k l e m (co.NoArms (gr.Bar i)))) st) (λ r. refl)
arm_keeps (co.FirstArm k l e m) st (Upper n) = keep (InArms (co.ArmCon (co.MkMatching k l e m (co.NoArms gr.NoBar)) n) st) (λ r. refl)
arm_keeps (co.FirstArm k l e m) st t = tt
arm_keeps (co.WantArm m) st (Upper n) = keep (InArms (co.ArmCon m n) st) (λ r. refl)
arm_keeps (co.WantArm m) st t = tt
arm_keeps (co.ArmCon m c) st (Mark mark.Open l) = keep (InArms (co.WantName m c (co.OpenFields l)) st) (λ r. refl)
arm_keeps (co.ArmCon m c) st t = arm_end_keeps m c gr.NoFields st t
arm_keeps (co.WantName m c fs) st t = name_keeps m c fs st t
arm_keeps (co.HaveName m c fs f) st t = have_name_keeps m c fs f st t
arm_keeps (co.HaveNames m c l fs n) st t = arm_end_keeps m c (gr.InParens l fs n) st t
arm_keeps (co.WantCell m c fs l) st (Lower n) = keep (InArms (co.WantArrow m c fs (gr.AtField l (gr.Named n))) st) (λ r. refl)
arm_keeps (co.WantCell m c fs l) st (Mark mark.Blank i) = keep (InArms (co.WantArrow m c fs (gr.AtField l (gr.Blank i))) st) (λ r. refl)
arm_keeps (co.WantCell m c fs l) st t = tt
arm_keeps (co.WantArrow (co.MkMatching k i o j as') c fs x) st (Mark mark.Arrow l) = keep (InExprs (co.Want k) (co.ArmBody (co.MkMatching k i o j as') c fs x l st)) (λ r. refl)
arm_keeps (co.WantArrow m c fs x) st t = tt

pub step_keeps : (c : Config) (t : Lexeme) → Keeps (so_far c) t (step (state_of c) t (stack_of c))
unfolding step
step_keeps (InDecls s) t = decl_keeps s t
step_keeps (InExprs s st) t = expr_keeps s st t
step_keeps (InArms s st) t = arm_keeps s st t
