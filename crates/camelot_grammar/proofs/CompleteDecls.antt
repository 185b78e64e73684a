-- The machine reads what a whole program of the grammar spells, with its levels.
use Rattle.std.proofs.Common.{◌≡◌, ℕ, Bool, true, false, List, [], ◌∷◌, ◌++◌, Option, Some, refl, ap}
use Rattle.camelot_tree.specs.declared.tree.Name.{Name}
use Rattle.camelot_tree.specs.declared.tree.Atom.{Atom}
use Rattle.camelot_tree.specs.declared.tree.Param.{Param}
use Rattle.camelot_grammar.specs.declared.lexeme.Mark.TheVariants as mark
use Rattle.camelot_grammar.specs.declared.lexeme.Lexeme.{Lexeme}
use Rattle.camelot_grammar.specs.declared.lexeme.Lexeme.TheVariants.{Lower, Mark}
use Rattle.camelot_tree.specs.Tree.{Constructor, Source}
use Rattle.camelot_grammar.specs.Grammar as gr
use Rattle.camelot_grammar.specs.Program as pr
use Rattle.camelot_grammar.specs.Levels as lv
use Rattle.camelot_grammar.specs.Machine as mc
use Rattle.camelot_grammar.specs.Machine.{InDecl, InExpr, Finished, DeclState, Frame, Step, Goes, TypeDraft, FunDraft, step, advance, start, nothing}
use Rattle.camelot_grammar.proofs.Behind.{End, Over, Config, Gives, at, one, go, reach_expr, ends_or, expr_then}
use Rattle.camelot_grammar.proofs.Complete.{expr_gives}

abbrev decl : DeclState → Config
decl s = one (InDecl s) []

-- an atom, where one is wanted
field_atom : (a : gr.WrittenAtom) (d : TypeDraft) (n : Name) (as' : List Atom)
    → advance (InDecl (mc.WantField d n as')) (gr.atom_lexeme a) [] ≡ Goes 0 (InDecl (mc.HaveField d n (as' ++ pr.atom_of a ∷ []))) []
unfolding advance step mc.decl_step mc.type_step
field_atom (gr.Int l) d n as' = refl
field_atom (gr.Bool' l) d n as' = refl
field_atom (gr.Dia l) d n as' = refl
field_atom (gr.Of x) d n as' = refl

param_atom : (a : gr.WrittenAtom) (d : FunDraft) (n : Name) (b : Bool)
    → advance (InDecl (mc.ParamKind d n b)) (gr.atom_lexeme a) [] ≡ Goes 0 (InDecl (mc.ParamClose d (record { name = n; read = b; kind = Some (pr.atom_of a) }))) []
unfolding advance step mc.decl_step mc.param_step
param_atom (gr.Int l) d n b = refl
param_atom (gr.Bool' l) d n b = refl
param_atom (gr.Dia l) d n b = refl
param_atom (gr.Of x) d n b = refl

result_atom : (a : gr.WrittenAtom) (d : FunDraft)
    → advance (InDecl (mc.ResultKind d)) (gr.atom_lexeme a) [] ≡ Goes 0 (InDecl (mc.ResultEquals d (pr.atom_of a))) []
unfolding advance step mc.decl_step mc.fun_step
result_atom (gr.Int l) d = refl
result_atom (gr.Bool' l) d = refl
result_atom (gr.Dia l) d = refl
result_atom (gr.Of x) d = refl

-- ---- types

atoms_give : (as' : gr.AtomList) (d : TypeDraft) (n : Name) (ts : List Lexeme) (ls : List ℕ) (z : End)
    → Gives (decl (mc.HaveField d n (pr.atoms_of as'))) ts ls z
    → Gives (decl (mc.WantField d n [])) (gr.spell_atoms as' ts) (lv.levels_atoms as' ls) z
unfolding advance step mc.decl_step mc.type_step
atoms_give (gr.OneAtom a) d n ts ls z h = go (field_atom a d n []) h
atoms_give (gr.MoreAtoms as' l a) d n ts ls z h = atoms_give as' d n _ _ z (go refl (go (field_atom a d n (pr.atoms_of as')) h))

abbrev reach_con : gr.ConDecl → TypeDraft → DeclState
reach_con (gr.Inline l n) d = mc.HaveCon (mc.with_con d n true [])
reach_con (gr.NoFields' n) d = mc.BareCon d n
reach_con (gr.WithFields n l as') d = mc.HaveField d n (pr.atoms_of as')

con_gives : (c : gr.ConDecl) (d : TypeDraft) (ts : List Lexeme) (ls : List ℕ) (z : End)
    → Gives (decl (reach_con c d)) ts ls z → Gives (decl (mc.WantCon d)) (gr.spell_con c ts) (lv.levels_con c ls) z
unfolding advance step mc.decl_step mc.type_step
con_gives (gr.Inline l n) d ts ls z h = go refl (go refl h)
con_gives (gr.NoFields' n) d ts ls z h = go refl h
con_gives (gr.WithFields n l as') d ts ls z h = go refl (go refl (atoms_give as' d n ts ls z h))

abbrev draft : Source → Name → List Constructor → TypeDraft
draft b n cs = record { before = b; name = n; cons = cs }

abbrev reach_cons : gr.Cons → Source → Name → DeclState
reach_cons (gr.OneCon c) b n = reach_con c (draft b n [])
reach_cons (gr.MoreCons cs l c) b n = reach_con c (draft b n (pr.cons_of cs))

-- the tokens that end a constructor
abbrev EndsCon : Lexeme → Type 0
EndsCon (Mark mark.Of l) = ⊥
EndsCon (Mark mark.Star l) = ⊥
EndsCon t = Unit {0}

bare_past : (d : TypeDraft) (n : Name) (t : Lexeme) → EndsCon t → mc.decl_step (mc.BareCon d n) t [] ≡ mc.con_step (mc.with_con d n false []) t []
unfolding mc.decl_step mc.type_step
bare_past d n (Mark mark.Of l) h = absurd h
bare_past d n t h = refl

field_past : (d : TypeDraft) (n : Name) (as' : List Atom) (t : Lexeme) → EndsCon t
    → mc.decl_step (mc.HaveField d n as') t [] ≡ mc.con_step (mc.with_con d n false as') t []
unfolding mc.decl_step mc.type_step
field_past d n as' (Mark mark.Star l) h = absurd h
field_past d n as' t h = refl

con_then : (c : gr.ConDecl) (b : Source) (n : Name) (cs : List Constructor) (t : Lexeme) → EndsCon t
    → step (InDecl (reach_con c (draft b n cs))) t [] ≡ mc.con_step (draft b n (cs ++ pr.con_of c ∷ [])) t []
unfolding step mc.decl_step mc.type_step
con_then (gr.Inline l x) b n cs t h = refl
con_then (gr.NoFields' x) b n cs t h = bare_past (draft b n cs) x t h
con_then (gr.WithFields x l as') b n cs t h = field_past (draft b n cs) x (pr.atoms_of as') t h

cons_then : (cs : gr.Cons) (b : Source) (n : Name) (t : Lexeme) → EndsCon t
    → step (InDecl (reach_cons cs b n)) t [] ≡ mc.con_step (draft b n (pr.cons_of cs)) t []
cons_then (gr.OneCon c) b n t h = con_then c b n [] t h
cons_then (gr.MoreCons cs l c) b n t h = con_then c b n (pr.cons_of cs) t h

cons_bar : (cs : gr.Cons) (b : Source) (n : Name) (l : ℕ)
    → advance (InDecl (reach_cons cs b n)) (Mark mark.Bar l) [] ≡ Goes 0 (InDecl (mc.WantCon (draft b n (pr.cons_of cs)))) []
unfolding advance mc.con_step
cons_bar cs b n l = cons_then cs b n (Mark mark.Bar l) tt

cons_give : (cs : gr.Cons) (b : Source) (n : Name) (ts : List Lexeme) (ls : List ℕ) (z : End)
    → Gives (decl (reach_cons cs b n)) ts ls z → Gives (decl (mc.WantCon (draft b n []))) (gr.spell_cons cs ts) (lv.levels_cons cs ls) z
cons_give (gr.OneCon c) b n ts ls z h = con_gives c (draft b n []) ts ls z h
cons_give (gr.MoreCons cs l c) b n ts ls z h = cons_give cs b n _ _ z (go (cons_bar cs b n l) (con_gives c (draft b n (pr.cons_of cs)) ts ls z h))

-- ---- functions

-- behind the `(` of a parameter
marked_gives : (w : gr.ReadMark) (x : Name) (k : gr.Kind) (l m : ℕ) (d : FunDraft) (ts : List Lexeme) (ls : List ℕ) (z : End)
    → Gives (decl (mc.NextParam (mc.with_param d (pr.param_of (gr.Marked l w x k m))))) ts ls z
    → Gives (decl (mc.OpenParam d)) (gr.spell_read w (Lower x ∷ gr.spell_kind k (Mark mark.Close m ∷ ts))) (lv.levels_read w (0 ∷ lv.levels_kind k (0 ∷ ls))) z
unfolding advance step mc.decl_step mc.param_step
marked_gives gr.NoRead x gr.NoKind l m d ts ls z h = go refl (go refl h)
marked_gives gr.NoRead x (gr.OfKind i a) l m d ts ls z h = go refl (go refl (go (param_atom a d x false) (go refl h)))
marked_gives (gr.Read j) x gr.NoKind l m d ts ls z h = go refl (go refl (go refl h))
marked_gives (gr.Read j) x (gr.OfKind i a) l m d ts ls z h = go refl (go refl (go refl (go (param_atom a d x true) (go refl h))))

abbrev sketch : Source → Name → List Param → FunDraft
sketch b n ps = record { before = b; name = n; params = ps }

params_give : (ps : gr.Params) (b : Source) (n : Name) (ts : List Lexeme) (ls : List ℕ) (z : End)
    → Gives (decl (mc.NextParam (sketch b n (pr.params_of ps)))) ts ls z
    → Gives (decl (mc.FirstParam b n)) (gr.spell_params ps ts) (lv.levels_params ps ls) z
unfolding advance step mc.decl_step mc.fun_step
params_give (gr.OneParam (gr.Simple x)) b n ts ls z h = go refl h
params_give (gr.OneParam (gr.Marked l w x k m)) b n ts ls z h = go refl (marked_gives w x k l m (sketch b n []) ts ls z h)
params_give (gr.MoreParams ps (gr.Simple x)) b n ts ls z h = params_give ps b n _ _ z (go refl h)
params_give (gr.MoreParams ps (gr.Marked l w x k m)) b n ts ls z h =
    params_give ps b n _ _ z (go refl (marked_gives w x k l m (sketch b n (pr.params_of ps)) ts ls z h))

result_gives : (k : gr.Kind) (d : FunDraft) (m : ℕ) (ts : List Lexeme) (ls : List ℕ) (z : End)
    → Gives (at (mc.Want 0) (mc.Body d (pr.kind_of k) ∷ [])) ts ls z
    → Gives (decl (mc.NextParam d)) (gr.spell_kind k (Mark mark.Equal m ∷ ts)) (lv.levels_kind k (0 ∷ ls)) z
unfolding advance step mc.decl_step mc.fun_step
result_gives gr.NoKind d m ts ls z h = go refl h
result_gives (gr.OfKind l a) d m ts ls z h = go refl (go (result_atom a d) (go refl h))

-- ---- programs

abbrev pub reach_decls : gr.Decls → Config
reach_decls gr.NoDecls = one start []
reach_decls (gr.AndType ds l n m cs) = decl (reach_cons cs (pr.source_of ds) n)
reach_decls (gr.AndFun ds l n ps k m e) = reach_expr e 0 (mc.Body (sketch (pr.source_of ds) n (pr.params_of ps)) (pr.kind_of k) ∷ [])

-- the tokens that end a declaration
abbrev EndsDecl : Lexeme → Type 0
EndsDecl (Mark mark.Type l) = Unit {0}
EndsDecl (Mark mark.Let l) = Unit {0}
EndsDecl (Mark mark.EndOfText l) = Unit {0}
EndsDecl t = ⊥

type_then : (cs : gr.Cons) (b : Source) (n : Name) (t : Lexeme) → EndsDecl t
    → step (InDecl (reach_cons cs b n)) t [] ≡ mc.top_step (mc.type_done (draft b n (pr.cons_of cs))) t []
unfolding mc.con_step
type_then cs b n (Mark mark.Type l) h = cons_then cs b n (Mark mark.Type l) tt
type_then cs b n (Mark mark.Let l) h = cons_then cs b n (Mark mark.Let l) tt
type_then cs b n (Mark mark.EndOfText l) h = cons_then cs b n (Mark mark.EndOfText l) tt
type_then cs b n t h = absurd h

fun_then : (e : gr.Expr) (d : FunDraft) (r : Option Atom) (t : Lexeme) → EndsDecl t
    → step (reach_expr e 0 (mc.Body d r ∷ [])).state t (reach_expr e 0 (mc.Body d r ∷ [])).stack ≡ mc.top_step (mc.fun_done d r (pr.expr_tree e)) t []
unfolding mc.close mc.unwind mc.close_in
fun_then e d r (Mark mark.Type l) h = expr_then e 0 (mc.Body d r ∷ []) (Mark mark.Type l) (ends_or (Mark mark.Type l) refl tt tt tt tt tt tt)
fun_then e d r (Mark mark.Let l) h = expr_then e 0 (mc.Body d r ∷ []) (Mark mark.Let l) (ends_or (Mark mark.Let l) refl tt tt tt tt tt tt)
fun_then e d r (Mark mark.EndOfText l) h = expr_then e 0 (mc.Body d r ∷ []) (Mark mark.EndOfText l) (ends_or (Mark mark.EndOfText l) refl tt tt tt tt tt tt)
fun_then e d r t h = absurd h

decls_then : (ds : gr.Decls) (t : Lexeme) → EndsDecl t
    → step (reach_decls ds).state t (reach_decls ds).stack ≡ mc.top_step (pr.source_of ds) t []
unfolding step mc.decl_step
decls_then gr.NoDecls t h = refl
decls_then (gr.AndType ds l n m cs) t h = type_then cs (pr.source_of ds) n t h
decls_then (gr.AndFun ds l n ps k m e) t h = fun_then e (sketch (pr.source_of ds) n (pr.params_of ps)) (pr.kind_of k) t h

decls_type : (ds : gr.Decls) (l : ℕ)
    → advance (reach_decls ds).state (Mark mark.Type l) (reach_decls ds).stack ≡ Goes 0 (InDecl (mc.TypeName (pr.source_of ds))) []
unfolding advance mc.top_step
decls_type ds l = decls_then ds (Mark mark.Type l) tt

decls_let : (ds : gr.Decls) (l : ℕ)
    → advance (reach_decls ds).state (Mark mark.Let l) (reach_decls ds).stack ≡ Goes 0 (InDecl (mc.FunName (pr.source_of ds))) []
unfolding advance mc.top_step
decls_let ds l = decls_then ds (Mark mark.Let l) tt

decls_end : (ds : gr.Decls) (l : ℕ) → step (reach_decls ds).state (Mark mark.EndOfText l) (reach_decls ds).stack ≡ Goes 0 (Finished (pr.source_of ds)) []
unfolding mc.top_step
decls_end ds l = decls_then ds (Mark mark.EndOfText l) tt

pub decls_give : (ds : gr.Decls) (ts : List Lexeme) (ls : List ℕ) (z : End)
    → Gives (reach_decls ds) ts ls z → Gives (one start []) (gr.spell_decls ds ts) (lv.levels_decls ds ls) z
unfolding advance step mc.decl_step mc.type_step mc.fun_step
decls_give gr.NoDecls ts ls z h = h
decls_give (gr.AndType ds l n m cs) ts ls z h =
    decls_give ds _ _ z (go (decls_type ds l) (go refl (go refl (cons_give cs (pr.source_of ds) n ts ls z h))))
decls_give (gr.AndFun ds l n ps k m e) ts ls z h =
    decls_give ds _ _ z (go (decls_let ds l) (go refl (params_give ps (pr.source_of ds) n _ _ z
    (result_gives k (sketch (pr.source_of ds) n (pr.params_of ps)) m _ _ z
    (expr_gives e 0 (mc.Body (sketch (pr.source_of ds) n (pr.params_of ps)) (pr.kind_of k) ∷ []) ts ls z h)))))

-- a whole program
pub program_gives : (ds : gr.Decls) → Gives (one start []) (gr.spell_decls ds []) (lv.levels_decls ds []) (Over (Goes 0 (Finished (pr.source_of ds)) []))
program_gives ds = decls_give ds [] [] _ (record { ends = ap Over (decls_end ds 0); marks = refl })
