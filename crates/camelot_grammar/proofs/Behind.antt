-- What the machine does behind the last token of a tree, and where a tree may begin.
use Rattle.std.proofs.Common.{◌≡◌, ℕ, suc, Bool, true, false, if◌then◌else◌, List, [], ◌∷◌, ◌++◌, Option, Some, None, refl, ap, ◌∙◌}
use Rattle.camelot_tree.specs.declared.tree.Name.{Name}
use Rattle.camelot_grammar.specs.declared.lexeme.Mark.TheVariants as mark
use Rattle.camelot_grammar.specs.declared.lexeme.Lexeme.{Lexeme}
use Rattle.camelot_grammar.specs.declared.lexeme.Lexeme.TheVariants.{Lower, Upper, Number, Mark}
use Rattle.camelot_tree.specs.Tree as tree
use Rattle.camelot_tree.specs.Tree.{Expression, Source, Branch}
use Rattle.camelot_grammar.specs.Grammar as gr
use Rattle.camelot_grammar.specs.Program as pr
use Rattle.camelot_grammar.specs.Program.{Operand}
use Rattle.camelot_grammar.specs.Levels as lv
use Rattle.camelot_grammar.specs.Machine as mc
use Rattle.camelot_grammar.specs.Machine.{State, InDecl, InExpr, InArm, Finished, ExprState, Frame, Step, Stuck, Goes, Left, Lefts, Slot, Spot, Callee, step, advance}

-- ---- a run without a limit

pub data End : Type 0 where
  Over : Step → End
  Halts : List Lexeme → End

abbrev pub ran : Step → (State → List Frame → End) → List Lexeme → End
ran Stuck next ts = Halts ts
ran (Goes k s st) next ts = next s st

abbrev pub raw : State → List Frame → List Lexeme → End
raw s st [] = Over (step s (Mark mark.EndOfText 0) st)
raw s st (t ∷ ts) = ran (advance s t st) (λ s2 st2. raw s2 st2 ts) (t ∷ ts)

-- the levels of the tokens that are read
abbrev pub metered : Step → (State → List Frame → List ℕ) → List ℕ
metered Stuck next = []
metered (Goes k s st) next = k ∷ next s st

abbrev pub meter : State → List Frame → List Lexeme → List ℕ
meter s st [] = []
meter s st (t ∷ ts) = metered (advance s t st) (λ s2 st2. meter s2 st2 ts)

pub record Config : Type 0 where
  pub state : State
  pub stack : List Frame

-- from here these tokens are read with these levels, up to this end
pub record Gives (c : Config) (ts : List Lexeme) (ls : List ℕ) (z : End) : Type 0 where
  pub ends : raw c.state c.stack ts ≡ z
  pub marks : meter c.state c.stack ts ≡ ls

abbrev pub at : ExprState → List Frame → Config
at s st = record { state = InExpr s; stack = st }

abbrev pub one : State → List Frame → Config
one s st = record { state = s; stack = st }

pub go : {c : Config} {t : Lexeme} {ts : List Lexeme} {k : ℕ} {s : State} {st : List Frame} {ls : List ℕ} {z : End}
    → advance c.state t c.stack ≡ Goes k s st → Gives (one s st) ts ls z → Gives c (t ∷ ts) (k ∷ ls) z
go {c} {t} {ts} {k} {s} {st} {ls} {z} e h = record {
  ends = ap (λ x. ran x (λ s2 st2. raw s2 st2 ts) (t ∷ ts)) e ∙ h.ends;
  marks = ap (λ x. metered x (λ s2 st2. meter s2 st2 ts)) e ∙ ap (λ xs. k ∷ xs) h.marks;
}

-- ---- the state behind a tree's last token

abbrev pub slot : Lefts → List ℕ → ℕ → Slot
slot c nots k = record { lefts = c; nots = nots; level = suc k }

abbrev pub alone : Slot → Spot
alone s = record { slot = s; call = None }

abbrev pub behind : Slot → Name → List Expression → Spot
behind s f es = record { slot = s; call = Some (record { fun = f; args = es }) }

abbrev pub reach_solid : gr.Solid → Spot → ExprState
reach_solid (gr.Full c l es m gr.NoPlace) s = mc.Full s c (pr.expr_trees es)
reach_solid u s = mc.unit_done s (pr.solid_operand u)

abbrev pub reach_firm : gr.Firm → Spot → ExprState
reach_firm (gr.Is u) s = reach_solid u s
reach_firm (gr.Paren l e m) s = mc.unit_done s (pr.firm_operand (gr.Paren l e m))

abbrev pub reach_bare : gr.Bare → Slot → Name → ExprState
reach_bare (gr.AndUpper us n) s f = mc.Con (behind s f (pr.unit_expressions us)) n
reach_bare (gr.BareUpper bs n) s f = mc.Con (behind s f (pr.bare_expressions bs)) n

abbrev pub reach_units : gr.Units → Slot → Name → ExprState
reach_units (gr.AndFirm us u) s f = reach_firm u (behind s f (pr.unit_expressions us))
reach_units (gr.BareSolid bs u) s f = reach_solid u (behind s f (pr.bare_expressions bs))
reach_units us s f = mc.Applied s f (pr.unit_expressions us)

abbrev pub reach_pre : gr.Pre → Lefts → List ℕ → ℕ → ExprState
reach_pre (gr.Not l x) c nots k = reach_pre x c (l ∷ nots) (suc k)
reach_pre (gr.Negative l n m) c nots k = mc.Have (slot c nots k) (pr.pre_operand (gr.Negative l n m))
reach_pre (gr.Least l m) c nots k = mc.Have (slot c nots k) (pr.pre_operand (gr.Least l m))
reach_pre (gr.Apply f us) c nots k = reach_units us (slot c nots k) f
reach_pre (gr.ApplyBare f bs) c nots k = reach_bare bs (slot c nots k) f
reach_pre (gr.Con n) c nots k = mc.Con (alone (slot c nots k)) n
reach_pre (gr.Alone u) c nots k = reach_firm u (alone (slot c nots k))

abbrev pub reach_prod : gr.Prod → ℕ → (ors ands cmp sum : Option Left) → ExprState
reach_prod (gr.OnePre x) k o a c s = reach_pre x (mc.lefts k o a c s None) [] (mc.sum_level k o a c s)
reach_prod (gr.Times y w l x) k o a c s =
    reach_pre x (mc.lefts k o a c s (mc.left (pr.prod_operand y) (pr.product_joint w) l (lv.in_prod y (mc.sum_level k o a c s)))) [] (suc (lv.in_prod y (mc.sum_level k o a c s)))

abbrev pub sum_left : gr.Sum → ℕ → Option Left
sum_left (gr.OneProd y) k = None
sum_left (gr.Adds s o l y) k = mc.left (pr.sum_operand s) (pr.sign_joint o) l (lv.in_sum s k)

abbrev pub last_prod : gr.Sum → gr.Prod
last_prod (gr.OneProd y) = y
last_prod (gr.Adds s o l y) = y

abbrev pub reach_sum : gr.Sum → ℕ → (ors ands cmp : Option Left) → ExprState
reach_sum s k o a c = reach_prod (last_prod s) k o a c (sum_left s (mc.within c (mc.within a (mc.within o k))))

abbrev pub reach_cmp : gr.Cmp → ℕ → (ors ands : Option Left) → ExprState
reach_cmp (gr.OneSum s) k o a = reach_sum s k o a None
reach_cmp (gr.Compares s x l t) k o a = reach_sum t k o a (mc.left (pr.sum_operand s) (pr.comparison_joint x) l (mc.within a (mc.within o k)))

abbrev pub reach_and : gr.And → ℕ → (ors : Option Left) → ExprState
reach_and (gr.OneCmp c) k o = reach_cmp c k o None
reach_and (gr.Both a l c) k o = reach_cmp c k o (mc.left (pr.and_operand a) pr.AndThen l (lv.in_and a (mc.within o k)))

abbrev pub reach_or : gr.Or → ℕ → ExprState
reach_or (gr.OneAnd a) k = reach_and a k None
reach_or (gr.Either o l a) k = reach_and a k (mc.left (pr.or_operand o) pr.OrElse l (lv.in_or o k))

abbrev pub reach_expr : gr.Expr → ℕ → List Frame → Config
reach_expr (gr.Let l n m v i b) k st = reach_expr b (suc k) (mc.LetBody n (pr.expr_tree v) ∷ st)
reach_expr (gr.If l c m a n b) k st = reach_expr b (suc k) (mc.IfElse l (pr.expr_tree c) (pr.expr_tree a) ∷ st)
reach_expr (gr.Match l e m bar as' n) k st = at (mc.Whole (pr.expr_tree (gr.Match l e m bar as' n))) st
reach_expr (gr.Chain o) k st = at (reach_or o (suc k)) st

-- ---- what stands behind a tree

abbrev pub NotAt : Lexeme → Type 0
NotAt (Mark mark.At l) = ⊥
NotAt t = Unit {0}

abbrev pub NotOpen : Lexeme → Type 0
NotOpen (Mark mark.Open l) = ⊥
NotOpen t = Unit {0}

abbrev pub NotProduct : Lexeme → Type 0
NotProduct (Mark mark.Star l) = ⊥
NotProduct (Mark mark.Slash l) = ⊥
NotProduct (Mark mark.Mod l) = ⊥
NotProduct t = Unit {0}

abbrev pub NotSign : Lexeme → Type 0
NotSign (Mark mark.Plus l) = ⊥
NotSign (Mark mark.Minus l) = ⊥
NotSign t = Unit {0}

abbrev pub NotComparison : Lexeme → Type 0
NotComparison (Mark mark.Equal l) = ⊥
NotComparison (Mark mark.Diamond l) = ⊥
NotComparison (Mark mark.Less l) = ⊥
NotComparison (Mark mark.LessEqual l) = ⊥
NotComparison (Mark mark.Greater l) = ⊥
NotComparison (Mark mark.GreaterEqual l) = ⊥
NotComparison t = Unit {0}

abbrev pub NotAndAnd : Lexeme → Type 0
NotAndAnd (Mark mark.AndAnd l) = ⊥
NotAndAnd t = Unit {0}

abbrev pub NotOrOr : Lexeme → Type 0
NotOrOr (Mark mark.OrOr l) = ⊥
NotOrOr t = Unit {0}

pub record EndsPre (t : Lexeme) : Type 0 where
  pub no_unit : mc.begins_argument t ≡ false
  pub no_at : NotAt t

pub record EndsProd (t : Lexeme) : Type 0 where
  pub ends : EndsPre t
  pub no_product : NotProduct t

pub record EndsSum (t : Lexeme) : Type 0 where
  pub ends : EndsProd t
  pub no_sign : NotSign t

pub record EndsCmp (t : Lexeme) : Type 0 where
  pub ends : EndsSum t
  pub no_comparison : NotComparison t

pub record EndsAnd (t : Lexeme) : Type 0 where
  pub ends : EndsCmp t
  pub no_and : NotAndAnd t

pub record EndsOr (t : Lexeme) : Type 0 where
  pub ends : EndsAnd t
  pub no_or : NotOrOr t

done_of : (c : Option Callee) (s : Slot) (x : Operand) (t : Lexeme) (st : List Frame)
    → mc.expr_step (mc.unit_of c s x) t st ≡ mc.after_unit_of c s x t st
unfolding mc.expr_step
done_of None s x t st = refl
done_of (Some c) s x t st = refl

pub done_then : (s : Spot) (x : Operand) (t : Lexeme) (st : List Frame)
    → mc.expr_step (mc.unit_done s x) t st ≡ mc.after_unit s x t st
unfolding mc.after_unit
done_then s x t st = done_of s.call s.slot x t st

pub full_then : (s : Spot) (c : Name) (es : List Expression) (t : Lexeme) (st : List Frame) → NotAt t
    → mc.expr_step (mc.Full s c es) t st ≡ mc.after_unit s (mc.built c es None) t st
unfolding mc.expr_step mc.full_step
full_then s c es (Mark mark.At l) st h = absurd h
full_then s c es t st h = refl

pub solid_then : (u : gr.Solid) (s : Spot) (t : Lexeme) (st : List Frame) → NotAt t
    → mc.expr_step (reach_solid u s) t st ≡ mc.after_unit s (pr.solid_operand u) t st
solid_then (gr.Literal n l) s t st h = done_then s _ t st
solid_then (gr.True l) s t st h = done_then s _ t st
solid_then (gr.False l) s t st h = done_then s _ t st
solid_then (gr.Full c l es m gr.NoPlace) s t st h = full_then s c (pr.expr_trees es) t st h
solid_then (gr.Full c l es m (gr.At i d)) s t st h = done_then s _ t st
solid_then (gr.Placed c l d) s t st h = done_then s _ t st

pub firm_then : (u : gr.Firm) (s : Spot) (t : Lexeme) (st : List Frame) → NotAt t
    → mc.expr_step (reach_firm u s) t st ≡ mc.after_unit s (pr.firm_operand u) t st
firm_then (gr.Is u) s t st h = solid_then u s t st h
firm_then (gr.Paren l e m) s t st h = done_then s _ t st

pub con_then : (s : Spot) (c : Name) (t : Lexeme) (st : List Frame) → NotAt t → NotOpen t
    → mc.expr_step (mc.Con s c) t st ≡ mc.after_unit s (mc.built c [] None) t st
unfolding mc.expr_step mc.con_unit_step
con_then s c (Mark mark.At l) st h i = absurd h
con_then s c (Mark mark.Open l) st h i = absurd i
con_then s c t st h i = refl

pub units_then : (us : gr.Units) (s : Slot) (f : Name) (t : Lexeme) (st : List Frame) → NotAt t
    → mc.expr_step (reach_units us s f) t st ≡ mc.applied_step s f (pr.unit_expressions us) t st
unfolding mc.expr_step mc.after_unit
units_then gr.NoUnits s f t st h = refl
units_then (gr.AndLower us n) s f t st h = refl
units_then (gr.AndFirm us u) s f t st h = firm_then u (behind s f (pr.unit_expressions us)) t st h
units_then (gr.BareLower bs n) s f t st h = refl
units_then (gr.BareSolid bs u) s f t st h = solid_then u (behind s f (pr.bare_expressions bs)) t st h

pub bare_then : (bs : gr.Bare) (s : Slot) (f : Name) (t : Lexeme) (st : List Frame) → NotAt t → NotOpen t
    → mc.expr_step (reach_bare bs s f) t st ≡ mc.applied_step s f (pr.bare_expressions bs) t st
unfolding mc.after_unit
bare_then (gr.AndUpper us n) s f t st h i = con_then (behind s f (pr.unit_expressions us)) n t st h i
bare_then (gr.BareUpper bs n) s f t st h i = con_then (behind s f (pr.bare_expressions bs)) n t st h i

-- what begins no argument ends a call
pub applied_then : (s : Slot) (f : Name) (es : List Expression) (t : Lexeme) (st : List Frame) → mc.begins_argument t ≡ false
    → mc.applied_step s f es t st ≡ mc.after_operand s (mc.applied_operand f es) t st
unfolding mc.applied_step
applied_then s f es t st h = ap (λ b. if b then mc.argument_step s f es t st else mc.after_operand s (mc.applied_operand f es) t st) h

pub open_then : (t : Lexeme) → mc.begins_argument t ≡ false → NotOpen t
open_then (Mark mark.Open l) h = absurd cc
open_then t h = tt

pub pre_then : (x : gr.Pre) (c : Lefts) (nots : List ℕ) (k : ℕ) (t : Lexeme) (st : List Frame) → EndsPre t
    → mc.expr_step (reach_pre x c nots k) t st ≡ mc.after_pre c (mc.negated_all nots (pr.pre_operand x)) t st
unfolding mc.expr_step mc.after_operand mc.after_unit
pre_then (gr.Not l x) c nots k t st h = pre_then x c (l ∷ nots) (suc k) t st h
pre_then (gr.Negative l n m) c nots k t st h = refl
pre_then (gr.Least l m) c nots k t st h = refl
pre_then (gr.Apply f us) c nots k t st h = units_then us (slot c nots k) f t st h.no_at ∙ applied_then (slot c nots k) f (pr.unit_expressions us) t st h.no_unit
pre_then (gr.ApplyBare f bs) c nots k t st h =
    bare_then bs (slot c nots k) f t st h.no_at (open_then t h.no_unit) ∙ applied_then (slot c nots k) f (pr.bare_expressions bs) t st h.no_unit
pre_then (gr.Con n) c nots k t st h = con_then (alone (slot c nots k)) n t st h.no_at (open_then t h.no_unit)
pre_then (gr.Alone u) c nots k t st h = firm_then u (alone (slot c nots k)) t st h.no_at

pub product_past : (c : Lefts) (x : Operand) (t : Lexeme) (st : List Frame) → NotProduct t
    → mc.after_pre c x t st ≡ mc.after_prod c.around c.ors c.ands c.cmp c.sum (mc.finished c.prod x) t st
unfolding mc.after_pre
product_past c x (Mark mark.Star l) st h = absurd h
product_past c x (Mark mark.Slash l) st h = absurd h
product_past c x (Mark mark.Mod l) st h = absurd h
product_past c x t st h = refl

pub prod_then : (y : gr.Prod) (k : ℕ) (o a c s : Option Left) (t : Lexeme) (st : List Frame) → EndsProd t
    → mc.expr_step (reach_prod y k o a c s) t st ≡ mc.after_prod k o a c s (pr.prod_operand y) t st
prod_then (gr.OnePre x) k o a c s t st h = pre_then x _ [] _ t st h.ends ∙ product_past (mc.lefts k o a c s None) (pr.pre_operand x) t st h.no_product
prod_then (gr.Times y w l x) k o a c s t st h =
    pre_then x _ [] _ t st h.ends
    ∙ product_past (mc.lefts k o a c s (mc.left (pr.prod_operand y) (pr.product_joint w) l (lv.in_prod y (mc.sum_level k o a c s)))) (pr.pre_operand x) t st h.no_product

pub sign_past : (k : ℕ) (o a c s : Option Left) (x : Operand) (t : Lexeme) (st : List Frame) → NotSign t
    → mc.after_prod k o a c s x t st ≡ mc.after_sum k o a c (mc.finished s x) t st
unfolding mc.after_prod
sign_past k o a c s x (Mark mark.Plus l) st h = absurd h
sign_past k o a c s x (Mark mark.Minus l) st h = absurd h
sign_past k o a c s x t st h = refl

sum_done : (s : gr.Sum) (k : ℕ) → mc.finished (sum_left s k) (pr.prod_operand (last_prod s)) ≡ pr.sum_operand s
sum_done (gr.OneProd y) k = refl
sum_done (gr.Adds s o l y) k = refl

pub sum_then : (s : gr.Sum) (k : ℕ) (o a c : Option Left) (t : Lexeme) (st : List Frame) → EndsSum t
    → mc.expr_step (reach_sum s k o a c) t st ≡ mc.after_sum k o a c (pr.sum_operand s) t st
sum_then s k o a c t st h =
    prod_then (last_prod s) k o a c _ t st h.ends ∙ sign_past k o a c _ (pr.prod_operand (last_prod s)) t st h.no_sign
    ∙ ap (λ x. mc.after_sum k o a c x t st) (sum_done s _)

pub comparison_past : (k : ℕ) (o a c : Option Left) (x : Operand) (t : Lexeme) (st : List Frame) → NotComparison t
    → mc.after_sum k o a c x t st ≡ mc.after_cmp k o a (mc.finished c x) t st
unfolding mc.after_sum
comparison_past k o a c x (Mark mark.Equal l) st h = absurd h
comparison_past k o a c x (Mark mark.Diamond l) st h = absurd h
comparison_past k o a c x (Mark mark.Less l) st h = absurd h
comparison_past k o a c x (Mark mark.LessEqual l) st h = absurd h
comparison_past k o a c x (Mark mark.Greater l) st h = absurd h
comparison_past k o a c x (Mark mark.GreaterEqual l) st h = absurd h
comparison_past k o a c x t st h = refl

pub cmp_then : (x : gr.Cmp) (k : ℕ) (o a : Option Left) (t : Lexeme) (st : List Frame) → EndsCmp t
    → mc.expr_step (reach_cmp x k o a) t st ≡ mc.after_cmp k o a (pr.cmp_operand x) t st
cmp_then (gr.OneSum s) k o a t st h = sum_then s k o a None t st h.ends ∙ comparison_past k o a None (pr.sum_operand s) t st h.no_comparison
cmp_then (gr.Compares s x l y) k o a t st h =
    sum_then y k o a _ t st h.ends
    ∙ comparison_past k o a (mc.left (pr.sum_operand s) (pr.comparison_joint x) l (mc.within a (mc.within o k))) (pr.sum_operand y) t st h.no_comparison

pub and_past : (k : ℕ) (o a : Option Left) (x : Operand) (t : Lexeme) (st : List Frame) → NotAndAnd t
    → mc.after_cmp k o a x t st ≡ mc.after_and k o (mc.finished a x) t st
unfolding mc.after_cmp
and_past k o a x (Mark mark.AndAnd l) st h = absurd h
and_past k o a x t st h = refl

pub and_then : (x : gr.And) (k : ℕ) (o : Option Left) (t : Lexeme) (st : List Frame) → EndsAnd t
    → mc.expr_step (reach_and x k o) t st ≡ mc.after_and k o (pr.and_operand x) t st
and_then (gr.OneCmp c) k o t st h = cmp_then c k o None t st h.ends ∙ and_past k o None (pr.cmp_operand c) t st h.no_and
and_then (gr.Both a l c) k o t st h =
    cmp_then c k o _ t st h.ends ∙ and_past k o (mc.left (pr.and_operand a) pr.AndThen l (lv.in_and a (mc.within o k))) (pr.cmp_operand c) t st h.no_and

pub or_past : (k : ℕ) (o : Option Left) (x : Operand) (t : Lexeme) (st : List Frame) → NotOrOr t
    → mc.after_and k o x t st ≡ mc.close st (mc.finished o x).expression t
unfolding mc.after_and
or_past k o x (Mark mark.OrOr l) st h = absurd h
or_past k o x t st h = refl

pub or_then : (x : gr.Or) (k : ℕ) (t : Lexeme) (st : List Frame) → EndsOr t
    → mc.expr_step (reach_or x k) t st ≡ mc.close st (pr.or_operand x).expression t
or_then (gr.OneAnd a) k t st h = and_then a k None t st h.ends ∙ or_past k None (pr.and_operand a) t st h.no_or
or_then (gr.Either o l a) k t st h =
    and_then a k _ t st h.ends ∙ or_past k (mc.left (pr.or_operand o) pr.OrElse l (lv.in_or o k)) (pr.and_operand a) t st h.no_or

pub expr_then : (e : gr.Expr) (k : ℕ) (st : List Frame) (t : Lexeme) → EndsOr t
    → step (reach_expr e k st).state t (reach_expr e k st).stack ≡ mc.close st (pr.expr_tree e) t
unfolding step mc.expr_step mc.close mc.unwind
expr_then (gr.Let l n m v i b) k st t h = expr_then b (suc k) (mc.LetBody n (pr.expr_tree v) ∷ st) t h
expr_then (gr.If l c m a n b) k st t h = expr_then b (suc k) (mc.IfElse l (pr.expr_tree c) (pr.expr_tree a) ∷ st) t h
expr_then (gr.Match l e m bar as' n) k st t h = refl
expr_then (gr.Chain o) k st t h = or_then o (suc k) t st h

pub ends_or : (t : Lexeme) → mc.begins_argument t ≡ false → NotAt t → NotProduct t → NotSign t → NotComparison t → NotAndAnd t → NotOrOr t → EndsOr t
ends_or t a b c d e f g = record { ends = record { ends = record { ends = record { ends = record { ends = record { no_unit = a; no_at = b }; no_product = c }; no_sign = d }; no_comparison = e }; no_and = f }; no_or = g }

-- ---- operators behind a tree

pub prod_joins : (y : gr.Prod) (w : gr.ProductSign) (k : ℕ) (o a c s : Option Left) (l : ℕ) (st : List Frame)
    → advance (InExpr (reach_prod y k o a c s)) (gr.product_mark w l) st
    ≡ mc.operator_read (lv.in_prod y (mc.sum_level k o a c s)) (mc.lefts k o a c s (mc.left (pr.prod_operand y) (pr.product_joint w) l (lv.in_prod y (mc.sum_level k o a c s)))) st
unfolding mc.after_pre advance step
prod_joins (gr.OnePre x) gr.Star k o a c s l st = pre_then x _ [] _ (Mark mark.Star l) st (record { no_unit = refl; no_at = tt })
prod_joins (gr.OnePre x) gr.Slash k o a c s l st = pre_then x _ [] _ (Mark mark.Slash l) st (record { no_unit = refl; no_at = tt })
prod_joins (gr.OnePre x) gr.Mod k o a c s l st = pre_then x _ [] _ (Mark mark.Mod l) st (record { no_unit = refl; no_at = tt })
prod_joins (gr.Times y v i x) gr.Star k o a c s l st = pre_then x _ [] _ (Mark mark.Star l) st (record { no_unit = refl; no_at = tt })
prod_joins (gr.Times y v i x) gr.Slash k o a c s l st = pre_then x _ [] _ (Mark mark.Slash l) st (record { no_unit = refl; no_at = tt })
prod_joins (gr.Times y v i x) gr.Mod k o a c s l st = pre_then x _ [] _ (Mark mark.Mod l) st (record { no_unit = refl; no_at = tt })

ends_prod : (t : Lexeme) → mc.begins_argument t ≡ false → NotAt t → NotProduct t → EndsProd t
ends_prod t a b c = record { ends = record { no_unit = a; no_at = b }; no_product = c }

pub sum_joins : (y : gr.Sum) (x : gr.Sign) (k : ℕ) (o a c : Option Left) (l : ℕ) (st : List Frame)
    → advance (InExpr (reach_sum y k o a c)) (gr.sign_mark x l) st
    ≡ mc.operator_read (lv.in_sum y (mc.within c (mc.within a (mc.within o k)))) (mc.lefts k o a c (mc.left (pr.sum_operand y) (pr.sign_joint x) l (lv.in_sum y (mc.within c (mc.within a (mc.within o k))))) None) st
unfolding mc.after_prod advance step
sum_joins (gr.OneProd y) gr.Plus k o a c l st = prod_then y k o a c None (Mark mark.Plus l) st (ends_prod (Mark mark.Plus l) refl tt tt)
sum_joins (gr.OneProd y) gr.Minus k o a c l st = prod_then y k o a c None (Mark mark.Minus l) st (ends_prod (Mark mark.Minus l) refl tt tt)
sum_joins (gr.Adds s i j y) gr.Plus k o a c l st = prod_then y k o a c _ (Mark mark.Plus l) st (ends_prod (Mark mark.Plus l) refl tt tt)
sum_joins (gr.Adds s i j y) gr.Minus k o a c l st = prod_then y k o a c _ (Mark mark.Minus l) st (ends_prod (Mark mark.Minus l) refl tt tt)

ends_sum : (t : Lexeme) → mc.begins_argument t ≡ false → NotAt t → NotProduct t → NotSign t → EndsSum t
ends_sum t a b c d = record { ends = ends_prod t a b c; no_sign = d }

pub sum_compares : (y : gr.Sum) (x : gr.Comparison) (k : ℕ) (o a : Option Left) (l : ℕ) (st : List Frame)
    → advance (InExpr (reach_sum y k o a None)) (gr.comparison_mark x l) st
    ≡ mc.operator_read (mc.within a (mc.within o k)) (mc.lefts k o a (mc.left (pr.sum_operand y) (pr.comparison_joint x) l (mc.within a (mc.within o k))) None None) st
unfolding mc.after_sum advance step
sum_compares y gr.Eq k o a l st = sum_then y k o a None (Mark mark.Equal l) st (ends_sum (Mark mark.Equal l) refl tt tt tt)
sum_compares y gr.Ne k o a l st = sum_then y k o a None (Mark mark.Diamond l) st (ends_sum (Mark mark.Diamond l) refl tt tt tt)
sum_compares y gr.Lt k o a l st = sum_then y k o a None (Mark mark.Less l) st (ends_sum (Mark mark.Less l) refl tt tt tt)
sum_compares y gr.Le k o a l st = sum_then y k o a None (Mark mark.LessEqual l) st (ends_sum (Mark mark.LessEqual l) refl tt tt tt)
sum_compares y gr.Gt k o a l st = sum_then y k o a None (Mark mark.Greater l) st (ends_sum (Mark mark.Greater l) refl tt tt tt)
sum_compares y gr.Ge k o a l st = sum_then y k o a None (Mark mark.GreaterEqual l) st (ends_sum (Mark mark.GreaterEqual l) refl tt tt tt)

ends_cmp : (t : Lexeme) → mc.begins_argument t ≡ false → NotAt t → NotProduct t → NotSign t → NotComparison t → EndsCmp t
ends_cmp t a b c d e = record { ends = ends_sum t a b c d; no_comparison = e }

pub and_joins : (y : gr.And) (k : ℕ) (o : Option Left) (l : ℕ) (st : List Frame)
    → mc.expr_step (reach_and y k o) (Mark mark.AndAnd l) st
    ≡ mc.operator_read (lv.in_and y (mc.within o k)) (mc.lefts k o (mc.left (pr.and_operand y) pr.AndThen l (lv.in_and y (mc.within o k))) None None None) st
unfolding mc.after_cmp
and_joins (gr.OneCmp c) k o l st = cmp_then c k o None (Mark mark.AndAnd l) st (ends_cmp (Mark mark.AndAnd l) refl tt tt tt tt)
and_joins (gr.Both a i c) k o l st = cmp_then c k o _ (Mark mark.AndAnd l) st (ends_cmp (Mark mark.AndAnd l) refl tt tt tt tt)

pub or_joins : (y : gr.Or) (k : ℕ) (l : ℕ) (st : List Frame)
    → mc.expr_step (reach_or y k) (Mark mark.OrOr l) st
    ≡ mc.operator_read (lv.in_or y k) (mc.lefts k (mc.left (pr.or_operand y) pr.OrElse l (lv.in_or y k)) None None None None) st
unfolding mc.after_and
or_joins (gr.OneAnd a) k l st = and_then a k None (Mark mark.OrOr l) st (record { ends = ends_cmp (Mark mark.OrOr l) refl tt tt tt tt; no_and = tt })
or_joins (gr.Either o i a) k l st = and_then a k _ (Mark mark.OrOr l) st (record { ends = ends_cmp (Mark mark.OrOr l) refl tt tt tt tt; no_and = tt })

-- ---- states in which a tree may begin

abbrev pub begins_solid : Lexeme → Bool
begins_solid (Number n l) = true
begins_solid (Upper n) = true
begins_solid (Mark mark.True l) = true
begins_solid (Mark mark.False l) = true
begins_solid t = false

pub record AsSolid (q : ExprState) (st : List Frame) (s : Spot) : Type 0 where
  pub on : (t : Lexeme) → begins_solid t ≡ true → advance (InExpr q) t st ≡ mc.unit_step s t st

pub record AsUnit (q : ExprState) (st : List Frame) (s : Spot) : Type 0 where
  pub on : (t : Lexeme) → mc.begins_unit t ≡ true → advance (InExpr q) t st ≡ mc.unit_step s t st

pub record AsPre (q : ExprState) (st : List Frame) (s : Slot) : Type 0 where
  pub on : (t : Lexeme) → mc.begins_pre t ≡ true → advance (InExpr q) t st ≡ mc.slot_step s t st

solid_is_unit : (t : Lexeme) → begins_solid t ≡ true → mc.begins_unit t ≡ true
solid_is_unit (Number n l) h = refl
solid_is_unit (Upper n) h = refl
solid_is_unit (Mark mark.True l) h = refl
solid_is_unit (Mark mark.False l) h = refl
solid_is_unit t h = absurd cc

unit_is_pre : (t : Lexeme) → mc.begins_unit t ≡ true → mc.begins_pre t ≡ true
unit_is_pre (Number n l) h = refl
unit_is_pre (Upper n) h = refl
unit_is_pre (Mark mark.True l) h = refl
unit_is_pre (Mark mark.False l) h = refl
unit_is_pre (Mark mark.Open l) h = refl
unit_is_pre t h = absurd cc

unit_is_argument : (t : Lexeme) → mc.begins_unit t ≡ true → mc.begins_argument t ≡ true
unit_is_argument (Number n l) h = refl
unit_is_argument (Upper n) h = refl
unit_is_argument (Mark mark.True l) h = refl
unit_is_argument (Mark mark.False l) h = refl
unit_is_argument (Mark mark.Open l) h = refl
unit_is_argument t h = absurd cc

slot_unit : (s : Slot) (t : Lexeme) (st : List Frame) → mc.begins_unit t ≡ true → mc.slot_step s t st ≡ mc.unit_step (alone s) t st
unfolding mc.slot_step
slot_unit s (Number n l) st h = refl
slot_unit s (Upper n) st h = refl
slot_unit s (Mark mark.True l) st h = refl
slot_unit s (Mark mark.False l) st h = refl
slot_unit s (Mark mark.Open l) st h = refl
slot_unit s t st h = absurd cc

argument_unit : (s : Slot) (f : Name) (es : List Expression) (t : Lexeme) (st : List Frame) → mc.begins_unit t ≡ true
    → mc.argument_step s f es t st ≡ mc.unit_step (behind s f es) t st
unfolding mc.argument_step
argument_unit s f es (Number n l) st h = refl
argument_unit s f es (Upper n) st h = refl
argument_unit s f es (Mark mark.True l) st h = refl
argument_unit s f es (Mark mark.False l) st h = refl
argument_unit s f es (Mark mark.Open l) st h = refl
argument_unit s f es t st h = absurd cc

inside : (q : ExprState) (t : Lexeme) (st : List Frame) → mc.begins_pre t ≡ true → advance (InExpr q) t st ≡ mc.expr_step q t st
unfolding advance step
inside q (Mark mark.EndOfText l) st h = absurd cc
inside q t st h = refl

pub want_pre_as : (c : Lefts) (nots : List ℕ) (k : ℕ) (st : List Frame) → AsPre (mc.WantPre c nots k) st (slot c nots k)
unfolding mc.expr_step mc.pre_step
want_pre_as c nots k st = record { on = λ t h. inside (mc.WantPre c nots k) t st h ∙ ap (λ b. if b then mc.slot_step (slot c nots k) t st else Stuck) h }

want_past : (k : ℕ) (t : Lexeme) (st : List Frame) → mc.begins_pre t ≡ true
    → mc.want_step k t st ≡ mc.pre_step (mc.lefts (suc k) None None None None None) [] (suc k) t st
unfolding mc.want_step
want_past k (Mark mark.Let l) st h = absurd cc
want_past k (Mark mark.If l) st h = absurd cc
want_past k (Mark mark.Match l) st h = absurd cc
want_past k t st h = refl

pub want_as : (k : ℕ) (st : List Frame) → AsPre (mc.Want k) st (slot (mc.lefts (suc k) None None None None None) [] (suc k))
unfolding mc.expr_step mc.pre_step
want_as k st = record {
  on = λ t h. inside (mc.Want k) t st h ∙ want_past k t st h
      ∙ ap (λ b. if b then mc.slot_step (slot (mc.lefts (suc k) None None None None None) [] (suc k)) t st else Stuck) h;
}

pub pre_as_unit : {q : ExprState} {st : List Frame} {s : Slot} → AsPre q st s → AsUnit q st (alone s)
pre_as_unit {q} {st} {s} as' = record { on = λ t h. as'.on t (unit_is_pre t h) ∙ slot_unit s t st h }

pub unit_as_solid : {q : ExprState} {st : List Frame} {s : Spot} → AsUnit q st s → AsSolid q st s
unit_as_solid as' = record { on = λ t h. as'.on t (solid_is_unit t h) }

not_at : (t : Lexeme) → mc.begins_unit t ≡ true → NotAt t
not_at (Mark mark.At l) h = absurd cc
not_at t h = tt

not_open : (t : Lexeme) → begins_solid t ≡ true → NotOpen t
not_open (Mark mark.Open l) h = absurd cc
not_open t h = tt

applied_unit : (s : Slot) (f : Name) (es : List Expression) (t : Lexeme) (st : List Frame) → mc.begins_unit t ≡ true
    → mc.applied_step s f es t st ≡ mc.unit_step (behind s f es) t st
unfolding mc.applied_step
applied_unit s f es t st h =
    ap (λ b. if b then mc.argument_step s f es t st else mc.after_operand s (mc.applied_operand f es) t st) (unit_is_argument t h) ∙ argument_unit s f es t st h

pub units_as : (us : gr.Units) (s : Slot) (f : Name) (st : List Frame) → AsUnit (reach_units us s f) st (behind s f (pr.unit_expressions us))
units_as us s f st = record {
  on = λ t h.
      inside (reach_units us s f) t st (unit_is_pre t h) ∙ units_then us s f t st (not_at t h) ∙ applied_unit s f (pr.unit_expressions us) t st h;
}

pub bare_as : (bs : gr.Bare) (s : Slot) (f : Name) (st : List Frame) → AsSolid (reach_bare bs s f) st (behind s f (pr.bare_expressions bs))
bare_as bs s f st = record {
  on = λ t h.
      inside (reach_bare bs s f) t st (unit_is_pre t (solid_is_unit t h)) ∙ bare_then bs s f t st (not_at t (solid_is_unit t h)) (not_open t h)
      ∙ applied_unit s f (pr.bare_expressions bs) t st (solid_is_unit t h);
}

pub units_lower : (us : gr.Units) (s : Slot) (f n : Name) (st : List Frame)
    → advance (InExpr (reach_units us s f)) (Lower n) st ≡ Goes s.level (InExpr (mc.Applied s f (pr.unit_expressions us ++ tree.Var n ∷ []))) st
unfolding advance step mc.applied_step mc.argument_step
units_lower us s f n st = units_then us s f (Lower n) st tt

pub bare_lower : (bs : gr.Bare) (s : Slot) (f n : Name) (st : List Frame)
    → advance (InExpr (reach_bare bs s f)) (Lower n) st ≡ Goes s.level (InExpr (mc.Applied s f (pr.bare_expressions bs ++ tree.Var n ∷ []))) st
unfolding advance step mc.applied_step mc.argument_step
bare_lower bs s f n st = bare_then bs s f (Lower n) st tt tt

pub units_upper : (us : gr.Units) (s : Slot) (f n : Name) (st : List Frame)
    → advance (InExpr (reach_units us s f)) (Upper n) st ≡ Goes s.level (InExpr (mc.Con (behind s f (pr.unit_expressions us)) n)) st
unfolding advance step mc.applied_step mc.argument_step mc.unit_step
units_upper us s f n st = units_then us s f (Upper n) st tt

pub bare_upper : (bs : gr.Bare) (s : Slot) (f n : Name) (st : List Frame)
    → advance (InExpr (reach_bare bs s f)) (Upper n) st ≡ Goes s.level (InExpr (mc.Con (behind s f (pr.bare_expressions bs)) n)) st
unfolding advance step mc.applied_step mc.argument_step mc.unit_step
bare_upper bs s f n st = bare_then bs s f (Upper n) st tt tt

-- ---- the whole of an expression

abbrev pub reach_exprs : gr.Exprs → Spot → Name → List Frame → Config
reach_exprs (gr.OneExpr e) s c st = reach_expr e s.slot.level (mc.Args s c [] ∷ st)
reach_exprs (gr.MoreExprs es l e) s c st = reach_expr e s.slot.level (mc.Args s c (pr.expr_trees es) ∷ st)

pub exprs_comma : (es : gr.Exprs) (s : Spot) (c : Name) (l : ℕ) (st : List Frame)
    → advance (reach_exprs es s c st).state (Mark mark.Comma l) (reach_exprs es s c st).stack
    ≡ Goes s.slot.level (InExpr (mc.Want s.slot.level)) (mc.Args s c (pr.expr_trees es) ∷ st)
unfolding advance mc.close mc.unwind mc.close_in
exprs_comma (gr.OneExpr e) s c l st = expr_then e _ _ (Mark mark.Comma l) (ends_or (Mark mark.Comma l) refl tt tt tt tt tt tt)
exprs_comma (gr.MoreExprs es i e) s c l st = expr_then e _ _ (Mark mark.Comma l) (ends_or (Mark mark.Comma l) refl tt tt tt tt tt tt)

pub exprs_close : (es : gr.Exprs) (s : Spot) (c : Name) (l : ℕ) (st : List Frame)
    → advance (reach_exprs es s c st).state (Mark mark.Close l) (reach_exprs es s c st).stack
    ≡ Goes s.slot.level (InExpr (mc.Full s c (pr.expr_trees es))) st
unfolding advance mc.close mc.unwind mc.close_in
exprs_close (gr.OneExpr e) s c l st = expr_then e _ _ (Mark mark.Close l) (ends_or (Mark mark.Close l) refl tt tt tt tt tt tt)
exprs_close (gr.MoreExprs es i e) s c l st = expr_then e _ _ (Mark mark.Close l) (ends_or (Mark mark.Close l) refl tt tt tt tt tt tt)

pub expr_close : (e : gr.Expr) (s : Spot) (l m : ℕ) (st : List Frame)
    → advance (reach_expr e s.slot.level (mc.Paren s l ∷ st)).state (Mark mark.Close m) (reach_expr e s.slot.level (mc.Paren s l ∷ st)).stack
    ≡ Goes s.slot.level (InExpr (mc.unit_done s (record { expression = pr.expr_tree e; line = l }))) st
unfolding advance mc.close mc.unwind mc.close_in
expr_close e s l m st = expr_then e s.slot.level (mc.Paren s l ∷ st) (Mark mark.Close m) (ends_or (Mark mark.Close m) refl tt tt tt tt tt tt)

pub expr_in : (e : gr.Expr) (k : ℕ) (n : Name) (m : ℕ) (st : List Frame)
    → advance (reach_expr e k (mc.LetValue k n ∷ st)).state (Mark mark.In m) (reach_expr e k (mc.LetValue k n ∷ st)).stack
    ≡ Goes k (InExpr (mc.Want k)) (mc.LetBody n (pr.expr_tree e) ∷ st)
unfolding advance mc.close mc.unwind mc.close_in
expr_in e k n m st = expr_then e k (mc.LetValue k n ∷ st) (Mark mark.In m) (ends_or (Mark mark.In m) refl tt tt tt tt tt tt)

pub expr_to_then : (e : gr.Expr) (k l m : ℕ) (st : List Frame)
    → advance (reach_expr e k (mc.IfCond k l ∷ st)).state (Mark mark.Then m) (reach_expr e k (mc.IfCond k l ∷ st)).stack
    ≡ Goes k (InExpr (mc.Want k)) (mc.IfThen k l (pr.expr_tree e) ∷ st)
unfolding advance mc.close mc.unwind mc.close_in
expr_to_then e k l m st = expr_then e k (mc.IfCond k l ∷ st) (Mark mark.Then m) (ends_or (Mark mark.Then m) refl tt tt tt tt tt tt)

pub expr_to_else : (e : gr.Expr) (k l : ℕ) (c : Expression) (m : ℕ) (st : List Frame)
    → advance (reach_expr e k (mc.IfThen k l c ∷ st)).state (Mark mark.Else m) (reach_expr e k (mc.IfThen k l c ∷ st)).stack
    ≡ Goes k (InExpr (mc.Want k)) (mc.IfElse l c (pr.expr_tree e) ∷ st)
unfolding advance mc.close mc.unwind mc.close_in
expr_to_else e k l c m st = expr_then e k (mc.IfThen k l c ∷ st) (Mark mark.Else m) (ends_or (Mark mark.Else m) refl tt tt tt tt tt tt)

abbrev pub matching : ℕ → ℕ → Expression → List Branch → mc.Matching
matching k l e bs = record { level = k; line = l; on = e; arms = bs }

pub expr_with : (e : gr.Expr) (k l m : ℕ) (st : List Frame)
    → advance (reach_expr e k (mc.MatchOn k l ∷ st)).state (Mark mark.With m) (reach_expr e k (mc.MatchOn k l ∷ st)).stack
    ≡ Goes k (InArm (mc.FirstArm (matching k l (pr.expr_tree e) []))) st
unfolding advance mc.close mc.unwind mc.close_in
expr_with e k l m st = expr_then e k (mc.MatchOn k l ∷ st) (Mark mark.With m) (ends_or (Mark mark.With m) refl tt tt tt tt tt tt)

abbrev pub reach_arm : gr.Arm → mc.Matching → List Frame → Config
reach_arm (gr.Case c fs at' l e) m st = reach_expr e m.level (mc.ArmBody m (mc.head c (pr.names_of fs) (pr.cell_of at')) ∷ st)

abbrev pub reach_arms : gr.Arms → ℕ → ℕ → Expression → List Frame → Config
reach_arms (gr.OneArm a) k l on st = reach_arm a (matching k l on []) st
reach_arms (gr.MoreArms as' i a) k l on st = reach_arm a (matching k l on (pr.branches as')) st

arm_bar : (a : gr.Arm) (k l : ℕ) (on : Expression) (bs : List Branch) (m : ℕ) (st : List Frame)
    → advance (reach_arm a (matching k l on bs) st).state (Mark mark.Bar m) (reach_arm a (matching k l on bs) st).stack
    ≡ Goes k (InArm (mc.WantArm (matching k l on (bs ++ pr.branch a ∷ [])))) st
unfolding advance mc.close mc.unwind mc.close_in
arm_bar (gr.Case c fs at' i e) k l on bs m st = expr_then e k _ (Mark mark.Bar m) (ends_or (Mark mark.Bar m) refl tt tt tt tt tt tt)

arm_end : (a : gr.Arm) (k l : ℕ) (on : Expression) (bs : List Branch) (m : ℕ) (st : List Frame)
    → advance (reach_arm a (matching k l on bs) st).state (Mark mark.End m) (reach_arm a (matching k l on bs) st).stack
    ≡ Goes k (InExpr (mc.Whole (tree.Match on (tree.arms (bs ++ pr.branch a ∷ [])) l))) st
unfolding advance mc.close mc.unwind mc.close_in
arm_end (gr.Case c fs at' i e) k l on bs m st = expr_then e k _ (Mark mark.End m) (ends_or (Mark mark.End m) refl tt tt tt tt tt tt)

pub arms_bar : (as' : gr.Arms) (k l : ℕ) (on : Expression) (m : ℕ) (st : List Frame)
    → advance (reach_arms as' k l on st).state (Mark mark.Bar m) (reach_arms as' k l on st).stack
    ≡ Goes k (InArm (mc.WantArm (matching k l on (pr.branches as')))) st
arms_bar (gr.OneArm a) k l on m st = arm_bar a k l on [] m st
arms_bar (gr.MoreArms as' i a) k l on m st = arm_bar a k l on (pr.branches as') m st

pub arms_end : (as' : gr.Arms) (k l : ℕ) (on : Expression) (m : ℕ) (st : List Frame)
    → advance (reach_arms as' k l on st).state (Mark mark.End m) (reach_arms as' k l on st).stack
    ≡ Goes k (InExpr (mc.Whole (tree.Match on (tree.arms (pr.branches as')) l))) st
arms_end (gr.OneArm a) k l on m st = arm_end a k l on [] m st
arms_end (gr.MoreArms as' i a) k l on m st = arm_end a k l on (pr.branches as') m st
