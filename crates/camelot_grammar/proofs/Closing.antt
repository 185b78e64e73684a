-- Each state of the machine goes on to a program: some tokens lead to the end.
use Rattle.std.proofs.Common.{◌≡◌, ℕ, false, List, [], ◌∷◌, ◌++◌, Option, Some, None, refl, ap, ◌∙◌, lit<, lit≤}
use Rattle.std.specs.List.{AllByRecursion}
use Rattle.text_scan.specs.Forms.{token_kind, is_word, is_symbol, words, symbols}
use Rattle.camelot_tree.specs.declared.tree.Name.{Name}
use Rattle.camelot_grammar.specs.declared.lexeme.Mark.TheVariants as mark
use Rattle.camelot_grammar.specs.declared.lexeme.Lexeme.{Lexeme}
use Rattle.camelot_grammar.specs.declared.lexeme.Lexeme.TheVariants.{Lower, Upper, Number, Mark}
use Rattle.camelot_grammar.specs.Lexemes.{IsReal}
use Rattle.camelot_tree.specs.Tree as tree
use Rattle.camelot_tree.specs.Tree.{Expression, Source}
use Rattle.camelot_grammar.specs.Program.{Operand}
use Rattle.camelot_grammar.specs.Machine as mc
use Rattle.camelot_grammar.specs.Machine.{State, InDecl, InExpr, InArm, Finished, ExprState, Frame, Step, Goes, Slot, Spot, Callee, step, advance}
use Rattle.camelot_grammar.proofs.Behind.{Over, ran, raw, EndsPre, EndsOr, ends_or, done_then, full_then, con_then, open_then, applied_then, product_past, sign_past, comparison_past, and_past, or_past}
use Rattle.camelot_grammar.proofs.Concrete as co

abbrev x : Name
x = record { word = 120 ∷ []; line = 0 }

abbrev big_x : Name
big_x = record { word = 88 ∷ []; line = 0 }

abbrev zero : Lexeme
zero = Number 0 0

x_real : IsReal (Lower x)
unfolding token_kind is_word is_symbol words symbols
x_real = ((refl, refl), lit≤ tt)

big_x_real : IsReal (Upper big_x)
unfolding token_kind is_word is_symbol words symbols
big_x_real = (refl, lit≤ tt)

zero_real : IsReal zero
zero_real = lit< tt

-- these tokens lead to the end of a program
pub record Completes (s : State) (st : List Frame) (ts : List Lexeme) : Type 0 where
  pub source : Source
  pub ends : raw s st ts ≡ Over (Goes 0 (Finished source) [])
  pub real : AllByRecursion IsReal ts

-- ---- states that do the same

advance_same : (s s2 : State) (st st2 : List Frame) → ((t : Lexeme) → step s t st ≡ step s2 t st2) → (t : Lexeme) → advance s t st ≡ advance s2 t st2
unfolding advance
advance_same s s2 st st2 h (Mark mark.EndOfText l) = refl
advance_same s s2 st st2 h t = h t

raw_same : (s s2 : State) (st st2 : List Frame) → ((t : Lexeme) → step s t st ≡ step s2 t st2) → (ts : List Lexeme) → raw s st ts ≡ raw s2 st2 ts
raw_same s s2 st st2 h [] = ap Over (h (Mark mark.EndOfText 0))
raw_same s s2 st st2 h (t ∷ ts) = ap (λ y. ran y (λ s3 st3. raw s3 st3 ts) (t ∷ ts)) (advance_same s s2 st st2 h t)

-- the tokens end an expression
abbrev ClosesFirst : List Lexeme → Type 0
ClosesFirst [] = Unit {0}
ClosesFirst (t ∷ ts) = EndsOr t

advance_closes : (q q2 : ExprState) (st : List Frame) → ((t : Lexeme) → EndsOr t → mc.expr_step q t st ≡ mc.expr_step q2 t st)
    → (t : Lexeme) → EndsOr t → advance (InExpr q) t st ≡ advance (InExpr q2) t st
unfolding advance step
advance_closes q q2 st h (Mark mark.EndOfText l) i = refl
advance_closes q q2 st h t i = h t i

raw_closes : (q q2 : ExprState) (st : List Frame) → ((t : Lexeme) → EndsOr t → mc.expr_step q t st ≡ mc.expr_step q2 t st)
    → (ts : List Lexeme) → ClosesFirst ts → raw (InExpr q) st ts ≡ raw (InExpr q2) st ts
unfolding step
raw_closes q q2 st h [] i = ap Over (h (Mark mark.EndOfText 0) (ends_or (Mark mark.EndOfText 0) refl tt tt tt tt tt tt))
raw_closes q q2 st h (t ∷ ts) i = ap (λ y. ran y (λ s3 st3. raw s3 st3 ts) (t ∷ ts)) (advance_closes q q2 st h t i)

-- ---- what is read ends as a whole expression

abbrev whole : Slot → Operand → Expression
whole s y = (mc.finished s.lefts.ors (mc.finished s.lefts.ands (mc.finished s.lefts.cmp (mc.finished s.lefts.sum (mc.finished s.lefts.prod (mc.negated_all s.nots y)))))).expression

operand_past : (s : Slot) (y : Operand) (t : Lexeme) (st : List Frame) → EndsOr t → mc.after_operand s y t st ≡ mc.close st (whole s y) t
unfolding mc.after_operand
operand_past s y t st h =
    product_past s.lefts (mc.negated_all s.nots y) t st h.ends.ends.ends.ends.no_product
    ∙ sign_past _ _ _ _ _ _ t st h.ends.ends.ends.no_sign
    ∙ comparison_past _ _ _ _ _ t st h.ends.ends.no_comparison
    ∙ and_past _ _ _ _ t st h.ends.no_and
    ∙ or_past _ _ _ t st h.no_or

-- the state acts as a whole expression where one ends
record Acts (q : ExprState) (st : List Frame) : Type 0 where
  expression : Expression
  on : (t : Lexeme) → EndsOr t → mc.expr_step q t st ≡ mc.close st expression t

no_at_of : {t : Lexeme} → EndsOr t → EndsPre t
no_at_of h = h.ends.ends.ends.ends.ends

have_acts : (s : Slot) (y : Operand) (st : List Frame) → Acts (mc.Have s y) st
unfolding mc.expr_step
have_acts s y st = record { expression = whole s y; on = λ t h. operand_past s y t st h }

applied_acts : (s : Slot) (f : Name) (es : List Expression) (st : List Frame) → Acts (mc.Applied s f es) st
unfolding mc.expr_step
applied_acts s f es st = record {
  expression = whole s (mc.applied_operand f es);
  on = λ t h.
      applied_then s f es t st (no_at_of h).no_unit ∙ operand_past s (mc.applied_operand f es) t st h;
}

after_unit_expression : (c : Option Callee) (s : Slot) (y : Operand) (st : List Frame)
    → (e : Expression) × ((t : Lexeme) → EndsOr t → mc.after_unit_of c s y t st ≡ mc.close st e t)
after_unit_expression None s y st = (whole s y, λ t h. operand_past s y t st h)
after_unit_expression (Some c) s y st = (
  whole s (mc.applied_operand c.fun (c.args ++ y.expression ∷ [])),
  λ t h.
      applied_then s c.fun (c.args ++ y.expression ∷ []) t st (no_at_of h).no_unit ∙ operand_past s _ t st h,
)

unit_acts : (s : Spot) (y : Operand) (st : List Frame) → Acts (mc.unit_done s y) st
unfolding mc.after_unit
unit_acts s y st = let k = after_unit_expression s.call s.slot y st in record { expression = k.0; on = λ t h. done_then s y t st ∙ k.1 t h }

full_acts : (s : Spot) (c : Name) (es : List Expression) (st : List Frame) → Acts (mc.Full s c es) st
unfolding mc.after_unit
full_acts s c es st = let k = after_unit_expression s.call s.slot (mc.built c es None) st in
    record { expression = k.0; on = λ t h. full_then s c es t st (no_at_of h).no_at ∙ k.1 t h }

con_acts : (s : Spot) (c : Name) (st : List Frame) → Acts (mc.Con s c) st
unfolding mc.after_unit
con_acts s c st = let k = after_unit_expression s.call s.slot (mc.built c [] None) st in
    record { expression = k.0; on = λ t h. con_then s c t st (no_at_of h).no_at (open_then t (no_at_of h).no_unit) ∙ k.1 t h }

-- every whole expression goes on with these tokens to the end
record Goes_on (st : List Frame) (ts : List Lexeme) : Type 0 where
  first : ClosesFirst ts
  each : (e : Expression) → Completes (InExpr (mc.Whole e)) st ts

acts_complete : {q : ExprState} {st : List Frame} {ts : List Lexeme} → Acts q st → Goes_on st ts → Completes (InExpr q) st ts
unfolding mc.expr_step
acts_complete {q} {st} {ts} a g = let k = g.each a.expression in record {
  source = k.source;
  ends = raw_closes q (mc.Whole a.expression) st a.on ts g.first ∙ k.ends;
  real = k.real;
}

-- one token further
next : {s : State} {st : List Frame} {t : Lexeme} {ts : List Lexeme} {k : ℕ} {s2 : State} {st2 : List Frame}
    → advance s t st ≡ Goes k s2 st2 → IsReal t → Completes s2 st2 ts → Completes s st (t ∷ ts)
next {s} {st} {t} {ts} e r h = record {
  source = h.source;
  ends = ap (λ y. ran y (λ s3 st3. raw s3 st3 ts) (t ∷ ts)) e ∙ h.ends;
  real = (r, h.real);
}

want_completes : {st : List Frame} {ts : List Lexeme} (k : ℕ) → Goes_on st ts → Completes (InExpr (mc.Want k)) st (zero ∷ ts)
unfolding advance step mc.expr_step mc.want_step mc.pre_step mc.slot_step mc.unit_step
want_completes k g = next refl zero_real (acts_complete (have_acts _ _ _) g)

-- ---- the tokens that close a stack

abbrev closing : co.Stack → List Lexeme
closing (co.Body ds l n ps k m) = []
closing (co.Paren c nots y l st) = Mark mark.Close 0 ∷ closing st
closing (co.Args c nots y n l es st) = Mark mark.Close 0 ∷ closing st
closing (co.LetValue k l n m st) = Mark mark.In 0 ∷ zero ∷ closing st
closing (co.LetBody l n m e i st) = closing st
closing (co.IfCond k l st) = Mark mark.Then 0 ∷ zero ∷ Mark mark.Else 0 ∷ zero ∷ closing st
closing (co.IfThen k l c m st) = Mark mark.Else 0 ∷ zero ∷ closing st
closing (co.IfElse l c m a n st) = closing st
closing (co.MatchOn k l st) = Mark mark.With 0 ∷ Upper big_x ∷ Mark mark.Arrow 0 ∷ zero ∷ Mark mark.End 0 ∷ closing st
closing (co.ArmBody m c fs y l st) = Mark mark.End 0 ∷ closing st

closer : (t : Lexeme) → mc.begins_argument t ≡ false → EndsOr t → EndsOr t
closer t a h = h

-- the body of a `let` ends with what is around it, and so does an `else`
let_same : (n : Name) (v e : Expression) (st : List Frame) (t : Lexeme)
    → step (InExpr (mc.Whole e)) t (mc.LetBody n v ∷ st) ≡ step (InExpr (mc.Whole (tree.Let n v e))) t st
unfolding step mc.expr_step mc.close mc.unwind
let_same n v e st t = refl

else_same : (l : ℕ) (c a e : Expression) (st : List Frame) (t : Lexeme)
    → step (InExpr (mc.Whole e)) t (mc.IfElse l c a ∷ st) ≡ step (InExpr (mc.Whole (tree.If c a e l))) t st
unfolding step mc.expr_step mc.close mc.unwind
else_same l c a e st t = refl

in_let : {n : Name} {v : Expression} {st : List Frame} {ts : List Lexeme} → Goes_on st ts → Goes_on (mc.LetBody n v ∷ st) ts
in_let {n} {v} {st} {ts} g = record {
  first = g.first;
  each = λ e. let k = g.each (tree.Let n v e) in
      record { source = k.source; ends = raw_same _ _ _ _ (let_same n v e st) ts ∙ k.ends; real = k.real };
}

in_else : {l : ℕ} {c a : Expression} {st : List Frame} {ts : List Lexeme} → Goes_on st ts → Goes_on (mc.IfElse l c a ∷ st) ts
in_else {l} {c} {a} {st} {ts} g = record {
  first = g.first;
  each = λ e. let k = g.each (tree.If c a e l) in
      record { source = k.source; ends = raw_same _ _ _ _ (else_same l c a e st) ts ∙ k.ends; real = k.real };
}

goes_on : (st : co.Stack) → Goes_on (co.frames st) (closing st)
unfolding advance step mc.expr_step mc.close mc.unwind mc.close_in mc.top_step mc.arm_step mc.arm_end_step mc.arrow_step
goes_on (co.Body ds l n ps k m) = record { first = tt; each = λ e. record { source = _; ends = refl; real = tt } }
goes_on (co.Paren c nots y l st) = record {
  first = ends_or (Mark mark.Close 0) refl tt tt tt tt tt tt;
  each = λ e. next refl tt (acts_complete (unit_acts (co.spot_of c nots (co.Firm y)) (record { expression = e; line = l }) (co.frames st)) (goes_on st));
}
goes_on (co.Args c nots y n l es st) = record {
  first = ends_or (Mark mark.Close 0) refl tt tt tt tt tt tt;
  each = λ e. next refl tt (acts_complete (full_acts (co.spot_of c nots y) n (co.some_expressions es ++ e ∷ []) (co.frames st)) (goes_on st));
}
goes_on (co.LetValue k l n m st) = record {
  first = ends_or (Mark mark.In 0) refl tt tt tt tt tt tt;
  each = λ e. next refl tt (want_completes k (in_let (goes_on st)));
}
goes_on (co.LetBody l n m e i st) = in_let (goes_on st)
goes_on (co.IfCond k l st) = record {
  first = ends_or (Mark mark.Then 0) refl tt tt tt tt tt tt;
  each = λ e. next refl tt (want_completes k (record { first = ends_or (Mark mark.Else 0) refl tt tt tt tt tt tt; each = λ f. next refl tt (want_completes k (in_else (goes_on st))) }));
}
goes_on (co.IfThen k l c m st) = record {
  first = ends_or (Mark mark.Else 0) refl tt tt tt tt tt tt;
  each = λ e. next refl tt (want_completes k (in_else (goes_on st)));
}
goes_on (co.IfElse l c m a n st) = in_else (goes_on st)
goes_on (co.MatchOn k l st) = record {
  first = ends_or (Mark mark.With 0) refl tt tt tt tt tt tt;
  each = λ e. next refl tt (next refl big_x_real (next refl tt (want_completes k
      (record { first = ends_or (Mark mark.End 0) refl tt tt tt tt tt tt; each = λ f. next refl tt ((goes_on st).each _) }))));
}
goes_on (co.ArmBody m c fs y l st) = record {
  first = ends_or (Mark mark.End 0) refl tt tt tt tt tt tt;
  each = λ e. next refl tt ((goes_on st).each _);
}

-- ---- each state

pub record Completed (s : State) (st : List Frame) : Type 0 where
  pub more : List Lexeme
  pub completes : Completes s st more

by_ : {s : State} {st : List Frame} {ts : List Lexeme} → Completes s st ts → Completed s st
by_ {s} {st} {ts} h = record { more = ts; completes = h }

-- the rest of a function, from its `=` on
equals : (ds : co.DeclState) → Completes (InDecl (co.decl_state ds)) [] (Mark mark.Equal 0 ∷ zero ∷ []) → Completed (InDecl (co.decl_state ds)) []
equals ds h = by_ h

body_goes_on : (d : mc.FunDraft) (r : Option _) → Goes_on (mc.Body d r ∷ []) []
unfolding step mc.expr_step mc.close mc.unwind mc.close_in mc.top_step
body_goes_on d r = record { first = tt; each = λ e. record { source = _; ends = refl; real = tt } }

param_completes : (d : mc.FunDraft) → Completes (InDecl (mc.NextParam d)) [] (Mark mark.Equal 0 ∷ zero ∷ [])
unfolding advance step mc.decl_step mc.fun_step
param_completes d = next refl tt (want_completes 0 (body_goes_on d None))

top_completes : (p : Source) → Completes (InDecl (mc.Top p)) [] []
unfolding step mc.decl_step mc.top_step
top_completes p = record { source = p; ends = refl; real = tt }

con_completes : (d : mc.TypeDraft) → Completes (InDecl (mc.HaveCon d)) [] []
unfolding step mc.decl_step mc.type_step mc.con_step mc.top_step
con_completes d = record { source = _; ends = refl; real = tt }

bare_completes : (d : mc.TypeDraft) (n : Name) → Completes (InDecl (mc.BareCon d n)) [] []
unfolding step mc.decl_step mc.type_step mc.con_step mc.top_step
bare_completes d n = record { source = _; ends = refl; real = tt }

field_completes : (d : mc.TypeDraft) (n : Name) (as' : List _) → Completes (InDecl (mc.HaveField d n as')) [] []
unfolding step mc.decl_step mc.type_step mc.con_step mc.top_step
field_completes d n as' = record { source = _; ends = refl; real = tt }

decl_completed : (s : mc.DeclState) → Completed (InDecl s) []
unfolding advance step mc.decl_step mc.type_step mc.fun_step mc.param_step
decl_completed (mc.Top p) = by_ (top_completes p)
decl_completed (mc.TypeName p) = by_ (next {t = Lower x} refl x_real (next {t = Mark mark.Equal 0} refl tt (next {t = Upper big_x} refl big_x_real (bare_completes _ _))))
decl_completed (mc.TypeEquals p n) = by_ (next {t = Mark mark.Equal 0} refl tt (next {t = Upper big_x} refl big_x_real (bare_completes _ _)))
decl_completed (mc.WantCon d) = by_ (next {t = Upper big_x} refl big_x_real (bare_completes _ _))
decl_completed (mc.InlineCon d) = by_ (next {t = Upper big_x} refl big_x_real (con_completes _))
decl_completed (mc.BareCon d n) = by_ (bare_completes d n)
decl_completed (mc.WantField d n as') = by_ (next {t = Mark mark.Int 0} refl tt (field_completes _ _ _))
decl_completed (mc.HaveField d n as') = by_ (field_completes d n as')
decl_completed (mc.HaveCon d) = by_ (con_completes d)
decl_completed (mc.FunName p) = by_ (next {t = Lower x} refl x_real (next {t = Lower x} refl x_real (param_completes _)))
decl_completed (mc.FirstParam p n) = by_ (next {t = Lower x} refl x_real (param_completes _))
decl_completed (mc.NextParam d) = by_ (param_completes d)
decl_completed (mc.OpenParam d) = by_ (next {t = Lower x} refl x_real (next {t = Mark mark.Close 0} refl tt (param_completes _)))
decl_completed (mc.ReadParam d) = by_ (next {t = Lower x} refl x_real (next {t = Mark mark.Close 0} refl tt (param_completes _)))
decl_completed (mc.ParamName d n b) = by_ (next {t = Mark mark.Close 0} refl tt (param_completes _))
decl_completed (mc.ParamKind d n b) = by_ (next {t = Mark mark.Int 0} refl tt (next {t = Mark mark.Close 0} refl tt (param_completes _)))
decl_completed (mc.ParamClose d p) = by_ (next {t = Mark mark.Close 0} refl tt (param_completes _))
decl_completed (mc.ResultKind d) = by_ (next {t = Mark mark.Int 0} refl tt (next {t = Mark mark.Equal 0} refl tt (want_completes 0 (body_goes_on d _))))
decl_completed (mc.ResultEquals d a) = by_ (next {t = Mark mark.Equal 0} refl tt (want_completes 0 (body_goes_on d (Some a))))

arrow_completes : (m : mc.Matching) (h : mc.ArmHead) (st : co.Stack)
    → Completes (InExpr (mc.Want m.level)) (mc.ArmBody m h ∷ co.frames st) (zero ∷ Mark mark.End 0 ∷ closing st)
unfolding advance step mc.expr_step mc.close mc.unwind mc.close_in
arrow_completes m h st = want_completes m.level (record { first = ends_or (Mark mark.End 0) refl tt tt tt tt tt tt; each = λ f. next refl tt ((goes_on st).each _) })

arm_completed : (s : mc.ArmState) (st : co.Stack) → Completed (InArm s) (co.frames st)
unfolding advance step mc.arm_step mc.arm_end_step mc.arrow_step mc.arm_name_step
arm_completed (mc.FirstArm m) st = by_ (next {t = Upper big_x} refl big_x_real (next {t = Mark mark.Arrow 0} refl tt (arrow_completes _ _ st)))
arm_completed (mc.WantArm m) st = by_ (next {t = Upper big_x} refl big_x_real (next {t = Mark mark.Arrow 0} refl tt (arrow_completes _ _ st)))
arm_completed (mc.ArmCon m c) st = by_ (next {t = Mark mark.Arrow 0} refl tt (arrow_completes _ _ st))
arm_completed (mc.WantName m c fs) st = by_ (next {t = Mark mark.Blank 0} refl tt (next {t = Mark mark.Close 0} refl tt (next {t = Mark mark.Arrow 0} refl tt (arrow_completes _ _ st))))
arm_completed (mc.HaveName m c fs) st = by_ (next {t = Mark mark.Close 0} refl tt (next {t = Mark mark.Arrow 0} refl tt (arrow_completes _ _ st)))
arm_completed (mc.HaveNames m c fs) st = by_ (next {t = Mark mark.Arrow 0} refl tt (arrow_completes _ _ st))
arm_completed (mc.WantCell m c fs) st = by_ (next {t = Mark mark.Blank 0} refl tt (next {t = Mark mark.Arrow 0} refl tt (arrow_completes _ _ st)))
arm_completed (mc.WantArrow m h) st = by_ (next {t = Mark mark.Arrow 0} refl tt (arrow_completes _ _ st))

value_goes_on : (k : ℕ) (n : Name) (st : co.Stack) → Goes_on (mc.LetValue k n ∷ co.frames st) (Mark mark.In 0 ∷ zero ∷ closing st)
unfolding advance step mc.expr_step mc.close mc.unwind mc.close_in
value_goes_on k n st = record { first = ends_or (Mark mark.In 0) refl tt tt tt tt tt tt; each = λ e. next refl tt (want_completes k (in_let (goes_on st))) }

expr_completed : (s : mc.ExprState) (st : co.Stack) → Completed (InExpr s) (co.frames st)
unfolding advance step mc.expr_step mc.let_step mc.pre_step mc.slot_step mc.unit_step mc.negative_step mc.placed_step
expr_completed (mc.Want k) st = by_ (want_completes k (goes_on st))
expr_completed (mc.LetName k) st = by_ (next {t = Lower x} refl x_real (next {t = Mark mark.Equal 0} refl tt (want_completes k (value_goes_on k x st))))
expr_completed (mc.LetEquals k n) st = by_ (next {t = Mark mark.Equal 0} refl tt (want_completes k (value_goes_on k n st)))
expr_completed (mc.WantPre c nots k) st = by_ (next {t = zero} refl zero_real (acts_complete (have_acts _ _ _) (goes_on st)))
expr_completed (mc.Negative s l) st = by_ (next {t = zero} refl zero_real (acts_complete (have_acts _ _ _) (goes_on st)))
expr_completed (mc.Applied s f es) st = by_ (acts_complete (applied_acts s f es (co.frames st)) (goes_on st))
expr_completed (mc.Have s y) st = by_ (acts_complete (have_acts s y (co.frames st)) (goes_on st))
expr_completed (mc.Con s c) st = by_ (acts_complete (con_acts s c (co.frames st)) (goes_on st))
expr_completed (mc.Full s c es) st = by_ (acts_complete (full_acts s c es (co.frames st)) (goes_on st))
expr_completed (mc.Placed s c es) st = by_ (next {t = Lower x} refl x_real (acts_complete (unit_acts s (mc.built c es (Some x)) (co.frames st)) (goes_on st)))
expr_completed (mc.Whole e) st = by_ ((goes_on st).each e)

pub completed : (c : co.Config) → Completed (co.state_of c) (co.stack_of c)
completed (co.InDecls s) = decl_completed (co.decl_state s)
completed (co.InExprs s st) = expr_completed (co.expr_state s) st
completed (co.InArms s st) = arm_completed (co.arm_state s) st
