-- The machine reads what a tree of the grammar spells, with the tree's levels.
use Rattle.std.proofs.Common.{◌≡◌, ℕ, suc, List, [], ◌∷◌, ◌++◌, Option, None, refl}
use Rattle.camelot_tree.specs.declared.tree.Name.{Name}
use Rattle.camelot_tree.specs.declared.tree.ArmCell.TheVariants as cell
use Rattle.camelot_grammar.specs.declared.lexeme.Mark.TheVariants as mark
use Rattle.camelot_grammar.specs.declared.lexeme.Lexeme.{Lexeme}
use Rattle.camelot_grammar.specs.declared.lexeme.Lexeme.TheVariants.{Lower, Upper, Number, Mark}
use Rattle.camelot_tree.specs.Tree.{Expression}
use Rattle.camelot_grammar.specs.Grammar as gr
use Rattle.camelot_grammar.specs.Program as pr
use Rattle.camelot_grammar.specs.Program.{Operand}
use Rattle.camelot_grammar.specs.Levels as lv
use Rattle.camelot_grammar.specs.Machine as mc
use Rattle.camelot_grammar.proofs.Behind.{End, Gives, at, one, go, slot, alone, behind, reach_solid, reach_firm, reach_bare, reach_units, reach_pre, reach_prod, reach_sum, reach_cmp, reach_and, reach_or, reach_expr, reach_exprs, reach_arm, reach_arms, matching, prod_joins, sum_joins, sum_compares, and_joins, or_joins, AsSolid, AsUnit, AsPre, want_pre_as, want_as, pre_as_unit, unit_as_solid, units_as, bare_as, units_lower, bare_lower, units_upper, bare_upper, exprs_comma, exprs_close, expr_close, expr_in, expr_to_then, expr_to_else, expr_with, arms_bar, arms_end}
use Rattle.camelot_grammar.specs.Machine.{State, InDecl, InExpr, InArm, Finished, ExprState, Frame, Step, Stuck, Goes, Left, Lefts, Slot, Spot, Callee, step, advance}

-- ---- the head of an arm

field_step : (f : gr.Field) (m : mc.Matching) (c : Name) (fs : List (Option Name)) (st : List Frame)
    → advance (InArm (mc.WantName m c fs)) (gr.field_lexeme f) st ≡ Goes m.level (InArm (mc.HaveName m c (fs ++ pr.field_name f ∷ []))) st
unfolding advance step mc.arm_step mc.arm_name_step
field_step (gr.Named n) m c fs st = refl
field_step (gr.Blank l) m c fs st = refl

field_list_gives : (fs : gr.FieldList) (m : mc.Matching) (c : Name) (st : List Frame) (ts : List Lexeme) (ls : List ℕ) (z : End)
    → Gives (one (InArm (mc.HaveName m c (pr.field_names fs))) st) ts ls z
    → Gives (one (InArm (mc.WantName m c [])) st) (gr.spell_field_list fs ts) (lv.levels_field_list fs m.level ls) z
unfolding advance step mc.arm_step
field_list_gives (gr.OneField f) m c st ts ls z h = go (field_step f m c [] st) h
field_list_gives (gr.MoreFields fs l f) m c st ts ls z h =
    field_list_gives fs m c st _ _ z (go refl (go (field_step f m c (pr.field_names fs) st) h))

-- the tokens `@` and `->` stand behind the fields of an arm
record AsArmEnd (q : mc.ArmState) (m : mc.Matching) (c : Name) (fs : List (Option Name)) (st : List Frame) : Type 0 where
  at_sign : (l : ℕ) → advance (InArm q) (Mark mark.At l) st ≡ Goes m.level (InArm (mc.WantCell m c fs)) st
  arrow : (l : ℕ) → advance (InArm q) (Mark mark.Arrow l) st ≡ Goes m.level (InExpr (mc.Want m.level)) (mc.ArmBody m (mc.head c fs cell.Plain) ∷ st)

no_fields_as : (m : mc.Matching) (c : Name) (st : List Frame) → AsArmEnd (mc.ArmCon m c) m c [] st
unfolding advance step mc.arm_step mc.arm_end_step mc.arrow_step
no_fields_as m c st = record { at_sign = λ l. refl; arrow = λ l. refl }

have_names_as : (m : mc.Matching) (c : Name) (fs : List (Option Name)) (st : List Frame) → AsArmEnd (mc.HaveNames m c fs) m c fs st
unfolding advance step mc.arm_step mc.arm_end_step mc.arrow_step
have_names_as m c fs st = record { at_sign = λ l. refl; arrow = λ l. refl }

cell_gives : (x : gr.Cell) (q : mc.ArmState) (m : mc.Matching) (c : Name) (fs : List (Option Name)) (l : ℕ) (st : List Frame) (ts : List Lexeme) (ls : List ℕ) (z : End)
    → AsArmEnd q m c fs st
    → Gives (at (mc.Want m.level) (mc.ArmBody m (mc.head c fs (pr.cell_of x)) ∷ st)) ts ls z
    → Gives (one (InArm q) st) (gr.spell_cell x (Mark mark.Arrow l ∷ ts)) (lv.levels_cell x m.level (m.level ∷ ls)) z
unfolding advance step mc.arm_step mc.arrow_step
cell_gives gr.NoCell q m c fs l st ts ls z as' h = go (as'.arrow l) h
cell_gives (gr.AtField i (gr.Named n)) q m c fs l st ts ls z as' h = go (as'.at_sign i) (go refl (go refl h))
cell_gives (gr.AtField i (gr.Blank j)) q m c fs l st ts ls z as' h = go (as'.at_sign i) (go refl (go refl h))

head_gives : (fs : gr.Fields) (x : gr.Cell) (m : mc.Matching) (c : Name) (l : ℕ) (st : List Frame) (ts : List Lexeme) (ls : List ℕ) (z : End)
    → Gives (at (mc.Want m.level) (mc.ArmBody m (mc.head c (pr.names_of fs) (pr.cell_of x)) ∷ st)) ts ls z
    → Gives (one (InArm (mc.ArmCon m c)) st) (gr.spell_fields fs (gr.spell_cell x (Mark mark.Arrow l ∷ ts))) (lv.levels_fields fs m.level (lv.levels_cell x m.level (m.level ∷ ls))) z
unfolding advance step mc.arm_step
head_gives gr.NoFields x m c l st ts ls z h = cell_gives x (mc.ArmCon m c) m c [] l st ts ls z (no_fields_as m c st) h
head_gives (gr.InParens i fs j) x m c l st ts ls z h =
    go refl (field_list_gives fs m c st _ _ z (go refl (cell_gives x (mc.HaveNames m c (pr.field_names fs)) m c (pr.field_names fs) l st ts ls z (have_names_as m c (pr.field_names fs) st) h)))

-- ---- expressions

place_gives : (x : gr.Place) (s : Spot) (c : Name) (l : ℕ) (es : gr.Exprs) (i j : ℕ) (st : List Frame) (ts : List Lexeme) (ls : List ℕ) (z : End)
    → Gives (at (reach_solid (gr.Full c i es j x) s) st) ts ls z
    → Gives (at (mc.Full s c (pr.expr_trees es)) st) (gr.spell_place x ts) (lv.levels_place x s.slot.level ls) z
unfolding advance step mc.expr_step mc.full_step mc.placed_step
place_gives gr.NoPlace s c l es i j st ts ls z h = h
place_gives (gr.At k d) s c l es i j st ts ls z h = go refl (go refl h)

mutual
  unfolding advance step mc.expr_step mc.unit_step mc.con_unit_step mc.placed_step mc.slot_step mc.negative_step mc.want_step mc.let_step mc.arm_step

  pub solid_gives : (u : gr.Solid) (q : ExprState) (s : Spot) (st : List Frame) (ts : List Lexeme) (ls : List ℕ) (z : End) → AsSolid q st s
      → Gives (at (reach_solid u s) st) ts ls z → Gives (at q st) (gr.spell_solid u ts) (lv.levels_solid u s.slot.level ls) z
  solid_gives (gr.Literal n l) q s st ts ls z as' h = go (as'.on (Number n l) refl) h
  solid_gives (gr.True l) q s st ts ls z as' h = go (as'.on (Mark mark.True l) refl) h
  solid_gives (gr.False l) q s st ts ls z as' h = go (as'.on (Mark mark.False l) refl) h
  solid_gives (gr.Full c l es m x) q s st ts ls z as' h =
      go (as'.on (Upper c) refl) (go refl (exprs_gives es s c st _ _ z (go (exprs_close es s c m st) (place_gives x s c l es l m st ts ls z h))))
  solid_gives (gr.Placed c l d) q s st ts ls z as' h = go (as'.on (Upper c) refl) (go refl (go refl h))

  pub firm_gives : (u : gr.Firm) (q : ExprState) (s : Spot) (st : List Frame) (ts : List Lexeme) (ls : List ℕ) (z : End) → AsUnit q st s
      → Gives (at (reach_firm u s) st) ts ls z → Gives (at q st) (gr.spell_firm u ts) (lv.levels_firm u s.slot.level ls) z
  firm_gives (gr.Is u) q s st ts ls z as' h = solid_gives u q s st ts ls z (unit_as_solid as') h
  firm_gives (gr.Paren l e m) q s st ts ls z as' h =
      go (as'.on (Mark mark.Open l) refl) (expr_gives e s.slot.level (mc.Paren s l ∷ st) _ _ z (go (expr_close e s l m st) h))

  pub units_gives : (us : gr.Units) (s : Slot) (f : Name) (st : List Frame) (ts : List Lexeme) (ls : List ℕ) (z : End)
      → Gives (at (reach_units us s f) st) ts ls z → Gives (at (mc.Applied s f []) st) (gr.spell_units us ts) (lv.levels_units us s.level ls) z
  units_gives gr.NoUnits s f st ts ls z h = h
  units_gives (gr.AndLower us n) s f st ts ls z h = units_gives us s f st _ _ z (go (units_lower us s f n st) h)
  units_gives (gr.AndFirm us u) s f st ts ls z h =
      units_gives us s f st _ _ z (firm_gives u (reach_units us s f) (behind s f (pr.unit_expressions us)) st ts ls z (units_as us s f st) h)
  units_gives (gr.BareLower bs n) s f st ts ls z h = bare_gives bs s f st _ _ z (go (bare_lower bs s f n st) h)
  units_gives (gr.BareSolid bs u) s f st ts ls z h =
      bare_gives bs s f st _ _ z (solid_gives u (reach_bare bs s f) (behind s f (pr.bare_expressions bs)) st ts ls z (bare_as bs s f st) h)

  pub bare_gives : (bs : gr.Bare) (s : Slot) (f : Name) (st : List Frame) (ts : List Lexeme) (ls : List ℕ) (z : End)
      → Gives (at (reach_bare bs s f) st) ts ls z → Gives (at (mc.Applied s f []) st) (gr.spell_bare bs ts) (lv.levels_bare bs s.level ls) z
  bare_gives (gr.AndUpper us n) s f st ts ls z h = units_gives us s f st _ _ z (go (units_upper us s f n st) h)
  bare_gives (gr.BareUpper bs n) s f st ts ls z h = bare_gives bs s f st _ _ z (go (bare_upper bs s f n st) h)

  pub pre_gives : (x : gr.Pre) (q : ExprState) (c : Lefts) (nots : List ℕ) (k : ℕ) (st : List Frame) (ts : List Lexeme) (ls : List ℕ) (z : End)
      → AsPre q st (slot c nots k)
      → Gives (at (reach_pre x c nots k) st) ts ls z → Gives (at q st) (gr.spell_pre x ts) (lv.levels_pre x k ls) z
  pre_gives (gr.Not l x) q c nots k st ts ls z as' h =
      go (as'.on (Mark mark.Not l) refl) (pre_gives x (mc.WantPre c (l ∷ nots) (suc k)) c (l ∷ nots) (suc k) st ts ls z (want_pre_as c (l ∷ nots) (suc k) st) h)
  pre_gives (gr.Negative l n m) q c nots k st ts ls z as' h = go (as'.on (Mark mark.Minus l) refl) (go refl h)
  pre_gives (gr.Least l m) q c nots k st ts ls z as' h = go (as'.on (Mark mark.Minus l) refl) (go refl h)
  pre_gives (gr.Apply f us) q c nots k st ts ls z as' h = go (as'.on (Lower f) refl) (units_gives us (slot c nots k) f st ts ls z h)
  pre_gives (gr.ApplyBare f bs) q c nots k st ts ls z as' h = go (as'.on (Lower f) refl) (bare_gives bs (slot c nots k) f st ts ls z h)
  pre_gives (gr.Con n) q c nots k st ts ls z as' h = go (as'.on (Upper n) refl) h
  pre_gives (gr.Alone u) q c nots k st ts ls z as' h = firm_gives u q (alone (slot c nots k)) st ts ls z (pre_as_unit as') h

  pub prod_gives : (y : gr.Prod) (q : ExprState) (k : ℕ) (o a c s : Option Left) (st : List Frame) (ts : List Lexeme) (ls : List ℕ) (z : End)
      → AsPre q st (slot (mc.lefts k o a c s None) [] (mc.sum_level k o a c s))
      → Gives (at (reach_prod y k o a c s) st) ts ls z → Gives (at q st) (gr.spell_prod y ts) (lv.levels_prod y (mc.sum_level k o a c s) ls) z
  prod_gives (gr.OnePre x) q k o a c s st ts ls z as' h = pre_gives x q _ [] _ st ts ls z as' h
  prod_gives (gr.Times y w l x) q k o a c s st ts ls z as' h =
      prod_gives y q k o a c s st _ _ z as' (go (prod_joins y w k o a c s l st) (pre_gives x _ _ [] _ st ts ls z (want_pre_as _ [] _ st) h))

  pub sum_gives : (y : gr.Sum) (q : ExprState) (k : ℕ) (o a c : Option Left) (st : List Frame) (ts : List Lexeme) (ls : List ℕ) (z : End)
      → AsPre q st (slot (mc.lefts k o a c None None) [] (mc.within c (mc.within a (mc.within o k))))
      → Gives (at (reach_sum y k o a c) st) ts ls z → Gives (at q st) (gr.spell_sum y ts) (lv.levels_sum y (mc.within c (mc.within a (mc.within o k))) ls) z
  sum_gives (gr.OneProd x) q k o a c st ts ls z as' h = prod_gives x q k o a c None st ts ls z as' h
  sum_gives (gr.Adds y x l w) q k o a c st ts ls z as' h =
      sum_gives y q k o a c st _ _ z as' (go (sum_joins y x k o a c l st)
      (prod_gives w _ k o a c (mc.left (pr.sum_operand y) (pr.sign_joint x) l (lv.in_sum y (mc.within c (mc.within a (mc.within o k))))) st ts ls z (want_pre_as _ [] _ st) h))

  pub cmp_gives : (y : gr.Cmp) (q : ExprState) (k : ℕ) (o a : Option Left) (st : List Frame) (ts : List Lexeme) (ls : List ℕ) (z : End)
      → AsPre q st (slot (mc.lefts k o a None None None) [] (mc.within a (mc.within o k)))
      → Gives (at (reach_cmp y k o a) st) ts ls z → Gives (at q st) (gr.spell_cmp y ts) (lv.levels_cmp y (mc.within a (mc.within o k)) ls) z
  cmp_gives (gr.OneSum x) q k o a st ts ls z as' h = sum_gives x q k o a None st ts ls z as' h
  cmp_gives (gr.Compares y x l w) q k o a st ts ls z as' h =
      sum_gives y q k o a None st _ _ z as' (go (sum_compares y x k o a l st)
      (sum_gives w _ k o a (mc.left (pr.sum_operand y) (pr.comparison_joint x) l (mc.within a (mc.within o k))) st ts ls z (want_pre_as _ [] _ st) h))

  pub and_gives : (y : gr.And) (q : ExprState) (k : ℕ) (o : Option Left) (st : List Frame) (ts : List Lexeme) (ls : List ℕ) (z : End)
      → AsPre q st (slot (mc.lefts k o None None None None) [] (mc.within o k))
      → Gives (at (reach_and y k o) st) ts ls z → Gives (at q st) (gr.spell_and y ts) (lv.levels_and y (mc.within o k) ls) z
  and_gives (gr.OneCmp x) q k o st ts ls z as' h = cmp_gives x q k o None st ts ls z as' h
  and_gives (gr.Both y l w) q k o st ts ls z as' h =
      and_gives y q k o st _ _ z as' (go (and_joins y k o l st)
      (cmp_gives w _ k o (mc.left (pr.and_operand y) pr.AndThen l (lv.in_and y (mc.within o k))) st ts ls z (want_pre_as _ [] _ st) h))

  pub or_gives : (y : gr.Or) (q : ExprState) (k : ℕ) (st : List Frame) (ts : List Lexeme) (ls : List ℕ) (z : End)
      → AsPre q st (slot (mc.lefts k None None None None None) [] k)
      → Gives (at (reach_or y k) st) ts ls z → Gives (at q st) (gr.spell_or y ts) (lv.levels_or y k ls) z
  or_gives (gr.OneAnd x) q k st ts ls z as' h = and_gives x q k None st ts ls z as' h
  or_gives (gr.Either y l w) q k st ts ls z as' h =
      or_gives y q k st _ _ z as' (go (or_joins y k l st)
      (and_gives w _ k (mc.left (pr.or_operand y) pr.OrElse l (lv.in_or y k)) st ts ls z (want_pre_as _ [] _ st) h))

  pub expr_gives : (e : gr.Expr) (k : ℕ) (st : List Frame) (ts : List Lexeme) (ls : List ℕ) (z : End)
      → Gives (reach_expr e k st) ts ls z → Gives (at (mc.Want k) st) (gr.spell_expr e ts) (lv.levels_expr e k ls) z
  expr_gives (gr.Let l n i w j b) k st ts ls z h =
      go refl (go refl (go refl (expr_gives w (suc k) (mc.LetValue (suc k) n ∷ st) _ _ z (go (expr_in w (suc k) n j st)
      (expr_gives b (suc k) (mc.LetBody n (pr.expr_tree w) ∷ st) ts ls z h)))))
  expr_gives (gr.If l c i a j b) k st ts ls z h =
      go refl (expr_gives c (suc k) (mc.IfCond (suc k) l ∷ st) _ _ z (go (expr_to_then c (suc k) l i st)
      (expr_gives a (suc k) (mc.IfThen (suc k) l (pr.expr_tree c) ∷ st) _ _ z (go (expr_to_else a (suc k) l (pr.expr_tree c) j st)
      (expr_gives b (suc k) (mc.IfElse l (pr.expr_tree c) (pr.expr_tree a) ∷ st) ts ls z h)))))
  expr_gives (gr.Match l e i gr.NoBar as' j) k st ts ls z h =
      go refl (expr_gives e (suc k) (mc.MatchOn (suc k) l ∷ st) _ _ z (go (expr_with e (suc k) l i st)
      (arms_gives as' (mc.FirstArm (matching (suc k) l (pr.expr_tree e) [])) (suc k) l (pr.expr_tree e) st _ _ z (λ c. refl) (go (arms_end as' (suc k) l (pr.expr_tree e) j st) h))))
  expr_gives (gr.Match l e i (gr.Bar b) as' j) k st ts ls z h =
      go refl (expr_gives e (suc k) (mc.MatchOn (suc k) l ∷ st) _ _ z (go (expr_with e (suc k) l i st)
      (go refl (arms_gives as' (mc.WantArm (matching (suc k) l (pr.expr_tree e) [])) (suc k) l (pr.expr_tree e) st _ _ z (λ c. refl) (go (arms_end as' (suc k) l (pr.expr_tree e) j st) h)))))
  expr_gives (gr.Chain o) k st ts ls z h = or_gives o (mc.Want k) (suc k) st ts ls z (want_as k st) h

  pub exprs_gives : (es : gr.Exprs) (s : Spot) (c : Name) (st : List Frame) (ts : List Lexeme) (ls : List ℕ) (z : End)
      → Gives (reach_exprs es s c st) ts ls z → Gives (at (mc.Want s.slot.level) (mc.Args s c [] ∷ st)) (gr.spell_exprs es ts) (lv.levels_exprs es s.slot.level ls) z
  exprs_gives (gr.OneExpr e) s c st ts ls z h = expr_gives e s.slot.level (mc.Args s c [] ∷ st) ts ls z h
  exprs_gives (gr.MoreExprs es l e) s c st ts ls z h =
      exprs_gives es s c st _ _ z (go (exprs_comma es s c l st) (expr_gives e s.slot.level (mc.Args s c (pr.expr_trees es) ∷ st) ts ls z h))

  pub arms_gives : (as' : gr.Arms) (q : mc.ArmState) (k l : ℕ) (on : Expression) (st : List Frame) (ts : List Lexeme) (ls : List ℕ) (z : End)
      → ((c : Name) → advance (InArm q) (Upper c) st ≡ Goes k (InArm (mc.ArmCon (matching k l on []) c)) st)
      → Gives (reach_arms as' k l on st) ts ls z → Gives (one (InArm q) st) (gr.spell_arms as' ts) (lv.levels_arms as' k ls) z
  arms_gives (gr.OneArm a) q k l on st ts ls z as'' h = arm_gives a q (matching k l on []) st ts ls z as'' h
  arms_gives (gr.MoreArms as' i a) q k l on st ts ls z as'' h =
      arms_gives as' q k l on st _ _ z as'' (go (arms_bar as' k l on i st)
      (arm_gives a (mc.WantArm (matching k l on (pr.branches as'))) (matching k l on (pr.branches as')) st ts ls z (λ c. refl) h))

  pub arm_gives : (a : gr.Arm) (q : mc.ArmState) (m : mc.Matching) (st : List Frame) (ts : List Lexeme) (ls : List ℕ) (z : End)
      → ((c : Name) → advance (InArm q) (Upper c) st ≡ Goes m.level (InArm (mc.ArmCon m c)) st)
      → Gives (reach_arm a m st) ts ls z → Gives (one (InArm q) st) (gr.spell_arm a ts) (lv.levels_arm a m.level ls) z
  arm_gives (gr.Case c fs x l e) q m st ts ls z as'' h =
      go (as'' c) (head_gives fs x m c l st _ _ z (expr_gives e m.level (mc.ArmBody m (mc.head c (pr.names_of fs) (pr.cell_of x)) ∷ st) ts ls z h))
