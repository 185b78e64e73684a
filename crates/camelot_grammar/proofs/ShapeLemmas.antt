-- The program that a tree of the grammar stands for is whole.
use Rattle.std.proofs.Common.{◌≡◌, ℕ, Bool, true, false, not, ◌&&◌, List, [], ◌∷◌, ◌++◌, refl, ap, subst}
use Rattle.std.specs.List.{list_all}
use Rattle.camelot_tree.specs.declared.tree.Name.{Name}
use Rattle.camelot_tree.specs.Tree as tree
use Rattle.camelot_tree.specs.Tree.{Expression, Branch, Source}
use Rattle.camelot_grammar.specs.Grammar as gr
use Rattle.camelot_grammar.specs.Program as pr
use Rattle.camelot_grammar.specs.Program.{Operand, Joint}
use Rattle.camelot_grammar.specs.declared.lexeme.Lexeme.{Lexeme}
use Rattle.camelot_grammar.specs.Parsing.{IsProgram}
use Rattle.camelot_tree.specs.Shape.{is_nothing, has_arms, each_has_arms, have_arms, con_is_whole, type_is_whole, fun_is_whole, is_whole}

pub both : (a b : Bool) → a ≡ true → b ≡ true → (a && b) ≡ true
both true b h k = k
both false b h k = absurd cc

pub and_first : (a b : Bool) → (a && b) ≡ true → a ≡ true
and_first true b h = refl
and_first false b h = absurd cc

pub and_second : (a b : Bool) → (a && b) ≡ true → b ≡ true
and_second true b h = h
and_second false b h = absurd cc

-- what is appended to a list of which each passes passes
pub all_append : {A : Type 0} (test : A → Bool) (xs : List A) (y : A) → list_all test xs ≡ true → test y ≡ true → list_all test (xs ++ y ∷ []) ≡ true
all_append test [] y h k = both (test y) true k refl
all_append test (x ∷ xs) y h k = both (test x) _ (and_first (test x) _ h) (all_append test xs y (and_second (test x) _ h) k)

some_append : {A : Type 0} (xs : List A) (y : A) → is_nothing (xs ++ y ∷ []) ≡ false
some_append [] y = refl
some_append (x ∷ xs) y = refl

expressions_have : (es : List Expression) → list_all has_arms es ≡ true → each_has_arms (tree.expressions es) ≡ true
expressions_have [] h = refl
expressions_have (e ∷ es) h = both (has_arms e) _ (and_first (has_arms e) _ h) (expressions_have es (and_second (has_arms e) _ h))

arms_have : (bs : List Branch) → list_all (λ b. has_arms b.body) bs ≡ true → have_arms (tree.arms bs) ≡ true
arms_have [] h = refl
arms_have (b ∷ bs) h = both (has_arms b.body) _ (and_first (has_arms b.body) _ h) (arms_have bs (and_second (has_arms b.body) _ h))

match_has : (e : Expression) (bs : List Branch) (l : ℕ) → is_nothing bs ≡ false → has_arms e ≡ true → list_all (λ b. has_arms b.body) bs ≡ true
    → has_arms (tree.Match e (tree.arms bs) l) ≡ true
match_has e [] l s h k = absurd cc
match_has e (b ∷ bs) l s h k = both (has_arms e) _ h (both (has_arms b.body) _ (and_first (has_arms b.body) _ k) (arms_have bs (and_second (has_arms b.body) _ k)))

applied_has : (f : Name) (es : List Expression) → list_all has_arms es ≡ true → has_arms (pr.applied f es) ≡ true
applied_has f [] h = refl
applied_has f (e ∷ es) h = expressions_have (e ∷ es) h

join_has : (j : Joint) (l : ℕ) (a b : Operand) → has_arms a.expression ≡ true → has_arms b.expression ≡ true → has_arms (pr.join j l a b).expression ≡ true
join_has (pr.Prim o) l a b h k = both _ _ h k
join_has pr.AndThen l a b h k = both (has_arms a.expression) _ h (both (has_arms b.expression) true k refl)
join_has pr.OrElse l a b h k = both (has_arms a.expression) _ h k

branches_some : (as' : gr.Arms) → is_nothing (pr.branches as') ≡ false
branches_some (gr.OneArm a) = refl
branches_some (gr.MoreArms as' l a) = some_append (pr.branches as') (pr.branch a)

mutual
  solid_has : (u : gr.Solid) → has_arms (pr.solid_operand u).expression ≡ true
  solid_has (gr.Literal n l) = refl
  solid_has (gr.True l) = refl
  solid_has (gr.False l) = refl
  solid_has (gr.Full c l es m p) = expressions_have (pr.expr_trees es) (exprs_have es)
  solid_has (gr.Placed c l d) = refl

  firm_has : (u : gr.Firm) → has_arms (pr.firm_operand u).expression ≡ true
  firm_has (gr.Is u) = solid_has u
  firm_has (gr.Paren l e m) = expr_has e

  units_have : (us : gr.Units) → list_all has_arms (pr.unit_expressions us) ≡ true
  units_have gr.NoUnits = refl
  units_have (gr.AndLower us n) = all_append has_arms (pr.unit_expressions us) (tree.Var n) (units_have us) refl
  units_have (gr.AndFirm us u) = all_append has_arms (pr.unit_expressions us) (pr.firm_operand u).expression (units_have us) (firm_has u)
  units_have (gr.BareLower bs n) = all_append has_arms (pr.bare_expressions bs) (tree.Var n) (bare_have bs) refl
  units_have (gr.BareSolid bs u) = all_append has_arms (pr.bare_expressions bs) (pr.solid_operand u).expression (bare_have bs) (solid_has u)

  bare_have : (bs : gr.Bare) → list_all has_arms (pr.bare_expressions bs) ≡ true
  bare_have (gr.AndUpper us n) = all_append has_arms (pr.unit_expressions us) _ (units_have us) refl
  bare_have (gr.BareUpper bs n) = all_append has_arms (pr.bare_expressions bs) _ (bare_have bs) refl

  pre_has : (x : gr.Pre) → has_arms (pr.pre_operand x).expression ≡ true
  pre_has (gr.Not l x) = both (has_arms (pr.pre_operand x).expression) true (pre_has x) refl
  pre_has (gr.Negative l n m) = refl
  pre_has (gr.Least l m) = refl
  pre_has (gr.Apply f us) = applied_has f (pr.unit_expressions us) (units_have us)
  pre_has (gr.ApplyBare f bs) = applied_has f (pr.bare_expressions bs) (bare_have bs)
  pre_has (gr.Con n) = refl
  pre_has (gr.Alone u) = firm_has u

  prod_has : (y : gr.Prod) → has_arms (pr.prod_operand y).expression ≡ true
  prod_has (gr.OnePre x) = pre_has x
  prod_has (gr.Times y o l x) = join_has (pr.product_joint o) l (pr.prod_operand y) (pr.pre_operand x) (prod_has y) (pre_has x)

  sum_has : (y : gr.Sum) → has_arms (pr.sum_operand y).expression ≡ true
  sum_has (gr.OneProd x) = prod_has x
  sum_has (gr.Adds y o l x) = join_has (pr.sign_joint o) l (pr.sum_operand y) (pr.prod_operand x) (sum_has y) (prod_has x)

  cmp_has : (y : gr.Cmp) → has_arms (pr.cmp_operand y).expression ≡ true
  cmp_has (gr.OneSum x) = sum_has x
  cmp_has (gr.Compares y o l x) = join_has (pr.comparison_joint o) l (pr.sum_operand y) (pr.sum_operand x) (sum_has y) (sum_has x)

  and_has : (y : gr.And) → has_arms (pr.and_operand y).expression ≡ true
  and_has (gr.OneCmp x) = cmp_has x
  and_has (gr.Both y l x) = join_has pr.AndThen l (pr.and_operand y) (pr.cmp_operand x) (and_has y) (cmp_has x)

  or_has : (y : gr.Or) → has_arms (pr.or_operand y).expression ≡ true
  or_has (gr.OneAnd x) = and_has x
  or_has (gr.Either y l x) = join_has pr.OrElse l (pr.or_operand y) (pr.and_operand x) (or_has y) (and_has x)

  expr_has : (e : gr.Expr) → has_arms (pr.expr_tree e) ≡ true
  expr_has (gr.Let l n m v i b) = both (has_arms (pr.expr_tree v)) _ (expr_has v) (expr_has b)
  expr_has (gr.If l c m a n b) = both (has_arms (pr.expr_tree c)) _ (expr_has c) (both (has_arms (pr.expr_tree a)) _ (expr_has a) (expr_has b))
  expr_has (gr.Match l e m bar as' n) = match_has (pr.expr_tree e) (pr.branches as') l (branches_some as') (expr_has e) (branches_have as')
  expr_has (gr.Chain o) = or_has o

  exprs_have : (es : gr.Exprs) → list_all has_arms (pr.expr_trees es) ≡ true
  exprs_have (gr.OneExpr e) = both (has_arms (pr.expr_tree e)) true (expr_has e) refl
  exprs_have (gr.MoreExprs es l e) = all_append has_arms (pr.expr_trees es) (pr.expr_tree e) (exprs_have es) (expr_has e)

  branches_have : (as' : gr.Arms) → list_all (λ b. has_arms b.body) (pr.branches as') ≡ true
  branches_have (gr.OneArm a) = both (has_arms (pr.branch a).body) true (arm_has a) refl
  branches_have (gr.MoreArms as' l a) = all_append (λ b. has_arms b.body) (pr.branches as') (pr.branch a) (branches_have as') (arm_has a)

  arm_has : (a : gr.Arm) → has_arms (pr.branch a).body ≡ true
  arm_has (gr.Case c fs x l e) = expr_has e

con_whole : (c : gr.ConDecl) → con_is_whole (pr.con_of c) ≡ true
con_whole (gr.Inline l n) = refl
con_whole (gr.NoFields' n) = refl
con_whole (gr.WithFields n l as') = refl

cons_whole : (cs : gr.Cons) → list_all con_is_whole (pr.cons_of cs) ≡ true
cons_whole (gr.OneCon c) = both (con_is_whole (pr.con_of c)) true (con_whole c) refl
cons_whole (gr.MoreCons cs l c) = all_append con_is_whole (pr.cons_of cs) (pr.con_of c) (cons_whole cs) (con_whole c)

cons_some : (cs : gr.Cons) → is_nothing (pr.cons_of cs) ≡ false
cons_some (gr.OneCon c) = refl
cons_some (gr.MoreCons cs l c) = some_append (pr.cons_of cs) (pr.con_of c)

params_some : (ps : gr.Params) → is_nothing (pr.params_of ps) ≡ false
params_some (gr.OneParam p) = refl
params_some (gr.MoreParams ps p) = some_append (pr.params_of ps) (pr.param_of p)

types_whole : (ds : gr.Decls) → list_all type_is_whole (pr.types_of ds) ≡ true
types_whole gr.NoDecls = refl
types_whole (gr.AndType ds l n m cs) = all_append type_is_whole (pr.types_of ds) _ (types_whole ds) (both _ _ (ap not (cons_some cs)) (cons_whole cs))
types_whole (gr.AndFun ds l n ps k m e) = types_whole ds

funs_whole : (ds : gr.Decls) → list_all fun_is_whole (pr.funs_of ds) ≡ true
funs_whole gr.NoDecls = refl
funs_whole (gr.AndType ds l n m cs) = funs_whole ds
funs_whole (gr.AndFun ds l n ps k m e) = all_append fun_is_whole (pr.funs_of ds) _ (funs_whole ds) (both _ _ (ap not (params_some ps)) (expr_has e))

pub decls_whole : (ds : gr.Decls) → is_whole (pr.source_of ds) ≡ true
decls_whole ds = both _ _ (types_whole ds) (funs_whole ds)

pub program_whole : (ts : List Lexeme) (p : Source) → IsProgram ts p → is_whole p ≡ true
program_whole ts p h = subst (λ q. is_whole q ≡ true) h.is (decls_whole h.decls)
