-- The names of a program of real tokens have their forms, and its literals 32 bits. Each lemma goes over the tokens
-- that a tree spells before a rest: they are real, so what the tree stands for is as its tokens give it, and the rest
-- is real.
use Rattle.std.proofs.Common.{◌≡◌, ℕ, zero, suc, pos, ◌-ℤ◌, ◌<◌, ◌≤◌, ◌==◌, nat_le, Bool, true, false, ◌&&◌, ◌||◌, List, [], ◌∷◌, ◌++◌, length, Option, Some, None, refl, sym, subst, arith}
use Rattle.std.specs.List.{list_all, AllByRecursion}
use Rattle.std.specs.Char.{is_ascii_lowercase, is_ascii_uppercase, is_ascii_digit}
use Rattle.text_scan.specs.Forms as form
use Rattle.camelot_values.specs.Value.{is_int32}
use Rattle.camelot_values.specs.Names as names
use Rattle.camelot_tree.specs.declared.tree.Name.{Name}
use Rattle.camelot_tree.specs.Tree as tree
use Rattle.camelot_tree.specs.Tree.{Expression, Branch, Source}
use Rattle.camelot_tree.specs.Tokens.{is_lower, is_upper, is_lower_or_none, cell_is_named, expression_is_named, expressions_are_named, arms_are_named, atom_is_named, written_is_named, con_is_named, type_is_named, param_is_named, fun_is_named, is_named, expression_has_ints, expressions_have_ints, arms_have_ints, has_ints}
use Rattle.camelot_grammar.specs.declared.lexeme.Lexeme.{Lexeme}
use Rattle.camelot_grammar.specs.declared.lexeme.Lexeme.TheVariants.{Lower, Upper}
use Rattle.camelot_grammar.specs.Lexemes.{IsReal}
use Rattle.camelot_grammar.specs.Parsing.{IsProgram}
use Rattle.camelot_grammar.specs.Grammar as gr
use Rattle.camelot_grammar.specs.Program as pr
use Rattle.camelot_grammar.specs.Program.{Operand, Joint}
use Rattle.camelot_grammar.proofs.ShapeLemmas.{both, and_first, and_second, all_append}

abbrev Real : List Lexeme → Type 0
Real ts = AllByRecursion IsReal ts

-- ---- names and numbers

tail_order : (d u l e : Bool) → (((d || u) || l) || e) ≡ true → (((l || u) || d) || e) ≡ true
tail_order true true true e h = refl
tail_order true true false e h = refl
tail_order true false true e h = refl
tail_order true false false e h = refl
tail_order false true true e h = refl
tail_order false true false e h = refl
tail_order false false true e h = refl
tail_order false false false e h = h

tails : (bs : List ℕ) → list_all form.is_name_part bs ≡ true → list_all names.is_tail bs ≡ true
tails [] h = refl
tails (b ∷ bs) h = both (names.is_tail b) _ (tail_order (is_ascii_digit b) (is_ascii_uppercase b) (is_ascii_lowercase b) (b == 95) (and_first (form.is_name_part b) _ h)) (tails bs (and_second (form.is_name_part b) _ h))

lower_form : (bs : List ℕ) → form.is_name is_ascii_lowercase bs ≡ true → names.has_form names.is_lower bs ≡ true
lower_form [] h = absurd cc
lower_form (b ∷ bs) h = both (names.is_lower b) _ (and_first (is_ascii_lowercase b) _ h) (tails bs (and_second (is_ascii_lowercase b) _ h))

upper_form : (bs : List ℕ) → form.is_name is_ascii_uppercase bs ≡ true → names.has_form names.is_upper bs ≡ true
upper_form [] h = absurd cc
upper_form (b ∷ bs) h = both (names.is_upper b) _ (and_first (is_ascii_uppercase b) _ h) (tails bs (and_second (is_ascii_uppercase b) _ h))

short : (n : ℕ) → n ≤ 64 → nat_le n 64 ≡ true
short n h = grind (arith, h)

lower_real : (n : Name) → IsReal (Lower n) → is_lower n ≡ true
lower_real n h = both _ _ (lower_form n.word h.0.0) (short (length n.word) h.1)

upper_real : (n : Name) → IsReal (Upper n) → is_upper n ≡ true
upper_real n h = both _ _ (upper_form n.word h.0) (short (length n.word) h.1)

number_real : (n : ℕ) → n < 2147483648 → is_int32 (pos n) ≡ true
number_real n h = grind (arith, h)

negative_real : (n : ℕ) → n < 2147483648 → is_int32 (pos 0 -ℤ pos n) ≡ true
negative_real zero h = refl
negative_real (suc n) h = grind (arith, h)

-- ---- expressions

-- its names have their forms and its literals 32 bits
pub record Good (e : Expression) : Type 0 where
  pub named : expression_is_named e ≡ true
  pub ints : expression_has_ints e ≡ true

pub record AllGood (es : List Expression) : Type 0 where
  pub named : list_all expression_is_named es ≡ true
  pub ints : list_all expression_has_ints es ≡ true

abbrev pub branch_named : Branch → Bool
branch_named b = is_upper b.con && (list_all is_lower_or_none b.fields && (cell_is_named b.cell && expression_is_named b.body))

abbrev pub branch_ints : Branch → Bool
branch_ints b = expression_has_ints b.body

pub record BranchesGood (bs : List Branch) : Type 0 where
  pub named : list_all branch_named bs ≡ true
  pub ints : list_all branch_ints bs ≡ true

none_good : AllGood []
none_good = record { named = refl; ints = refl }

good_append : (es : List Expression) (e : Expression) → AllGood es → Good e → AllGood (es ++ e ∷ [])
good_append es e h k = record { named = all_append expression_is_named es e h.named k.named; ints = all_append expression_has_ints es e h.ints k.ints }

good_one : (e : Expression) → Good e → AllGood (e ∷ [])
good_one e k = record { named = both _ true k.named refl; ints = both _ true k.ints refl }

expressions_named : (es : List Expression) → list_all expression_is_named es ≡ true → expressions_are_named (tree.expressions es) ≡ true
expressions_named [] h = refl
expressions_named (e ∷ es) h = both (expression_is_named e) _ (and_first (expression_is_named e) _ h) (expressions_named es (and_second (expression_is_named e) _ h))

expressions_ints : (es : List Expression) → list_all expression_has_ints es ≡ true → expressions_have_ints (tree.expressions es) ≡ true
expressions_ints [] h = refl
expressions_ints (e ∷ es) h = both (expression_has_ints e) _ (and_first (expression_has_ints e) _ h) (expressions_ints es (and_second (expression_has_ints e) _ h))

arms_named : (bs : List Branch) → list_all branch_named bs ≡ true → arms_are_named (tree.arms bs) ≡ true
arms_named [] h = refl
arms_named (b ∷ bs) h = both (branch_named b) _ (and_first (branch_named b) _ h) (arms_named bs (and_second (branch_named b) _ h))

arms_ints : (bs : List Branch) → list_all branch_ints bs ≡ true → arms_have_ints (tree.arms bs) ≡ true
arms_ints [] h = refl
arms_ints (b ∷ bs) h = both (branch_ints b) _ (and_first (branch_ints b) _ h) (arms_ints bs (and_second (branch_ints b) _ h))

good_var : (n : Name) → is_lower n ≡ true → Good (tree.Var n)
good_var n h = record { named = h; ints = refl }

good_build : (c : Name) (es : List Expression) (p : Option Name) → is_upper c ≡ true → AllGood es → is_lower_or_none p ≡ true
    → Good (tree.Build c (tree.expressions es) p)
good_build c es p h k i = record { named = both _ _ h (both _ _ (expressions_named es k.named) i); ints = expressions_ints es k.ints }

good_applied : (f : Name) (es : List Expression) → is_lower f ≡ true → AllGood es → Good (pr.applied f es)
good_applied f [] h k = record { named = h; ints = refl }
good_applied f (e ∷ es) h k = record { named = both _ _ h (expressions_named (e ∷ es) k.named); ints = expressions_ints (e ∷ es) k.ints }

good_join : (j : Joint) (l : ℕ) (a b : Operand) → Good a.expression → Good b.expression → Good (pr.join j l a b).expression
good_join (pr.Prim o) l a b h k = record { named = both _ _ h.named k.named; ints = both _ _ h.ints k.ints }
good_join pr.AndThen l a b h k = record {
  named = both (expression_is_named a.expression) _ h.named (both (expression_is_named b.expression) true k.named refl);
  ints = both (expression_has_ints a.expression) _ h.ints (both (expression_has_ints b.expression) true k.ints refl);
}
good_join pr.OrElse l a b h k = record { named = both _ _ h.named k.named; ints = both _ _ h.ints k.ints }

good_not : (l : ℕ) (a : Operand) → Good a.expression → Good (pr.negated l a).expression
good_not l a h = record { named = both (expression_is_named a.expression) true h.named refl; ints = both (expression_has_ints a.expression) true h.ints refl }

good_let : (n : Name) (v b : Expression) → is_lower n ≡ true → Good v → Good b → Good (tree.Let n v b)
good_let n v b h i k = record { named = both _ _ h (both _ _ i.named k.named); ints = both _ _ i.ints k.ints }

good_if : (c a b : Expression) (l : ℕ) → Good c → Good a → Good b → Good (tree.If c a b l)
good_if c a b l h i k = record { named = both _ _ h.named (both _ _ i.named k.named); ints = both _ _ h.ints (both _ _ i.ints k.ints) }

good_match : (e : Expression) (bs : List Branch) (l : ℕ) → Good e → BranchesGood bs → Good (tree.Match e (tree.arms bs) l)
good_match e bs l h k = record { named = both _ _ h.named (arms_named bs k.named); ints = both _ _ h.ints (arms_ints bs k.ints) }

-- ---- trees of the grammar

place_real : (p : gr.Place) (r : List Lexeme) → Real (gr.spell_place p r) → (is_lower_or_none (pr.place_name p) ≡ true) × Real r
place_real gr.NoPlace r h = (refl, h)
place_real (gr.At l n) r h = (lower_real n h.1.0, h.1.1)

field_real : (f : gr.Field) → IsReal (gr.field_lexeme f) → is_lower_or_none (pr.field_name f) ≡ true
field_real (gr.Named n) h = lower_real n h
field_real (gr.Blank l) h = refl

field_list_real : (fs : gr.FieldList) (r : List Lexeme) → Real (gr.spell_field_list fs r) → (list_all is_lower_or_none (pr.field_names fs) ≡ true) × Real r
field_list_real (gr.OneField f) r h = (both _ true (field_real f h.0) refl, h.1)
field_list_real (gr.MoreFields fs l f) r h =
    let i = field_list_real fs _ h in
    (all_append is_lower_or_none (pr.field_names fs) (pr.field_name f) i.0 (field_real f i.1.1.0), i.1.1.1)

fields_real : (fs : gr.Fields) (r : List Lexeme) → Real (gr.spell_fields fs r) → (list_all is_lower_or_none (pr.names_of fs) ≡ true) × Real r
fields_real gr.NoFields r h = (refl, h)
fields_real (gr.InParens l fs m) r h = let i = field_list_real fs _ h.1 in (i.0, i.1.1)

cell_real : (x : gr.Cell) (r : List Lexeme) → Real (gr.spell_cell x r) → (cell_is_named (pr.cell_of x) ≡ true) × Real r
cell_real gr.NoCell r h = (refl, h)
cell_real (gr.AtField l (gr.Named n)) r h = (lower_real n h.1.0, h.1.1)
cell_real (gr.AtField l (gr.Blank m)) r h = (refl, h.1.1)

bar_real : (b : gr.FirstBar) (r : List Lexeme) → Real (gr.spell_bar b r) → Real r
bar_real gr.NoBar r h = h
bar_real (gr.Bar l) r h = h.1

mutual
  solid_real : (u : gr.Solid) (r : List Lexeme) → Real (gr.spell_solid u r) → Good (pr.solid_operand u).expression × Real r
  solid_real (gr.Literal n l) r h = (record { named = refl; ints = number_real n h.0 }, h.1)
  solid_real (gr.True l) r h = (record { named = refl; ints = refl }, h.1)
  solid_real (gr.False l) r h = (record { named = refl; ints = refl }, h.1)
  solid_real (gr.Full c l es m p) r h =
      let i = exprs_real es _ h.1.1 in
      let j = place_real p r i.1.1 in
      (good_build c (pr.expr_trees es) (pr.place_name p) (upper_real c h.0) i.0 j.0, j.1)
  solid_real (gr.Placed c l d) r h = (good_build c [] (Some d) (upper_real c h.0) none_good (lower_real d h.1.1.0), h.1.1.1)

  firm_real : (u : gr.Firm) (r : List Lexeme) → Real (gr.spell_firm u r) → Good (pr.firm_operand u).expression × Real r
  firm_real (gr.Is u) r h = solid_real u r h
  firm_real (gr.Paren l e m) r h = let i = expr_real e _ h.1 in (i.0, i.1.1)

  units_real : (us : gr.Units) (r : List Lexeme) → Real (gr.spell_units us r) → AllGood (pr.unit_expressions us) × Real r
  units_real gr.NoUnits r h = (none_good, h)
  units_real (gr.AndLower us n) r h =
      let i = units_real us _ h in
      (good_append (pr.unit_expressions us) (tree.Var n) i.0 (good_var n (lower_real n i.1.0)), i.1.1)
  units_real (gr.AndFirm us u) r h =
      let i = units_real us _ h in
      let j = firm_real u r i.1 in
      (good_append (pr.unit_expressions us) (pr.firm_operand u).expression i.0 j.0, j.1)
  units_real (gr.BareLower bs n) r h =
      let i = bare_real bs _ h in
      (good_append (pr.bare_expressions bs) (tree.Var n) i.0 (good_var n (lower_real n i.1.0)), i.1.1)
  units_real (gr.BareSolid bs u) r h =
      let i = bare_real bs _ h in
      let j = solid_real u r i.1 in
      (good_append (pr.bare_expressions bs) (pr.solid_operand u).expression i.0 j.0, j.1)

  bare_real : (bs : gr.Bare) (r : List Lexeme) → Real (gr.spell_bare bs r) → AllGood (pr.bare_expressions bs) × Real r
  bare_real (gr.AndUpper us n) r h =
      let i = units_real us _ h in
      (good_append (pr.unit_expressions us) (tree.Build n tree.NoExpressions None) i.0 (good_build n [] None (upper_real n i.1.0) none_good refl), i.1.1)
  bare_real (gr.BareUpper bs n) r h =
      let i = bare_real bs _ h in
      (good_append (pr.bare_expressions bs) (tree.Build n tree.NoExpressions None) i.0 (good_build n [] None (upper_real n i.1.0) none_good refl), i.1.1)

  pre_real : (x : gr.Pre) (r : List Lexeme) → Real (gr.spell_pre x r) → Good (pr.pre_operand x).expression × Real r
  pre_real (gr.Not l x) r h = let i = pre_real x r h.1 in (good_not l (pr.pre_operand x) i.0, i.1)
  pre_real (gr.Negative l n m) r h = (record { named = refl; ints = negative_real n h.1.0 }, h.1.1)
  pre_real (gr.Least l m) r h = (record { named = refl; ints = refl }, h.1.1)
  pre_real (gr.Apply f us) r h = let i = units_real us r h.1 in (good_applied f (pr.unit_expressions us) (lower_real f h.0) i.0, i.1)
  pre_real (gr.ApplyBare f bs) r h = let i = bare_real bs r h.1 in (good_applied f (pr.bare_expressions bs) (lower_real f h.0) i.0, i.1)
  pre_real (gr.Con n) r h = (good_build n [] None (upper_real n h.0) none_good refl, h.1)
  pre_real (gr.Alone u) r h = firm_real u r h

  prod_real : (y : gr.Prod) (r : List Lexeme) → Real (gr.spell_prod y r) → Good (pr.prod_operand y).expression × Real r
  prod_real (gr.OnePre x) r h = pre_real x r h
  prod_real (gr.Times y o l x) r h =
      let i = prod_real y _ h in
      let j = pre_real x r i.1.1 in
      (good_join (pr.product_joint o) l (pr.prod_operand y) (pr.pre_operand x) i.0 j.0, j.1)

  sum_real : (y : gr.Sum) (r : List Lexeme) → Real (gr.spell_sum y r) → Good (pr.sum_operand y).expression × Real r
  sum_real (gr.OneProd x) r h = prod_real x r h
  sum_real (gr.Adds y o l x) r h =
      let i = sum_real y _ h in
      let j = prod_real x r i.1.1 in
      (good_join (pr.sign_joint o) l (pr.sum_operand y) (pr.prod_operand x) i.0 j.0, j.1)

  cmp_real : (y : gr.Cmp) (r : List Lexeme) → Real (gr.spell_cmp y r) → Good (pr.cmp_operand y).expression × Real r
  cmp_real (gr.OneSum x) r h = sum_real x r h
  cmp_real (gr.Compares y o l x) r h =
      let i = sum_real y _ h in
      let j = sum_real x r i.1.1 in
      (good_join (pr.comparison_joint o) l (pr.sum_operand y) (pr.sum_operand x) i.0 j.0, j.1)

  and_real : (y : gr.And) (r : List Lexeme) → Real (gr.spell_and y r) → Good (pr.and_operand y).expression × Real r
  and_real (gr.OneCmp x) r h = cmp_real x r h
  and_real (gr.Both y l x) r h =
      let i = and_real y _ h in
      let j = cmp_real x r i.1.1 in
      (good_join pr.AndThen l (pr.and_operand y) (pr.cmp_operand x) i.0 j.0, j.1)

  or_real : (y : gr.Or) (r : List Lexeme) → Real (gr.spell_or y r) → Good (pr.or_operand y).expression × Real r
  or_real (gr.OneAnd x) r h = and_real x r h
  or_real (gr.Either y l x) r h =
      let i = or_real y _ h in
      let j = and_real x r i.1.1 in
      (good_join pr.OrElse l (pr.or_operand y) (pr.and_operand x) i.0 j.0, j.1)

  expr_real : (e : gr.Expr) (r : List Lexeme) → Real (gr.spell_expr e r) → Good (pr.expr_tree e) × Real r
  expr_real (gr.Let l n m v i b) r h =
      let x = expr_real v _ h.1.1.1 in
      let y = expr_real b r x.1.1 in
      (good_let n (pr.expr_tree v) (pr.expr_tree b) (lower_real n h.1.0) x.0 y.0, y.1)
  expr_real (gr.If l c m a n b) r h =
      let x = expr_real c _ h.1 in
      let y = expr_real a _ x.1.1 in
      let z = expr_real b r y.1.1 in
      (good_if (pr.expr_tree c) (pr.expr_tree a) (pr.expr_tree b) l x.0 y.0 z.0, z.1)
  expr_real (gr.Match l e m bar as' n) r h =
      let x = expr_real e _ h.1 in
      let y = arms_real as' _ (bar_real bar _ x.1.1) in
      (good_match (pr.expr_tree e) (pr.branches as') l x.0 y.0, y.1.1)
  expr_real (gr.Chain o) r h = or_real o r h

  exprs_real : (es : gr.Exprs) (r : List Lexeme) → Real (gr.spell_exprs es r) → AllGood (pr.expr_trees es) × Real r
  exprs_real (gr.OneExpr e) r h = let i = expr_real e r h in (good_one (pr.expr_tree e) i.0, i.1)
  exprs_real (gr.MoreExprs es l e) r h =
      let i = exprs_real es _ h in
      let j = expr_real e r i.1.1 in
      (good_append (pr.expr_trees es) (pr.expr_tree e) i.0 j.0, j.1)

  arms_real : (as' : gr.Arms) (r : List Lexeme) → Real (gr.spell_arms as' r) → BranchesGood (pr.branches as') × Real r
  arms_real (gr.OneArm a) r h =
      let i = arm_real a r h in
      (record { named = both _ true i.0.0 refl; ints = both _ true i.0.1 refl }, i.1)
  arms_real (gr.MoreArms as' l a) r h =
      let i = arms_real as' _ h in
      let j = arm_real a r i.1.1 in
      (record { named = all_append branch_named (pr.branches as') (pr.branch a) i.0.named j.0.0; ints = all_append branch_ints (pr.branches as') (pr.branch a) i.0.ints j.0.1 }, j.1)

  arm_real : (a : gr.Arm) (r : List Lexeme) → Real (gr.spell_arm a r) → ((branch_named (pr.branch a) ≡ true) × (branch_ints (pr.branch a) ≡ true)) × Real r
  arm_real (gr.Case c fs x l e) r h =
      let i = fields_real fs _ h.1 in
      let j = cell_real x _ i.1 in
      let k = expr_real e r j.1.1 in
      ((both _ _ (upper_real c h.0) (both _ _ i.0 (both _ _ j.0 k.0.named)), k.0.ints), k.1)

-- ---- declarations

atom_real : (a : gr.WrittenAtom) → IsReal (gr.atom_lexeme a) → atom_is_named (pr.atom_of a) ≡ true
atom_real (gr.Int l) h = refl
atom_real (gr.Bool' l) h = refl
atom_real (gr.Dia l) h = refl
atom_real (gr.Of n) h = lower_real n h

atoms_real : (as' : gr.AtomList) (r : List Lexeme) → Real (gr.spell_atoms as' r) → (list_all atom_is_named (pr.atoms_of as') ≡ true) × Real r
atoms_real (gr.OneAtom a) r h = (both _ true (atom_real a h.0) refl, h.1)
atoms_real (gr.MoreAtoms as' l a) r h =
    let i = atoms_real as' _ h in
    (all_append atom_is_named (pr.atoms_of as') (pr.atom_of a) i.0 (atom_real a i.1.1.0), i.1.1.1)

con_real : (c : gr.ConDecl) (r : List Lexeme) → Real (gr.spell_con c r) → (con_is_named (pr.con_of c) ≡ true) × Real r
con_real (gr.Inline l n) r h = (both _ true (upper_real n h.1.0) refl, h.1.1)
con_real (gr.NoFields' n) r h = (both _ true (upper_real n h.0) refl, h.1)
con_real (gr.WithFields n l as') r h = let i = atoms_real as' r h.1.1 in (both _ _ (upper_real n h.0) i.0, i.1)

cons_real : (cs : gr.Cons) (r : List Lexeme) → Real (gr.spell_cons cs r) → (list_all con_is_named (pr.cons_of cs) ≡ true) × Real r
cons_real (gr.OneCon c) r h = let i = con_real c r h in (both _ true i.0 refl, i.1)
cons_real (gr.MoreCons cs l c) r h =
    let i = cons_real cs _ h in
    let j = con_real c r i.1.1 in
    (all_append con_is_named (pr.cons_of cs) (pr.con_of c) i.0 j.0, j.1)

kind_real : (k : gr.Kind) (r : List Lexeme) → Real (gr.spell_kind k r) → (written_is_named (pr.kind_of k) ≡ true) × Real r
kind_real gr.NoKind r h = (refl, h)
kind_real (gr.OfKind l a) r h = (atom_real a h.1.0, h.1.1)

mark_real : (w : gr.ReadMark) (r : List Lexeme) → Real (gr.spell_read w r) → Real r
mark_real gr.NoRead r h = h
mark_real (gr.Read l) r h = h.1

param_real : (p : gr.WrittenParam) (r : List Lexeme) → Real (gr.spell_param p r) → (param_is_named (pr.param_of p) ≡ true) × Real r
param_real (gr.Simple n) r h = (both _ true (lower_real n h.0) refl, h.1)
param_real (gr.Marked l w n k m) r h =
    let i = mark_real w _ h.1 in
    let j = kind_real k _ i.1 in
    (both _ _ (lower_real n i.0) j.0, j.1.1)

params_real : (ps : gr.Params) (r : List Lexeme) → Real (gr.spell_params ps r) → (list_all param_is_named (pr.params_of ps) ≡ true) × Real r
params_real (gr.OneParam p) r h = let i = param_real p r h in (both _ true i.0 refl, i.1)
params_real (gr.MoreParams ps p) r h =
    let i = params_real ps _ h in
    let j = param_real p r i.1 in
    (all_append param_is_named (pr.params_of ps) (pr.param_of p) i.0 j.0, j.1)

pub record DeclsGood (ds : gr.Decls) : Type 0 where
  pub types : list_all type_is_named (pr.types_of ds) ≡ true
  pub funs : list_all fun_is_named (pr.funs_of ds) ≡ true
  pub ints : list_all (λ f. expression_has_ints f.body) (pr.funs_of ds) ≡ true

decls_real : (ds : gr.Decls) (r : List Lexeme) → Real (gr.spell_decls ds r) → DeclsGood ds × Real r
decls_real gr.NoDecls r h = (record { types = refl; funs = refl; ints = refl }, h)
decls_real (gr.AndType ds l n m cs) r h =
    let i = decls_real ds _ h in
    let j = cons_real cs r i.1.1.1.1 in (
      record {
        types = all_append type_is_named (pr.types_of ds) _ i.0.types (both _ _ (lower_real n i.1.1.0) j.0);
        funs = i.0.funs;
        ints = i.0.ints;
      },
      j.1,
    )
decls_real (gr.AndFun ds l n ps k m e) r h =
    let i = decls_real ds _ h in
    let j = params_real ps _ i.1.1.1 in
    let x = kind_real k _ j.1 in
    let y = expr_real e r x.1.1 in (
      record {
        types = i.0.types;
        funs = all_append fun_is_named (pr.funs_of ds) _ i.0.funs (both _ _ (lower_real n i.1.1.0) (both _ _ j.0 (both _ _ x.0 y.0.named)));
        ints = all_append (λ f. expression_has_ints f.body) (pr.funs_of ds) _ i.0.ints y.0.ints;
      },
      y.1,
    )

-- ---- programs

good_decls : (ts : List Lexeme) (p : Source) (h : IsProgram ts p) → AllByRecursion IsReal ts → DeclsGood h.decls
good_decls ts p h k = (decls_real h.decls [] (subst (λ xs. AllByRecursion IsReal xs) (sym h.spells) k)).0

pub program_named : (ts : List Lexeme) (p : Source) → AllByRecursion IsReal ts → IsProgram ts p → is_named p ≡ true
program_named ts p k h = let g = good_decls ts p h k in subst (λ q. is_named q ≡ true) h.is (both _ _ g.types g.funs)

pub program_ints : (ts : List Lexeme) (p : Source) → AllByRecursion IsReal ts → IsProgram ts p → has_ints p ≡ true
program_ints ts p k h = let g = good_decls ts p h k in subst (λ q. has_ints q ≡ true) h.is g.ints
