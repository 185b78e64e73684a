-- The lines of an expression that ends the function mean what the expression means in tail position.
use Rattle.std.proofs.Common.{◌≡◌, ℕ, suc, ◌+◌, ◌≤◌, Bool, true, false, List, [], ◌∷◌, ◌++◌, length, Option, Some, refl, sym, ap, ◌∙◌, arith}
use Rattle.std.specs.Prelude.{◌&&◌, if◌then◌else◌, slice_get}
use Rattle.camelot_values.specs.Value.{Values}
use Rattle.camelot_values.specs.Kinds as values
use Rattle.camelot_values.specs.Kinds.{constructor}
use Rattle.camelot_values.specs.Typing.{FitAll}
use Rattle.camelot_values.specs.Outcome.{at_once, known, given}
use Rattle.camelot_values.specs.OutcomeLaws.{then_value}
use Rattle.camelot_values.specs.Runs.{chosen}
use Rattle.camelot_values.specs.declared.kinds.Kind.{Kind}
use Rattle.camelot_values.specs.declared.kinds.Kind.TheVariants as kind
use Rattle.camelot_tree.specs.declared.tree.Name.{Name}
use Rattle.camelot_tree.specs.declared.tree.ArmCell.{ArmCell}
use Rattle.camelot_tree.specs.Tree.{Expression, Num, Truth, Var, Prim, If, Let, Match, Build, Call, Arms, NoArms, AndArm}
use Rattle.camelot_tree.specs.Meaning as meaning
use Rattle.camelot_tree.specs.Meaning.{Environment, constructor_number, function_number, put_fields, is_that, on_constructor, eval, eval_all, arms_run}
use Rattle.camelot_tree.specs.Tokens.{expression_has_ints, arms_have_ints}
use Rattle.camelot_typing.specs.Kinds as typed
use Rattle.camelot_typing.specs.Kinds.{Scope, bind, arm_scope, or_else, types_of, is_inline, numbered}
use Rattle.camelot_typing.specs.Typing.{known_kind, globals_of, HasKind, ArmsHaveKind, arms_with}
use Rattle.camelot_typing.specs.NumberLaws.{number_same, head_number, among_numbers}
use Rattle.camelot_typing.specs.TypingLaws.{both_hold}
use Rattle.grail_blocks.specs.Blocks as block
use Rattle.grail_blocks.specs.Running.{Locals, put_all, cell_run}
use Rattle.normal_form.specs.Normal.{Line, Close, con_of, fun_of, cons_of, arm_for, bound_count, in_arm, cell_in, case_arm, case_arms, in_turn, made, ends, local_of, locals_of, value, values, tail_made, arm_tail_made, tail_ends, arm_tail_ends, tail, arm_tail}
use Rattle.normal_form.proofs.Lines.{here, behind, jump_in, ends_is_closed}
use Rattle.normal_form.proofs.Ends.{closes_tail, tail_closed, closes_arm_tail, closed_arm_tail, closes_turn, closed_turn}
use Rattle.normal_form.proofs.Stands.{Setting, Stands, stands_kept, stands_bind, is_built, arm_agrees}
use Rattle.normal_form.proofs.Turns.{placed, turn_at, case_runs}
use Rattle.normal_form.proofs.Values.{two, value_runs, values_run, cons_are, number_found, fewer}

-- the value is handed on
returned : (S : Setting) (e : Expression) (s : Scope Kind) (l : Scope ℕ) (env : Environment) (locals : Locals) (next number : ℕ) (q : Kind) (k w : ℕ) (rest : List Line) → Stands (types_of S.source) s l env locals next → expression_has_ints e ≡ true
    → HasKind (globals_of S.source S.sigs) s e q
    → here (types_of S.source) S.code number ((value S.source e l next number ++ (Close (block.Ret (local_of S.source e l next)) ∷ [])) ++ rest) k w locals ≡ eval S.source S.enter e k w false env
returned S e s l env locals next number q k w rest st ints has =
    ap (λ lines. here (types_of S.source) S.code number lines k w locals) (two (value S.source e l next number) (Close (block.Ret (local_of S.source e l next)) ∷ []) rest)
    ∙ value_runs S e s l env locals next number (number + ends S.source e) q k w (Close (block.Ret (local_of S.source e l next)) ∷ rest) (λ j v. at_once v) refl st ints has (λ j v last c. ap known c.holds)
    ∙ then_value k (eval S.source S.enter e k w false env)

abbrev ArmEnds : (S : Setting) → Arms → (l : Scope ℕ) (env : Environment) (locals : Locals) (n number con : ℕ) → Values → (j w : ℕ) → List Line → Type 0
ArmEnds S as' l env locals n number con vs j w follow =
    given (put_all locals (case_arm S.source (arm_for S.source as' con) n number).fields vs)
    (λ bound. cell_run (case_arm S.source (arm_for S.source as' con) n number).cell bound (λ last. here (types_of S.source) S.code number (arm_tail S.source as' con l n number ++ follow) j w last))
    ≡ arms_run S.source S.enter as' con vs j w true env

tail_split : (S : Setting) (c : Name) (fs : List (Option Name)) (x : ArmCell) (b : Expression) (as' : Arms) (l : Scope ℕ) (env : Environment) (locals : Locals) (n number con : ℕ) (vs : Values) (j w : ℕ) (follow : List Line)
    → (is_that (constructor_number S.source c) con ≡ true
    → given (put_all locals (numbered n fs) vs)
    (λ last. cell_run (cell_in (is_inline (types_of S.source) (con_of S.source c)) x (n + length fs)) last (λ last. here (types_of S.source) S.code number (tail S.source b (in_arm fs x n l) (n + bound_count fs x) number ++ follow) j w last))
    ≡ given (put_fields env fs vs) (λ bound. meaning.cell_run x bound (λ last. eval S.source S.enter b j w true last)))
    → (is_that (constructor_number S.source c) con ≡ false → ArmEnds S as' l env locals n number con vs j w follow) → ArmEnds S (AndArm c fs x b as') l env locals n number con vs j w follow
tail_split S c fs x b as' l env locals n number con vs j w follow first later = by_test (is_that (constructor_number S.source c) con) first later
  where
    by_test : (t : Bool)
        → (t ≡ true
        → given (put_all locals (numbered n fs) vs)
        (λ last. cell_run (cell_in (is_inline (types_of S.source) (con_of S.source c)) x (n + length fs)) last (λ last. here (types_of S.source) S.code number (tail S.source b (in_arm fs x n l) (n + bound_count fs x) number ++ follow) j w last))
        ≡ given (put_fields env fs vs) (λ bound. meaning.cell_run x bound (λ last. eval S.source S.enter b j w true last)))
        → (t ≡ false → ArmEnds S as' l env locals n number con vs j w follow)
        → given (put_all locals (case_arm S.source (if t then Some (record { con = c; fields = fs; cell = x; body = b }) else arm_for S.source as' con) n number).fields vs)
        (λ bound. cell_run (case_arm S.source (if t then Some (record { con = c; fields = fs; cell = x; body = b }) else arm_for S.source as' con) n number).cell bound
        (λ last. here (types_of S.source) S.code number ((if t then tail S.source b (in_arm fs x n l) (n + bound_count fs x) number else arm_tail S.source as' con l n number) ++ follow) j w last))
        ≡ (if t then given (put_fields env fs vs) (λ bound. meaning.cell_run x bound (λ last. eval S.source S.enter b j w true last)) else arms_run S.source S.enter as' con vs j w true env)
    by_test true first later = first refl
    by_test false first later = later refl

mutual
  pub tail_runs : (S : Setting) (e : Expression) (s : Scope Kind) (l : Scope ℕ) (env : Environment) (locals : Locals) (next number : ℕ) (q : Kind) (k w : ℕ) (rest : List Line) → Stands (types_of S.source) s l env locals next → expression_has_ints e ≡ true
      → HasKind (globals_of S.source S.sigs) s e q → here (types_of S.source) S.code number (tail S.source e l next number ++ rest) k w locals ≡ eval S.source S.enter e k w true env
  tail_runs S (Var n) s l env locals next number q k w rest st ints has = returned S (Var n) s l env locals next number q k w rest st ints has
  tail_runs S (Num z l0) s l env locals next number q k w rest st ints has = returned S (Num z l0) s l env locals next number q k w rest st ints has
  tail_runs S (Truth t l0) s l env locals next number q k w rest st ints has = returned S (Truth t l0) s l env locals next number q k w rest st ints has
  tail_runs S (Prim op a b l0) s l env locals next number q k w rest st ints has = returned S (Prim op a b l0) s l env locals next number q k w rest st ints has
  tail_runs S (Build c es place) s l env locals next number q k w rest st ints has = returned S (Build c es place) s l env locals next number q k w rest st ints has
  tail_runs S (Call f es) s l env locals next number q k w rest st ints has =
      let p = S.source in
      let types = types_of p in
      let xs = locals_of p es l next in
      let n = head_number p (globals_of p S.sigs) p.funs S.sigs f.word has.0 S.typed has.1 in
      ap (λ lines. here types S.code number lines k w locals) (two (values p es l next number) (Close (block.Tail (fun_of p f) xs) ∷ []) rest)
      ∙ values_run S es s l env locals next number _ has.0.params k w (Close (block.Tail (fun_of p f) xs) ∷ rest) (λ left vs. given (function_number p f) (λ func. S.enter left w true func vs)) refl st ints has.3
      (λ j vs last c0.
      ap (λ o. given o (λ us. S.code j w true (fun_of p f) us)) c0.holds
      ∙ ap (λ o. S.code j w true (or_else o 0) vs) n.is
      ∙ S.agree j w true n.number vs has.0 n.at c0.fits
      ∙ sym (ap (λ o. given o (λ func. S.enter j w true func vs)) n.is))
  tail_runs S (Let n a b) s l env locals next number q k w rest st ints has =
      let p = S.source in
      let types = types_of p in
      let nb = next + made p a in
      let mb = number + ends p a in
      let xa = local_of p a l next in
      let both = both_hold (expression_has_ints a) (expression_has_ints b) ints in
      ap (λ lines. here types S.code number lines k w locals) (two (value p a l next number) (tail p b (bind n.word xa l) nb mb) rest)
      ∙ value_runs S a s l env locals next number mb has.0 k w (tail p b (bind n.word xa l) nb mb ++ rest) (λ j v. eval p S.enter b j w true (meaning.put env n.word v)) refl st both.0 has.1
      (λ j u mid c.
      tail_runs S b (bind n.word has.0 s) (bind n.word xa l) (meaning.put env n.word u) mid nb mb q j w rest
      (stands_bind types s l env mid nb n.word has.0 u xa (stands_kept types s l env locals mid next nb st c.kept (omega arith)) c.fits c.holds c.below) both.1 has.2)
  tail_runs S (If c a b l0) s l env locals next number q k w rest st ints has =
      let p = S.source in
      let types = types_of p in
      let n1 = next + made p c in
      let b0 = number + ends p c in
      let yes = suc b0 in
      let no = yes + tail_ends p a in
      let n2 = n1 + tail_made p a in
      let xc = local_of p c l next in
      let first = tail p a l n1 yes in
      let second = tail p b l n2 no in
      let both = both_hold (expression_has_ints c) (expression_has_ints a && expression_has_ints b) ints in
      let branches = both_hold (expression_has_ints a) (expression_has_ints b) both.1 in
      ap (λ lines. here types S.code number lines k w locals) (two (value p c l next number) (Close (block.If xc yes no) ∷ (first ++ second)) rest)
      ∙ value_runs S c s l env locals next number b0 kind.Flag k w (Close (block.If xc yes no) ∷ ((first ++ second) ++ rest)) (λ j v. chosen v (eval p S.enter a j w true env) (eval p S.enter b j w true env)) refl st both.0 has.0
      (λ j v mid c0.
      let later = λ (b : ℕ). behind types S.code b0 (Close (block.If xc yes no) ∷ ((first ++ second) ++ rest)) b j w mid in
      ap (λ o. given o (λ u. chosen u (later yes) (later no))) c0.holds
      ∙ ap (λ o. chosen v o (later no))
      (jump_in types S.code b0 (Close (block.If xc yes no) ∷ []) ((first ++ second) ++ rest) yes j w mid tt (omega arith)
      ∙ ap (λ lines. here types S.code yes lines j w mid) (two first second rest)
      ∙ tail_runs S a s l env mid n1 yes q j w (second ++ rest) (stands_kept types s l env locals mid next n1 st c0.kept (omega arith)) branches.0 has.1)
      ∙ ap (λ o. chosen v (eval p S.enter a j w true env) o)
      (ap (λ lines. behind types S.code b0 (Close (block.If xc yes no) ∷ lines) no j w mid) (two first second rest)
      ∙ jump_in types S.code b0 (Close (block.If xc yes no) ∷ first) (second ++ rest) no j w mid (ends_is_closed first (tail_closed p a l n1 yes)) (let count = closes_tail p a l n1 yes in omega (arith, count))
      ∙ tail_runs S b s l env mid n2 no q j w rest (stands_kept types s l env locals mid next n2 st c0.kept (omega arith)) branches.1 has.2))
  tail_runs S (Match e NoArms l0) s l env locals next number q k w rest st ints has = absurd has
  tail_runs S (Match e (AndArm c fs x b as') l0) s l env locals next number q k w rest st ints has =
      let p = S.source in
      let types = types_of p in
      let arms = AndArm c fs x b as' in
      let n1 = next + made p e in
      let b0 = number + ends p e in
      let first = suc b0 in
      let xe = local_of p e l next in
      let part = λ (con n i : ℕ). arm_tail p arms con l n i in
      let all = in_turn (arm_tail_made p arms) (arm_tail_ends p arms) part (cons_of p arms) n1 first in
      let end = block.Case xe (case_arms p arms (arm_tail_made p arms) (arm_tail_ends p arms) n1 first) in
      let both = both_hold (expression_has_ints e) (arms_have_ints arms) ints in
      ap (λ lines. here types S.code number lines k w locals) (two (value p e l next number) (Close end ∷ all) rest)
      ∙ value_runs S e s l env locals next number b0 (kind.Of has.0) k w (Close end ∷ (all ++ rest)) (λ j v. on_constructor v (λ con vs. arms_run p S.enter arms con vs j w true env)) refl st both.0 has.1
      (λ j v mid c0.
      let bt = is_built types has.0 v c0.fits in
      let pl = placed types bt.con has.0 bt.owned in
      let at : slice_get (cons_of p arms) pl.i ≡ Some bt.con = ap (λ cs. slice_get cs pl.i) (cons_are p has.0 c fs x b as' has.3.0) ∙ pl.at ∙ ap Some (omega arith) in
      let turn = turn_at (arm_tail_made p arms) (arm_tail_ends p arms) part (λ con n i. case_arm p (arm_for p arms con) n i) (λ con n i. closes_arm_tail p arms con l n i) (λ con n i. closed_arm_tail p arms con l n i)
      (closes_turn (arm_tail_made p arms) (arm_tail_ends p arms) part (λ con n i. closes_arm_tail p arms con l n i)) (closed_turn (arm_tail_made p arms) (arm_tail_ends p arms) part (λ con n i. closed_arm_tail p arms con l n i))
      (cons_of p arms) n1 first pl.i bt.con at in
      let one : arms_with types bt.con arms ≡ 1 = among_numbers (λ con. arms_with types con arms ≡ 1) types bt.con has.0 bt.owned has.2 in
      let above = turn.above in
      case_runs p types S.code (arm_for p arms) (arm_tail_made p arms) (arm_tail_ends p arms) part (cons_of p arms) n1 b0 first pl.i bt.con xe bt.vs rest j w mid refl pl.is (c0.holds ∙ ap Some bt.is) turn
      ∙ arm_tail_runs S (AndArm c fs x b as') s l env mid turn.n turn.b bt.con has.0 bt.def bt.vs q j w (turn.back ++ rest) (stands_kept types s l env locals mid next turn.n st c0.kept (omega (arith, above))) both.1 has.3 (omega (arith, one))
      bt.declared bt.fits
      ∙ ap (λ u. on_constructor u (λ con vs. arms_run p S.enter arms con vs j w true env)) (sym bt.is))

  pub arm_tail_runs : (S : Setting) (as' : Arms) (s : Scope Kind) (l : Scope ℕ) (env : Environment) (locals : Locals) (n number con t : ℕ) (def : values.Constructor) (vs : Values) (q : Kind) (j w : ℕ) (follow : List Line)
      → Stands (types_of S.source) s l env locals n → arms_have_ints as' ≡ true → ArmsHaveKind (globals_of S.source S.sigs) s t as' q → 1 ≤ arms_with (types_of S.source) con as'
      → constructor (types_of S.source) con ≡ Some def → FitAll (types_of S.source) def.fields vs → ArmEnds S as' l env locals n number con vs j w follow
  arm_tail_runs S NoArms s l env locals n number con t def vs q j w follow st ints kinds some is fit = absurd (omega (arith, some))
  arm_tail_runs S (AndArm c fs x b as') s l env locals n number con t def vs q j w follow st ints kinds some is fit =
      let p = S.source in
      let types = types_of p in
      let n1 = n + bound_count fs x in
      let inner = arm_scope known_kind types c fs x s in
      let both = both_hold (expression_has_ints b) (arms_have_ints as') ints in
      tail_split S c fs x b as' l env locals n number con vs j w follow
      (λ test.
      arm_agrees types s l c fs x (is_inline types (con_of p c)) t con def vs env locals n (λ last. here types S.code number (tail p b (in_arm fs x n l) n1 number ++ follow) j w last) (λ bound. eval p S.enter b j w true bound) kinds.0
      (number_same p c ∙ number_found (constructor_number p c) con test) is fit st
      (λ bound last stands own. tail_runs S b inner (in_arm fs x n l) bound last n1 number q j w follow stands both.0 kinds.1))
      (λ test.
      let typed_test : is_that (typed.constructor_number types c.word) con ≡ false = ap (λ o. is_that o con) (number_same p c) ∙ test in
      arm_tail_runs S as' s l env locals n number con t def vs q j w follow st both.1 kinds.2 (fewer (is_that (typed.constructor_number types c.word) con) (arms_with types con as') typed_test some) is fit)
