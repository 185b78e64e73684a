-- The lines of expressions fit as code.
use Rattle.std.proofs.Common.{◌≡◌, ℕ, suc, ◌+◌, ◌≤◌, ◌<◌, true, false, List, [], ◌∷◌, ◌++◌, length, Option, Some, None, refl, sym, ap, ◌∙◌, subst, arith}
use Rattle.std.specs.Prelude.{◌&&◌, if◌then◌else◌, slice_get, IsSomeAnd}
use Rattle.std.specs.List.{AllByRecursion}
use Rattle.camelot_values.specs.IntLaws.{passing_int}
use Rattle.camelot_values.specs.Kinds.{Constructor, constructor}
use Rattle.camelot_values.specs.declared.kinds.Kind.{Kind}
use Rattle.camelot_values.specs.declared.kinds.Kind.TheVariants as kind
use Rattle.camelot_tree.specs.declared.tree.Name.{Name}
use Rattle.camelot_tree.specs.declared.tree.ArmCell.{ArmCell}
use Rattle.camelot_tree.specs.Tree.{Expression, Num, Truth, Var, Prim, If, Let, Match, Build, Call, Expressions, NoExpressions, AndExpression, Arms, NoArms, AndArm}
use Rattle.camelot_tree.specs.Meaning.{constructor_number, is_that}
use Rattle.camelot_tree.specs.Tokens.{expression_has_ints, expressions_have_ints, arms_have_ints}
use Rattle.camelot_typing.specs.Kinds as typed
use Rattle.camelot_typing.specs.Kinds.{Scope, bind, arm_scope, or_else, types_of, fields_of, is_inline}
use Rattle.camelot_typing.specs.Typing as typing
use Rattle.camelot_typing.specs.Typing.{Signature, known_kind, globals_of, HaveKinds, ArmsHaveKind, HeadFits, arms_with}
use Rattle.camelot_typing.specs.NumberLaws.{number_same, head_number, numbered_constructor}
use Rattle.camelot_typing.specs.TypingLaws.{both_hold}
use Rattle.grail_blocks.specs.Blocks as block
use Rattle.grail_code.specs.Code.{Func, Code}
use Rattle.grail_code.specs.WellFormed as code
use Rattle.grail_code.specs.WellFormed.{kind_of, Gives, TermFits}
use Rattle.normal_form.specs.Normal.{Line, Close, new, con_of, fun_of, place_in, cons_of, arm_for, bound_count, in_arm, case_arm, case_arms, total, in_turn, made, all_made, arm_made, ends, all_ends, arm_ends, local_of, locals_of, joining, value, values, arm_value, bound_kinds, kind_in, all_of, kinds, all_kinds, arm_kinds}
use Rattle.normal_form.proofs.Lines.{closes}
use Rattle.normal_form.proofs.Ends.{closes_value, closes_values, closes_joining, closes_arm}
use Rattle.normal_form.proofs.Values.{cons_are, fewer}
use Rattle.normal_form.proofs.KindsAt.{Frame, At, at_front, at_back, at_head, at_rest, Named, named_kept, named_bind, kind_is, in_let, kinds_made, arm_kinds_made, local_is, ArmFor, arm_for_con, bound_of, bound_same, bound_are, named_arm}
use Rattle.normal_form.proofs.Frames.{Typed}
use Rattle.normal_form.proofs.FitParts.{Coding, LinesFit, fit_append, let_fits, kind_at, values_kinds, build_fits, arm_fits}
use Rattle.normal_form.proofs.FitTurns.{type_there, ArmGoes, goes_split, case_goes}

-- ---- calls

-- the function that is called
pub record CalleeIs (p : Code) (func : ℕ) (s : Signature) : Type 0 where
  pub callee : Func
  pub is : slice_get p.funcs func ≡ Some callee
  pub params : callee.params ≡ s.params
  pub result : callee.result ≡ s.result

pub callee_is : (p : Code) (func : ℕ) (s : Signature)
    → IsSomeAnd (slice_get p.funcs func) (λ callee. (callee.params ≡ s.params) × (callee.result ≡ s.result)) → CalleeIs p func s
callee_is p func s h = by_cases (slice_get p.funcs func) refl h
  where
    by_cases : (o : Option Func) → slice_get p.funcs func ≡ o → IsSomeAnd o (λ callee. (callee.params ≡ s.params) × (callee.result ≡ s.result))
        → CalleeIs p func s
    by_cases None e h = absurd h
    by_cases (Some callee) e h = record { callee = callee; is = e; params = h.0; result = h.1 }

-- a called function takes these arguments, and its result is of this kind
pub called : (F : Frame) (C : Coding F) (f : Name) (h : Signature) → typed.head_of F.sigs f.word ≡ Some h → CalleeIs C.program (fun_of F.source f) h
called F C f h e =
    let n = head_number F.source (globals_of F.source F.sigs) F.source.funs F.sigs f.word h F.fit e in
    subst (λ i. CalleeIs C.program i h) (sym (ap (λ o. or_else o 0) n.is)) (callee_is C.program n.number h (C.callees n.number h n.at))

call_gives : (F : Frame) (C : Coding F) (f : Name) (h : Signature) (args : List ℕ) (q : Kind) → typed.head_of F.sigs f.word ≡ Some h → h.result ≡ q
    → code.HaveKinds C.func args h.params → Gives C.program C.func (block.Call (fun_of F.source f) args) q
call_gives F C f h args q e result fit =
    let c = called F C f h e in
    subst (λ o. IsSomeAnd o (λ callee. code.HaveKinds C.func args callee.params × (q ≡ callee.result))) (sym c.is) (subst (code.HaveKinds C.func args) (sym c.params) fit, sym result ∙ sym c.result)

pub tail_call_fits : (F : Frame) (C : Coding F) (f : Name) (h : Signature) (args : List ℕ) (number : ℕ) → typed.head_of F.sigs f.word ≡ Some h
    → h.result ≡ C.func.result → code.HaveKinds C.func args h.params
    → TermFits C.program C.func number (block.Tail (fun_of F.source f) args)
tail_call_fits F C f h args number e result fit =
    let c = called F C f h e in
    subst (λ o. IsSomeAnd o (λ callee. code.HaveKinds C.func args callee.params × (callee.result ≡ C.func.result))) (sym c.is) (subst (code.HaveKinds C.func args) (sym c.params) fit, c.result ∙ result)

-- ---- arms

-- the constructor of an arm's head
pub record HeadOf (F : Frame) (c : Name) (fs : List (Option Name)) (x : ArmCell) (con : ℕ) : Type 0 where
  pub arm : ArmFor F.source c fs con
  pub place : typing.CellFits (is_inline (types_of F.source) con) x

pub head_of_arm : (F : Frame) (t con : ℕ) (c : Name) (fs : List (Option Name)) (x : ArmCell) → HeadFits (types_of F.source) t c fs x
    → is_that (constructor_number F.source c) con ≡ true → HeadOf F c fs x con
head_of_arm F t con c fs x head test =
    let a = arm_for_con F.source t con c fs x head test in
    let both : Some head.con ≡ Some con = sym head.is ∙ a.is in
    let same : head.con ≡ con = cc in
    record {
      arm = a;
      place = subst (λ n. typing.CellFits (is_inline (types_of F.source) n) x) same head.place;
    }

-- the end of a branch
joined_fits : (F : Frame) (C : Coding F) (number m : ℕ) (lines : List Line) (x result join : ℕ) (q : Kind) → m ≡ number + closes lines
    → LinesFit C.program C.func number lines → slice_get F.kinds x ≡ Some q → slice_get F.kinds result ≡ Some q
    → m < join → join < length C.func.blocks → LinesFit C.program C.func number (joining lines x result join)
joined_fits F C number m lines x result join q is fit from to less there =
    fit_append C.program C.func number m lines (new result (block.Copy x) ∷ Close (block.Goto join) ∷ []) is fit
    (let_fits C.program C.func result (block.Copy x) q (kind_at F C result q to) (kind_at F C x q from), ((less, there), tt))

-- ---- expressions

mutual
  pub value_fits : (F : Frame) (C : Coding F) (e : Expression) (s : Scope Kind) (l : Scope ℕ) (next number : ℕ) (q : Kind) → Named F s l next
      → Typed F s e q → expression_has_ints e ≡ true → At F.kinds next (kinds F.source F.sigs s e)
      → number + ends F.source e < length C.func.blocks → LinesFit C.program C.func number (value F.source e l next number)
  value_fits F C (Var n) s l next number q st has ints at room = tt
  value_fits F C (Num z l0) s l next number q st has ints at room = (let_fits C.program C.func next (block.Lit z) kind.Int (kind_at F C next kind.Int (at_head F.kinds next kind.Int [] at)) (refl, passing_int z ints), tt)
  value_fits F C (Truth t l0) s l next number q st has ints at room = (let_fits C.program C.func next (block.Flag t) kind.Flag (kind_at F C next kind.Flag (at_head F.kinds next kind.Flag [] at)) refl, tt)
  value_fits F C (Prim op a b l0) s l next number q st has ints at room =
      let p = F.source in
      let nb = next + made p a in
      let mb = number + ends p a in
      let xa = local_of p a l next in
      let xb = local_of p b l nb in
      let x = next + (made p a + made p b) in
      let both = both_hold (expression_has_ints a) (expression_has_ints b) ints in
      let size = kinds_made F a s kind.Int has.0 in
      let at_a = at_front F.kinds next (kinds p F.sigs s a) (kinds p F.sigs s b ++ (_ ∷ [])) at in
      let at_b = at_front F.kinds nb (kinds p F.sigs s b) (_ ∷ []) (at_back F.kinds next nb (kinds p F.sigs s a) (kinds p F.sigs s b ++ (_ ∷ [])) (omega (arith, size)) at) in
      let st_b = named_kept F s l next nb st (omega arith) in
      let own = local_is F (Prim op a b l0) s l next q st has at in
      let ka = local_is F a s l next kind.Int st has.0 at_a in
      let kb = local_is F b s l nb kind.Int st_b has.1 at_b in
      let ca = closes_value p a l next number in
      let cb = closes_value p b l nb mb in
      let operands : code.HaveKinds C.func (xa ∷ xb ∷ []) (kind.Int ∷ kind.Int ∷ []) =
      ap (λ o. o ∷ kind_of C.func xb ∷ []) (kind_at F C xa kind.Int ka.kind) ∙ ap (λ o. Some kind.Int ∷ o ∷ []) (kind_at F C xb kind.Int kb.kind) in
      fit_append C.program C.func number mb (value p a l next number) (value p b l nb mb ++ (new x (block.Prim op xa xb) ∷ [])) (omega (arith, ca)) (value_fits F C a s l next number kind.Int st has.0 both.0 at_a (omega (arith, room)))
      (fit_append C.program C.func mb (mb + ends p b) (value p b l nb mb) (new x (block.Prim op xa xb) ∷ []) (omega (arith, cb)) (value_fits F C b s l nb mb kind.Int st_b has.1 both.1 at_b (omega (arith, room)))
      (let_fits C.program C.func x (block.Prim op xa xb) q (kind_at F C x q own.kind) (operands, has.2), tt))
  value_fits F C (Build c es place) s l next number q st has ints at room =
      let p = F.source in
      let xs = locals_of p es l next in
      let x = next + all_made p es in
      let at_es = at_front F.kinds next (all_kinds p F.sigs s es) (_ ∷ []) at in
      let own = local_is F (Build c es place) s l next q st has at in
      let count = closes_values p es l next number in
      let con_is : con_of p c ≡ has.0 = ap (λ o. or_else o 0) (sym (number_same p c) ∙ has.1) in
      fit_append C.program C.func number (number + all_ends p es) (values p es l next number) (new x (block.Make (con_of p c) xs (place_in p (con_of p c) place l)) ∷ []) (omega (arith, count))
      (values_fit F C es s l next number (fields_of (types_of p) has.0) st has.3 ints at_es room) (
        let_fits C.program C.func x (block.Make (con_of p c) xs (place_in p (con_of p c) place l)) q (kind_at F C x q own.kind)
            (subst (λ n. Gives C.program C.func (block.Make n xs (place_in p n place l)) q) (sym con_is)
            (build_fits F C s l next has.0 c place xs q st has.2 (numbered_constructor p c has.0 has.1) (values_kinds F C es s l next (fields_of (types_of p) has.0) st has.3 at_es) has.4)),
        tt,
      )
  value_fits F C (Call f es) s l next number q st has ints at room =
      let p = F.source in
      let xs = locals_of p es l next in
      let x = next + all_made p es in
      let at_es = at_front F.kinds next (all_kinds p F.sigs s es) (_ ∷ []) at in
      let own = local_is F (Call f es) s l next q st has at in
      let count = closes_values p es l next number in
      fit_append C.program C.func number (number + all_ends p es) (values p es l next number) (new x (block.Call (fun_of p f) xs) ∷ []) (omega (arith, count)) (values_fit F C es s l next number has.0.params st has.3 ints at_es room)
      (let_fits C.program C.func x (block.Call (fun_of p f) xs) q (kind_at F C x q own.kind) (call_gives F C f has.0 xs q has.1 has.2 (values_kinds F C es s l next has.0.params st has.3 at_es)), tt)
  value_fits F C (Let n a b) s l next number q st has ints at room =
      let p = F.source in
      let k = kind_in p F.sigs s a in
      let nb = next + made p a in
      let mb = number + ends p a in
      let xa = local_of p a l next in
      let both = both_hold (expression_has_ints a) (expression_has_ints b) ints in
      let size = kinds_made F a s has.0 has.1 in
      let has_a = subst (Typed F s a) (kind_is F a s has.0 has.1) has.1 in
      let at_a = at_front F.kinds next (kinds p F.sigs s a) (kinds p F.sigs (bind n.word k s) b) at in
      let x = local_is F a s l next k st has_a at_a in
      let count = closes_value p a l next number in
      fit_append C.program C.func number mb (value p a l next number) (value p b (bind n.word xa l) nb mb) (omega (arith, count)) (value_fits F C a s l next number k st has_a both.0 at_a (omega (arith, room)))
      (value_fits F C b (bind n.word k s) (bind n.word xa l) nb mb q (named_bind F s l nb n.word k xa (named_kept F s l next nb st (omega arith)) x.kind x.below) (in_let F s n a b has.0 q has.1 has.2) both.1
      (at_back F.kinds next nb (kinds p F.sigs s a) (kinds p F.sigs (bind n.word k s) b) (omega (arith, size)) at) (omega (arith, room)))
  value_fits F C (If c a b l0) s l next number q st has ints at room =
      let p = F.source in
      let result = next + made p c in
      let b0 = number + ends p c in
      let yes = suc b0 in
      let no = yes + suc (ends p a) in
      let join = no + suc (ends p b) in
      let n1 = suc result in
      let n2 = n1 + made p a in
      let xc = local_of p c l next in
      let xa = local_of p a l n1 in
      let xb = local_of p b l n2 in
      let first = joining (value p a l n1 yes) xa result join in
      let second = joining (value p b l n2 no) xb result join in
      let both = both_hold (expression_has_ints c) (expression_has_ints a && expression_has_ints b) ints in
      let branches = both_hold (expression_has_ints a) (expression_has_ints b) both.1 in
      let size = kinds_made F c s kind.Flag has.0 in
      let size_a = kinds_made F a s q has.1 in
      let at_c = at_front F.kinds next (kinds p F.sigs s c) (_ ∷ (kinds p F.sigs s a ++ kinds p F.sigs s b)) at in
      let at_both = at_rest F.kinds result _ (kinds p F.sigs s a ++ kinds p F.sigs s b) (at_back F.kinds next result (kinds p F.sigs s c) (_ ∷ (kinds p F.sigs s a ++ kinds p F.sigs s b)) (omega (arith, size)) at) in
      let at_a = at_front F.kinds n1 (kinds p F.sigs s a) (kinds p F.sigs s b) at_both in
      let at_b = at_back F.kinds n1 n2 (kinds p F.sigs s a) (kinds p F.sigs s b) (omega (arith, size_a)) at_both in
      let st_a = named_kept F s l next n1 st (omega arith) in
      let st_b = named_kept F s l next n2 st (omega arith) in
      let kc = local_is F c s l next kind.Flag st has.0 at_c in
      let ka = local_is F a s l n1 q st_a has.1 at_a in
      let kb = local_is F b s l n2 q st_b has.2 at_b in
      let own = local_is F (If c a b l0) s l next q st has at in
      let cc0 = closes_value p c l next number in
      let ca = closes_value p a l n1 yes in
      let cb = closes_value p b l n2 no in
      let cj = closes_joining (value p a l n1 yes) xa result join (ends p a) ca in
      fit_append C.program C.func number b0 (value p c l next number) (Close (block.If xc yes no) ∷ (first ++ second)) (omega (arith, cc0)) (value_fits F C c s l next number kind.Flag st has.0 both.0 at_c (omega (arith, room))) (
        (kind_at F C xc kind.Flag kc.kind, (omega arith, omega (arith, room)), (omega arith, omega (arith, room))),
        fit_append C.program C.func yes no first second (omega (arith, cj))
            (joined_fits F C yes (yes + ends p a) (value p a l n1 yes) xa result join q (omega (arith, ca)) (value_fits F C a s l n1 yes q st_a has.1 branches.0 at_a (omega (arith, room))) ka.kind own.kind (omega arith) (omega (arith, room)))
            (joined_fits F C no (no + ends p b) (value p b l n2 no) xb result join q (omega (arith, cb)) (value_fits F C b s l n2 no q st_b has.2 branches.1 at_b (omega (arith, room))) kb.kind own.kind (omega arith) (omega (arith, room))),
      )
  value_fits F C (Match e NoArms l0) s l next number q st has ints at room = absurd has
  value_fits F C (Match e (AndArm c fs x b as') l0) s l next number q st has ints at room =
      let p = F.source in
      let types = types_of p in
      let arms = AndArm c fs x b as' in
      let result = next + made p e in
      let n1 = suc result in
      let b0 = number + ends p e in
      let first = suc b0 in
      let join = first + total (arm_ends p arms) (cons_of p arms) in
      let xe = local_of p e l next in
      let part = λ (con n i : ℕ). arm_value p arms con l n i result join in
      let both = both_hold (expression_has_ints e) (arms_have_ints arms) ints in
      let size = kinds_made F e s (kind.Of has.0) has.1 in
      let at_e = at_front F.kinds next (kinds p F.sigs s e) (_ ∷ all_of (arm_kinds p F.sigs s arms) (cons_of p arms)) at in
      let at_arms = at_rest F.kinds result _ (all_of (arm_kinds p F.sigs s arms) (cons_of p arms)) (at_back F.kinds next result (kinds p F.sigs s e) (_ ∷ all_of (arm_kinds p F.sigs s arms) (cons_of p arms)) (omega (arith, size)) at) in
      let st_arms = named_kept F s l next n1 st (omega arith) in
      let ke = local_is F e s l next (kind.Of has.0) st has.1 at_e in
      let own = local_is F (Match e arms l0) s l next q st has at in
      let count = closes_value p e l next number in
      let are = cons_are p has.0 c fs x b as' has.3.0 in
      let goes = case_goes F C b0 n1 join xe has.0 (arm_for p arms) (arm_made p arms) (arm_ends p arms) part (arm_kinds p F.sigs s arms) (λ con. arms_with types con arms ≡ 1) (λ con n i. closes_arm p arms con l n i result join)
      (λ con. arm_kinds_made F (AndArm c fs x b as') s has.0 con q has.3)
      (λ con n i def covered is at least more room1.
      arm_value_fits F C (AndArm c fs x b as') s l b0 n i result join con has.0 q def (named_kept F s l n1 n st_arms least) has.3 both.1 (omega (arith, covered)) is at more own.kind room1 (omega (arith, room)))
      (cons_of p arms) n1 first are ke.kind (type_there types has.3.0.con has.0 has.3.0.owned) (subst (AllByRecursion (λ con. arms_with types con arms ≡ 1)) (sym are) has.2) at_arms (omega arith) (omega arith) (omega arith) in
      fit_append C.program C.func number b0 (value p e l next number) (Close (block.Case xe (case_arms p arms (arm_made p arms) (arm_ends p arms) n1 first)) ∷ in_turn (arm_made p arms) (arm_ends p arms) part (cons_of p arms) n1 first) (omega (arith, count))
      (value_fits F C e s l next number (kind.Of has.0) st has.1 both.0 at_e (omega (arith, room))) (goes.term, goes.fit)

  pub values_fit : (F : Frame) (C : Coding F) (es : Expressions) (s : Scope Kind) (l : Scope ℕ) (next number : ℕ) (ks : List Kind) → Named F s l next
      → HaveKinds (globals_of F.source F.sigs) s es ks → expressions_have_ints es ≡ true → At F.kinds next (all_kinds F.source F.sigs s es) → number + all_ends F.source es < length C.func.blocks → LinesFit C.program C.func number (values F.source es l next number)
  values_fit F C NoExpressions s l next number ks st has ints at room = tt
  values_fit F C (AndExpression e es) s l next number [] st has ints at room = absurd has
  values_fit F C (AndExpression e es) s l next number (k ∷ ks) st has ints at room =
      let p = F.source in
      let nb = next + made p e in
      let mb = number + ends p e in
      let both = both_hold (expression_has_ints e) (expressions_have_ints es) ints in
      let size = kinds_made F e s k has.0 in
      let count = closes_value p e l next number in
      fit_append C.program C.func number mb (value p e l next number) (values p es l nb mb) (omega (arith, count))
      (value_fits F C e s l next number k st has.0 both.0 (at_front F.kinds next (kinds p F.sigs s e) (all_kinds p F.sigs s es) at) (omega (arith, room)))
      (values_fit F C es s l nb mb ks (named_kept F s l next nb st (omega arith)) has.1 both.1 (at_back F.kinds next nb (kinds p F.sigs s e) (all_kinds p F.sigs s es) (omega (arith, size)) at) (omega (arith, room)))

  pub arm_value_fits : (F : Frame) (C : Coding F) (as' : Arms) (s : Scope Kind) (l : Scope ℕ) (number n i result join con t : ℕ) (q : Kind) (def : Constructor) → Named F s l n → ArmsHaveKind (globals_of F.source F.sigs) s t as' q
      → arms_have_ints as' ≡ true → 1 ≤ arms_with (types_of F.source) con as' → constructor (types_of F.source) con ≡ Some def → At F.kinds n (arm_kinds F.source F.sigs s as' con)
      → number < i → slice_get F.kinds result ≡ Some q → i + arm_ends F.source as' con ≤ join → join < length C.func.blocks
      → ArmGoes C.program C.func number def (case_arm F.source (arm_for F.source as' con) n i) i (arm_value F.source as' con l n i result join)
  arm_value_fits F C NoArms s l number n i result join con t q def st has ints some is at more to room there = absurd (omega (arith, some))
  arm_value_fits F C (AndArm c fs x b as') s l number n i result join con t q def st has ints some is at more to room there =
      let p = F.source in
      let types = types_of p in
      let inner = arm_scope known_kind types c fs x s in
      let n1 = n + bound_count fs x in
      let l1 = in_arm fs x n l in
      let both = both_hold (expression_has_ints b) (arms_have_ints as') ints in
      goes_split p C.program C.func number def (is_that (constructor_number p c) con) (record { con = c; fields = fs; cell = x; body = b }) (arm_for p as' con) n i (joining (value p b l1 n1 i) (local_of p b l1 n1) result join) (arm_value p as' con l n i result join)
      (λ test.
      let h = head_of_arm F t con c fs x has.0 test in
      let at_arm = subst (λ bs. At F.kinds n (bs ++ kinds p F.sigs inner b)) (bound_same p con c fs x h.arm) (subst (λ t. At F.kinds n (if t then bound_kinds p c x ++ kinds p F.sigs inner b else arm_kinds p F.sigs s as' con)) test at) in
      let at_bound = at_front F.kinds n (bound_of p con x) (kinds p F.sigs inner b) at_arm in
      let size = bound_are p con c fs x h.arm in
      let at_b = at_back F.kinds n n1 (bound_of p con x) (kinds p F.sigs inner b) (omega (arith, size)) at_arm in
      let st_b = named_arm F s l n con c fs x st h.arm at_bound in
      let kb = local_is F b inner l1 n1 q st_b has.1 at_b in
      let count = closes_value p b l1 n1 i in
      let ends_are : (if is_that (constructor_number p c) con then suc (ends p b) else arm_ends p as' con) ≡ suc (ends p b) = ap (λ t. if t then suc (ends p b) else arm_ends p as' con) test in
      record {
        arm = arm_fits F C number con def c fs x b n i h.arm is h.place at_bound (more, omega (arith, room, ends_are, there));
        fit = joined_fits F C i (i + ends p b) (value p b l1 n1 i) (local_of p b l1 n1) result join q (omega (arith, count)) (value_fits F C b inner l1 n1 i q st_b has.1 both.0 at_b (omega (arith, room, ends_are, there))) kb.kind to
            (omega (arith, room, ends_are)) there;
      })
      (λ test.
      let typed_test : is_that (typed.constructor_number types c.word) con ≡ false = ap (λ o. is_that o con) (number_same p c) ∙ test in
      let ends_are : (if is_that (constructor_number p c) con then suc (ends p b) else arm_ends p as' con) ≡ arm_ends p as' con = ap (λ t. if t then suc (ends p b) else arm_ends p as' con) test in
      arm_value_fits F C as' s l number n i result join con t q def st has.2 both.1 (fewer (is_that (typed.constructor_number types c.word) con) (arms_with types con as') typed_test some) is
      (subst (λ t. At F.kinds n (if t then bound_kinds p c x ++ kinds p F.sigs inner b else arm_kinds p F.sigs s as' con)) test at) more to (omega (arith, room, ends_are)) there)
