-- The lines of functions fit as code.
use Rattle.std.proofs.Common.{◌≡◌, ℕ, suc, ◌+◌, ◌≤◌, ◌<◌, true, false, List, [], ◌∷◌, ◌++◌, length, Some, refl, sym, ap, ◌∙◌, subst, arith}
use Rattle.std.specs.Prelude.{◌&&◌, if◌then◌else◌}
use Rattle.std.specs.List.{AllByRecursion}
use Rattle.camelot_values.specs.Kinds.{Constructor, constructor}
use Rattle.camelot_values.specs.declared.kinds.Kind.{Kind}
use Rattle.camelot_values.specs.declared.kinds.Kind.TheVariants as kind
use Rattle.camelot_tree.specs.Tree.{Expression, Num, Truth, Var, Prim, If, Let, Match, Build, Call, Arms, NoArms, AndArm}
use Rattle.camelot_tree.specs.Meaning.{constructor_number, is_that}
use Rattle.camelot_tree.specs.Tokens.{expression_has_ints, arms_have_ints}
use Rattle.camelot_typing.specs.Kinds as typed
use Rattle.camelot_typing.specs.Kinds.{Scope, bind, arm_scope, types_of}
use Rattle.camelot_typing.specs.Typing.{known_kind, globals_of, ArmsHaveKind, arms_with}
use Rattle.camelot_typing.specs.NumberLaws.{number_same}
use Rattle.camelot_typing.specs.TypingLaws.{both_hold}
use Rattle.grail_blocks.specs.Blocks as block
use Rattle.normal_form.specs.Normal.{NormalBlock, Line, Bind, Close, in_first, cut, fun_of, cons_of, arm_for, bound_count, in_arm, case_arm, case_arms, in_turn, made, ends, all_ends, local_of, locals_of, value, values, bound_kinds, kind_in, all_of, kinds, tail_made, arm_tail_made, tail_ends, arm_tail_ends, tail, arm_tail, tail_kinds, arm_tail_kinds}
use Rattle.normal_form.specs.Coded.{coded_blocks}
use Rattle.normal_form.proofs.Lines.{closes}
use Rattle.normal_form.proofs.Ends.{closes_value, closes_values, closes_tail, closes_arm_tail}
use Rattle.normal_form.proofs.Values.{cons_are, fewer}
use Rattle.normal_form.proofs.KindsAt.{Frame, At, at_front, at_back, Named, named_kept, named_bind, kind_is, in_let, kinds_made, local_is, bound_of, bound_same, bound_are, named_arm}
use Rattle.normal_form.proofs.Frames.{Typed, tail_kinds_made, arm_tail_kinds_made}
use Rattle.normal_form.proofs.FitParts.{Coding, LinesFit, fit_append, kind_at, values_kinds, arm_fits}
use Rattle.normal_form.proofs.FitTurns.{type_there, ArmGoes, goes_split, case_goes}
use Rattle.normal_form.proofs.FitValues.{value_fits, values_fit, tail_call_fits, head_of_arm}

-- ---- counts

pub tail_ends_some : (F : Frame) (e : Expression) → 1 ≤ tail_ends F.source e
tail_ends_some F (Var n) = omega arith
tail_ends_some F (Num z l) = omega arith
tail_ends_some F (Truth b l) = omega arith
tail_ends_some F (Prim op a b l) = omega arith
tail_ends_some F (Build c es place) = omega arith
tail_ends_some F (Call f es) = omega arith
tail_ends_some F (Let n a b) = let k = tail_ends_some F b in omega (arith, k)
tail_ends_some F (If c a b l) = omega arith
tail_ends_some F (Match e as' l) = omega arith

length_first : (l : block.Let) (bs : List NormalBlock) → length (in_first l bs) ≡ length bs
length_first l [] = refl
length_first l (b ∷ bs) = refl

-- as many blocks as are ended
pub length_cut : (lines : List Line) → length (cut lines) ≡ closes lines
length_cut [] = refl
length_cut (Bind l ∷ lines) = length_first l (cut lines) ∙ length_cut lines
length_cut (Close t ∷ lines) = ap suc (length_cut lines)

pub length_coded : (takes : ℕ → List ℕ) (number : ℕ) (bs : List NormalBlock) → length (coded_blocks takes number bs) ≡ length bs
length_coded takes number [] = refl
length_coded takes number (b ∷ bs) = ap suc (length_coded takes (suc number) bs)

-- ---- tails

returned_fits : (F : Frame) (C : Coding F) (e : Expression) (s : Scope Kind) (l : Scope ℕ) (next number : ℕ) (q : Kind) → Named F s l next
    → Typed F s e q → expression_has_ints e ≡ true → At F.kinds next (kinds F.source F.sigs s e)
    → q ≡ C.func.result → number + suc (ends F.source e) ≤ length C.func.blocks → LinesFit C.program C.func number (value F.source e l next number ++ (Close (block.Ret (local_of F.source e l next)) ∷ []))
returned_fits F C e s l next number q st has ints at is room =
    let x = local_is F e s l next q st has at in
    let count = closes_value F.source e l next number in
    fit_append C.program C.func number (number + ends F.source e) (value F.source e l next number) (Close (block.Ret (local_of F.source e l next)) ∷ []) (omega (arith, count))
    (value_fits F C e s l next number q st has ints at (omega (arith, room))) (kind_at F C (local_of F.source e l next) q x.kind ∙ ap Some is, tt)

mutual
  pub tail_fits : (F : Frame) (C : Coding F) (e : Expression) (s : Scope Kind) (l : Scope ℕ) (next number : ℕ) (q : Kind) → Named F s l next
      → Typed F s e q → expression_has_ints e ≡ true → At F.kinds next (tail_kinds F.source F.sigs s e)
      → q ≡ C.func.result → number + tail_ends F.source e ≤ length C.func.blocks → LinesFit C.program C.func number (tail F.source e l next number)
  tail_fits F C (Var n) s l next number q st has ints at is room = returned_fits F C (Var n) s l next number q st has ints at is room
  tail_fits F C (Num z l0) s l next number q st has ints at is room = returned_fits F C (Num z l0) s l next number q st has ints at is room
  tail_fits F C (Truth t l0) s l next number q st has ints at is room = returned_fits F C (Truth t l0) s l next number q st has ints at is room
  tail_fits F C (Prim op a b l0) s l next number q st has ints at is room = returned_fits F C (Prim op a b l0) s l next number q st has ints at is room
  tail_fits F C (Build c es place) s l next number q st has ints at is room = returned_fits F C (Build c es place) s l next number q st has ints at is room
  tail_fits F C (Call f es) s l next number q st has ints at is room =
      let p = F.source in
      let xs = locals_of p es l next in
      let count = closes_values p es l next number in
      fit_append C.program C.func number (number + all_ends p es) (values p es l next number) (Close (block.Tail (fun_of p f) xs) ∷ []) (omega (arith, count)) (values_fit F C es s l next number has.0.params st has.3 ints at (omega (arith, room)))
      (tail_call_fits F C f has.0 xs (number + all_ends p es) has.1 (has.2 ∙ is) (values_kinds F C es s l next has.0.params st has.3 at), tt)
  tail_fits F C (Let n a b) s l next number q st has ints at is room =
      let p = F.source in
      let k = kind_in p F.sigs s a in
      let nb = next + made p a in
      let mb = number + ends p a in
      let xa = local_of p a l next in
      let both = both_hold (expression_has_ints a) (expression_has_ints b) ints in
      let size = kinds_made F a s has.0 has.1 in
      let some = tail_ends_some F b in
      let has_a = subst (Typed F s a) (kind_is F a s has.0 has.1) has.1 in
      let at_a = at_front F.kinds next (kinds p F.sigs s a) (tail_kinds p F.sigs (bind n.word k s) b) at in
      let x = local_is F a s l next k st has_a at_a in
      let count = closes_value p a l next number in
      fit_append C.program C.func number mb (value p a l next number) (tail p b (bind n.word xa l) nb mb) (omega (arith, count)) (value_fits F C a s l next number k st has_a both.0 at_a (omega (arith, room, some)))
      (tail_fits F C b (bind n.word k s) (bind n.word xa l) nb mb q (named_bind F s l nb n.word k xa (named_kept F s l next nb st (omega arith)) x.kind x.below) (in_let F s n a b has.0 q has.1 has.2) both.1
      (at_back F.kinds next nb (kinds p F.sigs s a) (tail_kinds p F.sigs (bind n.word k s) b) (omega (arith, size)) at) is (omega (arith, room)))
  tail_fits F C (If c a b l0) s l next number q st has ints at is room =
      let p = F.source in
      let n1 = next + made p c in
      let b0 = number + ends p c in
      let yes = suc b0 in
      let no = yes + tail_ends p a in
      let n2 = n1 + tail_made p a in
      let xc = local_of p c l next in
      let both = both_hold (expression_has_ints c) (expression_has_ints a && expression_has_ints b) ints in
      let branches = both_hold (expression_has_ints a) (expression_has_ints b) both.1 in
      let size = kinds_made F c s kind.Flag has.0 in
      let size_a = tail_kinds_made F a s q has.1 in
      let some_a = tail_ends_some F a in
      let some_b = tail_ends_some F b in
      let at_c = at_front F.kinds next (kinds p F.sigs s c) (tail_kinds p F.sigs s a ++ tail_kinds p F.sigs s b) at in
      let at_both = at_back F.kinds next n1 (kinds p F.sigs s c) (tail_kinds p F.sigs s a ++ tail_kinds p F.sigs s b) (omega (arith, size)) at in
      let kc = local_is F c s l next kind.Flag st has.0 at_c in
      let count = closes_value p c l next number in
      let ca = closes_tail p a l n1 yes in
      fit_append C.program C.func number b0 (value p c l next number) (Close (block.If xc yes no) ∷ (tail p a l n1 yes ++ tail p b l n2 no)) (omega (arith, count)) (value_fits F C c s l next number kind.Flag st has.0 both.0 at_c (omega (arith, room))) (
        (kind_at F C xc kind.Flag kc.kind, (omega arith, omega (arith, room, some_a)), (omega arith, omega (arith, room, some_b))),
        fit_append C.program C.func yes no (tail p a l n1 yes) (tail p b l n2 no) (omega (arith, ca))
            (tail_fits F C a s l n1 yes q (named_kept F s l next n1 st (omega arith)) has.1 branches.0 (at_front F.kinds n1 (tail_kinds p F.sigs s a) (tail_kinds p F.sigs s b) at_both) is (omega (arith, room)))
            (tail_fits F C b s l n2 no q (named_kept F s l next n2 st (omega arith)) has.2 branches.1 (at_back F.kinds n1 n2 (tail_kinds p F.sigs s a) (tail_kinds p F.sigs s b) (omega (arith, size_a)) at_both) is (omega (arith, room))),
      )
  tail_fits F C (Match e NoArms l0) s l next number q st has ints at is room = absurd has
  tail_fits F C (Match e (AndArm c fs x b as') l0) s l next number q st has ints at is room =
      let p = F.source in
      let types = types_of p in
      let arms = AndArm c fs x b as' in
      let n1 = next + made p e in
      let b0 = number + ends p e in
      let first = suc b0 in
      let xe = local_of p e l next in
      let part = λ (con n i : ℕ). arm_tail p arms con l n i in
      let both = both_hold (expression_has_ints e) (arms_have_ints arms) ints in
      let size = kinds_made F e s (kind.Of has.0) has.1 in
      let at_e = at_front F.kinds next (kinds p F.sigs s e) (all_of (arm_tail_kinds p F.sigs s arms) (cons_of p arms)) at in
      let at_arms = at_back F.kinds next n1 (kinds p F.sigs s e) (all_of (arm_tail_kinds p F.sigs s arms) (cons_of p arms)) (omega (arith, size)) at in
      let st_arms = named_kept F s l next n1 st (omega arith) in
      let ke = local_is F e s l next (kind.Of has.0) st has.1 at_e in
      let count = closes_value p e l next number in
      let are = cons_are p has.0 c fs x b as' has.3.0 in
      let goes = case_goes F C b0 n1 (length C.func.blocks) xe has.0 (arm_for p arms) (arm_tail_made p arms) (arm_tail_ends p arms) part (arm_tail_kinds p F.sigs s arms) (λ con. arms_with types con arms ≡ 1) (λ con n i. closes_arm_tail p arms con l n i)
      (λ con. arm_tail_kinds_made F (AndArm c fs x b as') s has.0 con q has.3)
      (λ con n i def covered known at least more room1. arm_tail_fits F C (AndArm c fs x b as') s l b0 n i con has.0 q def (named_kept F s l n1 n st_arms least) has.3 both.1 (omega (arith, covered)) known at more is room1)
      (cons_of p arms) n1 first are ke.kind (type_there types has.3.0.con has.0 has.3.0.owned) (subst (AllByRecursion (λ con. arms_with types con arms ≡ 1)) (sym are) has.2) at_arms (omega arith) (omega arith) (omega (arith, room)) in
      fit_append C.program C.func number b0 (value p e l next number) (Close (block.Case xe (case_arms p arms (arm_tail_made p arms) (arm_tail_ends p arms) n1 first)) ∷ in_turn (arm_tail_made p arms) (arm_tail_ends p arms) part (cons_of p arms) n1 first)
      (omega (arith, count)) (value_fits F C e s l next number (kind.Of has.0) st has.1 both.0 at_e (omega (arith, room))) (goes.term, goes.fit)

  pub arm_tail_fits : (F : Frame) (C : Coding F) (as' : Arms) (s : Scope Kind) (l : Scope ℕ) (number n i con t : ℕ) (q : Kind) (def : Constructor)
      → Named F s l n → ArmsHaveKind (globals_of F.source F.sigs) s t as' q
      → arms_have_ints as' ≡ true → 1 ≤ arms_with (types_of F.source) con as' → constructor (types_of F.source) con ≡ Some def → At F.kinds n (arm_tail_kinds F.source F.sigs s as' con)
      → number < i → q ≡ C.func.result → i + arm_tail_ends F.source as' con ≤ length C.func.blocks → ArmGoes C.program C.func number def (case_arm F.source (arm_for F.source as' con) n i) i (arm_tail F.source as' con l n i)
  arm_tail_fits F C NoArms s l number n i con t q def st has ints some known at more is room = absurd (omega (arith, some))
  arm_tail_fits F C (AndArm c fs x b as') s l number n i con t q def st has ints some known at more is room =
      let p = F.source in
      let types = types_of p in
      let inner = arm_scope known_kind types c fs x s in
      let n1 = n + bound_count fs x in
      let l1 = in_arm fs x n l in
      let both = both_hold (expression_has_ints b) (arms_have_ints as') ints in
      goes_split p C.program C.func number def (is_that (constructor_number p c) con) (record { con = c; fields = fs; cell = x; body = b }) (arm_for p as' con) n i (tail p b l1 n1 i) (arm_tail p as' con l n i)
      (λ test.
      let h = head_of_arm F t con c fs x has.0 test in
      let at_arm = subst (λ bs. At F.kinds n (bs ++ tail_kinds p F.sigs inner b)) (bound_same p con c fs x h.arm) (subst (λ t. At F.kinds n (if t then bound_kinds p c x ++ tail_kinds p F.sigs inner b else arm_tail_kinds p F.sigs s as' con)) test at) in
      let at_bound = at_front F.kinds n (bound_of p con x) (tail_kinds p F.sigs inner b) at_arm in
      let size = bound_are p con c fs x h.arm in
      let at_b = at_back F.kinds n n1 (bound_of p con x) (tail_kinds p F.sigs inner b) (omega (arith, size)) at_arm in
      let st_b = named_arm F s l n con c fs x st h.arm at_bound in
      let some_b = tail_ends_some F b in
      let room_b : i + tail_ends p b ≤ length C.func.blocks = subst (λ t. i + (if t then tail_ends p b else arm_tail_ends p as' con) ≤ length C.func.blocks) test room in
      record {
        arm = arm_fits F C number con def c fs x b n i h.arm known h.place at_bound (more, omega (arith, room_b, some_b));
        fit = tail_fits F C b inner l1 n1 i q st_b has.1 both.0 at_b is room_b;
      })
      (λ test.
      let typed_test : is_that (typed.constructor_number types c.word) con ≡ false = ap (λ o. is_that o con) (number_same p c) ∙ test in
      arm_tail_fits F C as' s l number n i con t q def st has.2 both.1 (fewer (is_that (typed.constructor_number types c.word) con) (arms_with types con as') typed_test some) known
      (subst (λ t. At F.kinds n (if t then bound_kinds p c x ++ tail_kinds p F.sigs inner b else arm_tail_kinds p F.sigs s as' con)) test at) more is
      (subst (λ t. i + (if t then tail_ends p b else arm_tail_ends p as' con) ≤ length C.func.blocks) test room))
