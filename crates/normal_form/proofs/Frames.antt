-- A function of a program as a frame, with the names of its parameters, and as many kinds as locals where an expression
-- ends the function.
use Rattle.std.proofs.Common.{◌≡◌, ℕ, suc, ◌+◌, Bool, true, false, List, [], ◌∷◌, ◌++◌, length, refl, ap, ◌∙◌, subst, arith}
use Rattle.std.specs.Prelude.{if◌then◌else◌, slice_get}
use Rattle.camelot_values.specs.declared.kinds.Kind.{Kind}
use Rattle.camelot_values.specs.declared.kinds.Kind.TheVariants as kind
use Rattle.camelot_tree.specs.declared.tree.Param.{Param}
use Rattle.camelot_tree.specs.Tree.{Expression, Num, Truth, Var, Prim, If, Let, Match, Build, Call, Arms, NoArms, AndArm, Function, Source}
use Rattle.camelot_tree.specs.Meaning.{constructor_number, is_that}
use Rattle.camelot_typing.specs.Kinds.{Globals, Scope, bind, arm_scope, types_of, numbered, atom_of}
use Rattle.camelot_typing.specs.Typing.{Signature, known_kind, params_scope, globals_of, HasKind, FunctionsFit, ArmsHaveKind}
use Rattle.normal_form.specs.Normal.{cons_of, bound_count, total, made, bound_kinds, kind_in, all_of, kinds, tail_made, arm_tail_made, tail_kinds, arm_tail_kinds}
use Rattle.normal_form.proofs.KindsAt.{Frame, At, at_head, at_rest, Named, named_bind, in_let, two_parts, all_of_made, kinds_made, all_kinds_made, arm_for_con, bound_same, bound_are}

abbrev pub Typed : Frame → Scope Kind → Expression → Kind → Type 0
Typed F s e q = HasKind (globals_of F.source F.sigs) s e q

-- kinds are computed, as a law of typing says
abbrev pub Computed : Type 0
Computed = (g : Globals Kind) (s : Scope Kind) (e : Expression) (k : Kind) → HasKind g s e k → k ≡ atom_of known_kind g s e

-- a function among those of its program
abbrev pub frame : (p : Source) (sigs : List Signature) (f : Function) (s : Signature) → FunctionsFit p (globals_of p sigs) p.funs sigs → Computed → Frame
frame p sigs f s fit computed = record {
  source = p;
  sigs = sigs;
  kinds = s.params ++ tail_kinds p sigs (params_scope f.params s.params) f.body;
  fit = fit;
  computed = computed (globals_of p sigs);
}

pub whole_at : (ks : List Kind) → At ks 0 ks
whole_at ks i k e = let same : 0 + i ≡ i = omega arith in ap (slice_get ks) same ∙ e

pub named_params : (F : Frame) (xs : List Param) (ks : List Kind) (first : ℕ) → length xs ≡ length ks → At F.kinds first ks
    → Named F (params_scope xs ks) (params_scope xs (numbered first xs)) (first + length xs)
named_params F [] [] first full at = record { at = λ name. tt }
named_params F [] (k ∷ ks) first full at = absurd (omega (arith, full))
named_params F (x ∷ xs) [] first full at = absurd (omega (arith, full))
named_params F (x ∷ xs) (k ∷ ks) first full at =
    let rest = named_params F xs ks (suc first) (omega (arith, full)) (at_rest F.kinds first k ks at) in
    let same : suc first + length xs ≡ first + suc (length xs) = omega arith in
    let more = subst (Named F (params_scope xs ks) (params_scope xs (numbered (suc first) xs))) same rest in
    named_bind F (params_scope xs ks) (params_scope xs (numbered (suc first) xs)) (first + suc (length xs)) x.name.word k first more (at_head F.kinds first k ks at) (omega arith)

-- ---- as many kinds as locals

mutual
  pub tail_kinds_made : (F : Frame) (e : Expression) (s : Scope Kind) (q : Kind) → Typed F s e q
      → length (tail_kinds F.source F.sigs s e) ≡ tail_made F.source e
  tail_kinds_made F (Var n) s q has = refl
  tail_kinds_made F (Num z l) s q has = refl
  tail_kinds_made F (Truth b l) s q has = refl
  tail_kinds_made F (Prim op a b l) s q has = kinds_made F (Prim op a b l) s q has
  tail_kinds_made F (Build c es place) s q has = kinds_made F (Build c es place) s q has
  tail_kinds_made F (Call f es) s q has = all_kinds_made F es s _ has.3
  tail_kinds_made F (Let n a b) s q has =
      let p = F.source in
      let inner = bind n.word (kind_in p F.sigs s a) s in
      two_parts (kinds p F.sigs s a) (tail_kinds p F.sigs inner b) (made p a) (tail_made p b) (kinds_made F a s has.0 has.1) (tail_kinds_made F b inner q (in_let F s n a b has.0 q has.1 has.2))
  tail_kinds_made F (If c a b l) s q has =
      let p = F.source in
      let both = two_parts (tail_kinds p F.sigs s a) (tail_kinds p F.sigs s b) (tail_made p a) (tail_made p b) (tail_kinds_made F a s q has.1) (tail_kinds_made F b s q has.2) in
      two_parts (kinds p F.sigs s c) (tail_kinds p F.sigs s a ++ tail_kinds p F.sigs s b) (made p c) (tail_made p a + tail_made p b) (kinds_made F c s kind.Flag has.0) both
  tail_kinds_made F (Match e NoArms l) s q has = absurd has
  tail_kinds_made F (Match e (AndArm c fs x b as') l) s q has =
      let p = F.source in
      let arms = AndArm c fs x b as' in
      let all = all_of_made (arm_tail_kinds p F.sigs s arms) (arm_tail_made p arms) (λ con. arm_tail_kinds_made F (AndArm c fs x b as') s has.0 con q has.3) (cons_of p arms) in
      two_parts (kinds p F.sigs s e) (all_of (arm_tail_kinds p F.sigs s arms) (cons_of p arms)) (made p e) (total (arm_tail_made p arms) (cons_of p arms)) (kinds_made F e s (kind.Of has.0) has.1) all

  pub arm_tail_kinds_made : (F : Frame) (as' : Arms) (s : Scope Kind) (t con : ℕ) (q : Kind) → ArmsHaveKind (globals_of F.source F.sigs) s t as' q
      → length (arm_tail_kinds F.source F.sigs s as' con) ≡ arm_tail_made F.source as' con
  arm_tail_kinds_made F NoArms s t con q has = refl
  arm_tail_kinds_made F (AndArm c fs x b as') s t con q has =
      by_test (is_that (constructor_number F.source c) con) refl (tail_kinds_made F b (arm_scope known_kind (types_of F.source) c fs x s) q has.1) (arm_tail_kinds_made F as' s t con q has.2)
    where
      by_test : (test : Bool) → is_that (constructor_number F.source c) con ≡ test
          → length (tail_kinds F.source F.sigs (arm_scope known_kind (types_of F.source) c fs x s) b) ≡ tail_made F.source b → length (arm_tail_kinds F.source F.sigs s as' con) ≡ arm_tail_made F.source as' con
          → length (if test then bound_kinds F.source c x ++ tail_kinds F.source F.sigs (arm_scope known_kind (types_of F.source) c fs x s) b else arm_tail_kinds F.source F.sigs s as' con)
          ≡ (if test then bound_count fs x + tail_made F.source b else arm_tail_made F.source as' con)
      by_test true e own rest =
          let a = arm_for_con F.source t con c fs x has.0 e in
          two_parts (bound_kinds F.source c x) (tail_kinds F.source F.sigs (arm_scope known_kind (types_of F.source) c fs x s) b) (bound_count fs x) (tail_made F.source b)
          (ap length (bound_same F.source con c fs x a) ∙ bound_are F.source con c fs x a) own
      by_test false e own rest = rest
