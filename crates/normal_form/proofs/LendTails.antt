-- The lines of functions only look at what is lent.
use Rattle.std.proofs.Common.{ℕ, suc, ◌+◌, Bool, false, [], ◌∷◌, ◌++◌, Some, sym, subst, arith}
use Rattle.std.specs.Prelude.{if◌then◌else◌}
use Rattle.std.specs.List.{AllByRecursion}
use Rattle.camelot_values.specs.declared.kinds.Kind.{Kind}
use Rattle.camelot_values.specs.declared.kinds.Kind.TheVariants as kind
use Rattle.camelot_tree.specs.Tree.{Expression, Num, Truth, Var, Prim, If, Let, Match, Build, Call, Arms, NoArms, AndArm}
use Rattle.camelot_tree.specs.Meaning.{constructor_number, is_that}
use Rattle.camelot_typing.specs.Kinds.{Scope, bind, arm_scope, types_of}
use Rattle.camelot_typing.specs.Typing.{known_kind, globals_of, ArmsHaveKind}
use Rattle.linear_use.specs.Uses.{Loans, ArmsAreLinear, looks_at, arm_flags}
use Rattle.grail_blocks.specs.Blocks as block
use Rattle.grail_blocks.specs.Events.{taken_by}
use Rattle.grail_code.specs.WellFormed.{AreNotLent, ArmLends}
use Rattle.normal_form.specs.Normal.{Close, fun_of, cons_of, arm_for, bound_count, in_arm, case_arm, case_arms, total, in_turn, made, all_made, ends, local_of, locals_of, value, values, bound_kinds, kind_in, all_of, kinds, tail_made, arm_tail_made, tail_ends, arm_tail_ends, tail, arm_tail, tail_kinds, arm_tail_kinds}
use Rattle.normal_form.proofs.KindsAt.{Frame, At, at_front, at_back, Named, named_kept, named_bind, kind_is, kind_same, in_let, kinds_made, local_is, arm_for_con, bound_of, bound_same, bound_are, named_arm}
use Rattle.normal_form.proofs.Frames.{Typed, tail_kinds_made, arm_tail_kinds_made}
use Rattle.normal_form.proofs.FitParts.{Coding}
use Rattle.normal_form.proofs.Looked.{looks, arm_looks, Inside, nothing, inside_then, turns_inside, value_inside, tail_inside, arm_tail_inside}
use Rattle.normal_form.proofs.LendParts.{LinesLend, lend_append, ReadAs, read_within, read_front, read_back, Flagged, flagged_bind, lent_in, ArmGoes, lends_split, turns_lend, arm_stands}
use Rattle.normal_form.proofs.LendValues.{CalleesLend, Linear, on_lends, value_lends, values_lends, body_reads}

returned_lends : (F : Frame) (C : Coding F) (loans : Loans) (calls : CalleesLend F C loans) (e : Expression) (s : Scope Kind) (l : Scope ℕ) (flags : Scope Bool) (next number : ℕ) (q : Kind) → Named F s l next
    → Flagged (lent_in F C) l flags → Typed F s e q → Linear F loans s flags e → At F.kinds next (kinds F.source F.sigs s e)
    → ReadAs C.func next (next + made F.source e) (looks (value F.source e l next number ++ (Close (block.Ret (local_of F.source e l next)) ∷ [])))
    → LinesLend C.program C.func (value F.source e l next number ++ (Close (block.Ret (local_of F.source e l next)) ∷ []))
returned_lends F C loans calls e s l flags next number q st fl has lin at reads =
    let x = local_of F.source e l next in
    let lines = value F.source e l next number in
    let top = next + made F.source e in
    let v = value_lends F C loans calls e s l flags next number q st fl has lin at (read_front C.func next top top top lines (Close (block.Ret x) ∷ []) reads (omega arith) (nothing top top)) in
    lend_append C.program C.func lines (Close (block.Ret x) ∷ []) v.lines_lend ((v.own, tt), tt)

mutual
  pub tail_lends : (F : Frame) (C : Coding F) (loans : Loans) (calls : CalleesLend F C loans) (e : Expression) (s : Scope Kind) (l : Scope ℕ) (flags : Scope Bool) (next number : ℕ) (q : Kind) → Named F s l next
      → Flagged (lent_in F C) l flags → Typed F s e q → Linear F loans s flags e → At F.kinds next (tail_kinds F.source F.sigs s e)
      → ReadAs C.func next (next + tail_made F.source e) (looks (tail F.source e l next number)) → LinesLend C.program C.func (tail F.source e l next number)
  tail_lends F C loans calls (Var n) s l flags next number q st fl has lin at reads = returned_lends F C loans calls (Var n) s l flags next number q st fl has lin at reads
  tail_lends F C loans calls (Num z l0) s l flags next number q st fl has lin at reads = returned_lends F C loans calls (Num z l0) s l flags next number q st fl has lin at reads
  tail_lends F C loans calls (Truth b l0) s l flags next number q st fl has lin at reads = returned_lends F C loans calls (Truth b l0) s l flags next number q st fl has lin at reads
  tail_lends F C loans calls (Prim op a b l0) s l flags next number q st fl has lin at reads = returned_lends F C loans calls (Prim op a b l0) s l flags next number q st fl has lin at reads
  tail_lends F C loans calls (Build c es place) s l flags next number q st fl has lin at reads = returned_lends F C loans calls (Build c es place) s l flags next number q st fl has lin at reads
  tail_lends F C loans calls (Call f es) s l flags next number q st fl has lin at reads =
      let p = F.source in
      let xs = locals_of p es l next in
      let lines = values p es l next number in
      let end = block.Tail (fun_of p f) xs in
      let top = next + all_made p es in
      let args = values_lends F C loans calls es s l flags (loans f.word) next number has.0.params st fl has.3 lin at (read_front C.func next top top top lines (Close end ∷ []) reads (omega arith) (nothing top top)) in
      lend_append C.program C.func lines (Close end ∷ []) args.lines_lend (subst (λ marks. AreNotLent C.program.types C.func (taken_by marks xs)) (sym (calls f has.0 has.1)) args.taken, tt)
  tail_lends F C loans calls (Let n a b) s l flags next number q st fl has lin at reads =
      let p = F.source in
      let k = kind_in p F.sigs s a in
      let nb = next + made p a in
      let mb = number + ends p a in
      let xa = local_of p a l next in
      let l1 = bind n.word xa l in
      let top = next + (made p a + tail_made p b) in
      let first = value p a l next number in
      let second = tail p b l1 nb mb in
      let size = kinds_made F a s has.0 has.1 in
      let has_a = subst (Typed F s a) (kind_is F a s has.0 has.1) has.1 in
      let at_a = at_front F.kinds next (kinds p F.sigs s a) (tail_kinds p F.sigs (bind n.word k s) b) at in
      let x = local_is F a s l next k st has_a at_a in
      let lin_b = subst (λ o. Linear F loans (bind n.word o s) (bind n.word false flags) b) (kind_same F a s has.0 has.1) lin.2 in
      let va = value_lends F C loans calls a s l flags next number k st fl has_a lin.0 at_a (read_front C.func next top nb (nb + tail_made p b) first second reads (omega arith) (tail_inside p b l1 nb mb)) in
      let rest = tail_lends F C loans calls b (bind n.word k s) l1 (bind n.word false flags) nb mb q (named_bind F s l nb n.word k xa (named_kept F s l next nb st (omega arith)) x.kind x.below) (flagged_bind (lent_in F C) l flags n.word xa false fl (sym va.own))
      (in_let F s n a b has.0 q has.1 has.2) lin_b (at_back F.kinds next nb (kinds p F.sigs s a) (tail_kinds p F.sigs (bind n.word k s) b) (omega (arith, size)) at)
      (read_within C.func nb top nb (nb + tail_made p b) (looks second) (read_back C.func next top nb next first second reads (omega arith) (value_inside p a l next number)) (omega arith) (omega arith)) in
      lend_append C.program C.func first second va.lines_lend rest
  tail_lends F C loans calls (If c a b l0) s l flags next number q st fl has lin at reads =
      let p = F.source in
      let n1 = next + made p c in
      let b0 = number + ends p c in
      let yes = suc b0 in
      let no = yes + tail_ends p a in
      let n2 = n1 + tail_made p a in
      let n3 = n2 + tail_made p b in
      let top = next + (made p c + (tail_made p a + tail_made p b)) in
      let xc = local_of p c l next in
      let lc = value p c l next number in
      let first = tail p a l n1 yes in
      let second = tail p b l n2 no in
      let end = Close (block.If xc yes no) in
      let size = kinds_made F c s kind.Flag has.0 in
      let size_a = tail_kinds_made F a s q has.1 in
      let at_c = at_front F.kinds next (kinds p F.sigs s c) (tail_kinds p F.sigs s a ++ tail_kinds p F.sigs s b) at in
      let at_both = at_back F.kinds next n1 (kinds p F.sigs s c) (tail_kinds p F.sigs s a ++ tail_kinds p F.sigs s b) (omega (arith, size)) at in
      let inside_a = tail_inside p a l n1 yes in
      let inside_b = tail_inside p b l n2 no in
      let wide_b : Inside n1 n3 (looks second) = (λ y e. (let k = inside_b y e in (omega (arith, k), omega (arith, k)))) in
      let inside_both = inside_then n1 n2 n1 n3 first second inside_a (omega arith) (omega arith) wide_b in
      let vc = value_lends F C loans calls c s l flags next number kind.Flag st fl has.0 lin.0 at_c (read_front C.func next top n1 n3 lc (end ∷ (first ++ second)) reads (omega arith) inside_both) in
      let both = read_within C.func n1 top n1 n3 (looks (first ++ second)) (read_back C.func next top n1 next lc (end ∷ (first ++ second)) reads (omega arith) (value_inside p c l next number)) (omega arith) (omega arith) in
      lend_append C.program C.func lc (end ∷ (first ++ second)) vc.lines_lend (
        (vc.own, tt),
        lend_append C.program C.func first second
            (tail_lends F C loans calls a s l flags n1 yes q (named_kept F s l next n1 st (omega arith)) fl has.1 lin.1 (at_front F.kinds n1 (tail_kinds p F.sigs s a) (tail_kinds p F.sigs s b) at_both)
            (read_front C.func n1 n3 n2 n3 first second both (omega arith) inside_b))
            (tail_lends F C loans calls b s l flags n2 no q (named_kept F s l next n2 st (omega arith)) fl has.2 lin.2 (at_back F.kinds n1 n2 (tail_kinds p F.sigs s a) (tail_kinds p F.sigs s b) (omega (arith, size_a)) at_both)
            (read_back C.func n1 n3 n2 n1 first second both (omega arith) inside_a)),
      )
  tail_lends F C loans calls (Match e NoArms l0) s l flags next number q st fl has lin at reads = absurd has
  tail_lends F C loans calls (Match e (AndArm c fs x b as') l0) s l flags next number q st fl has lin at reads =
      let p = F.source in
      let all = AndArm c fs x b as' in
      let n1 = next + made p e in
      let b0 = number + ends p e in
      let first = suc b0 in
      let n2 = n1 + total (arm_tail_made p all) (cons_of p all) in
      let top = next + (made p e + total (arm_tail_made p all) (cons_of p all)) in
      let xe = local_of p e l next in
      let part = λ (con n i : ℕ). arm_tail p all con l n i in
      let arm = λ (con n i : ℕ). case_arm p (arm_for p all con) n i in
      let arms = case_arms p all (arm_tail_made p all) (arm_tail_ends p all) n1 first in
      let lines = in_turn (arm_tail_made p all) (arm_tail_ends p all) part (cons_of p all) n1 first in
      let le = value p e l next number in
      let end = Close (block.Case xe arms) in
      let size = kinds_made F e s (kind.Of has.0) has.1 in
      let at_e = at_front F.kinds next (kinds p F.sigs s e) (all_of (arm_tail_kinds p F.sigs s all) (cons_of p all)) at in
      let at_arms = at_back F.kinds next n1 (kinds p F.sigs s e) (all_of (arm_tail_kinds p F.sigs s all) (cons_of p all)) (omega (arith, size)) at in
      let st_arms = named_kept F s l next n1 st (omega arith) in
      let each_inside = λ (con n i : ℕ). arm_tail_inside p all con l n i in
      let insides = turns_inside (arm_tail_made p all) (arm_tail_ends p all) arm part each_inside in
      let inside = insides (cons_of p all) n1 first in
      let reads_e = read_front C.func next top n1 n2 le (end ∷ lines) reads (omega arith) inside in
      let on = on_lends F C e s l flags next number (kind.Of has.0) st fl has.1 (λ test. value_lends F C loans calls e s l flags next number (kind.Of has.0) st fl has.1 (lin.0 test) at_e reads_e) in
      let rest = read_back C.func next top n1 next le (end ∷ lines) reads (omega arith) (value_inside p e l next number) in
      let turns = turns_lend C.program C.func F.kinds (looks_at flags e) n1 (arm_tail_made p all) (arm_tail_ends p all) arm part (arm_tail_kinds p F.sigs s all) (λ con. arm_tail_kinds_made F (AndArm c fs x b as') s has.0 con q has.3) each_inside insides
      (λ con n i at_arm least reads_arm. arm_tail_lends F C loans calls (AndArm c fs x b as') s l flags (looks_at flags e) n i con has.0 q (named_kept F s l n1 n st_arms least) fl has.3 lin.1 at_arm reads_arm)
      (cons_of p all) n1 first at_arms (omega arith) (read_within C.func n1 top n1 n2 (looks (end ∷ lines)) rest (omega arith) (omega arith)) in
      lend_append C.program C.func le (end ∷ lines) on.lines_lend (subst (λ lent. AllByRecursion (ArmLends C.program.types C.func lent) arms) (sym on.own) turns.each, turns.lines_lend)

  pub arm_tail_lends : (F : Frame) (C : Coding F) (loans : Loans) (calls : CalleesLend F C loans) (as' : Arms) (s : Scope Kind) (l : Scope ℕ) (flags : Scope Bool) (lent : Bool) (n i con t : ℕ) (q : Kind) → Named F s l n
      → Flagged (lent_in F C) l flags → ArmsHaveKind (globals_of F.source F.sigs) s t as' q → ArmsAreLinear loans (globals_of F.source F.sigs) s flags lent as'
      → At F.kinds n (arm_tail_kinds F.source F.sigs s as' con)
      → ReadAs C.func n (n + arm_tail_made F.source as' con) (arm_looks (case_arm F.source (arm_for F.source as' con) n i) (arm_tail F.source as' con l n i))
      → ArmGoes C.program C.func lent (case_arm F.source (arm_for F.source as' con) n i) (arm_tail F.source as' con l n i)
  arm_tail_lends F C loans calls NoArms s l flags lent n i con t q st fl has lin at reads = record { arm = record { cell = tt; bound = tt }; lines_lend = tt }
  arm_tail_lends F C loans calls (AndArm c fs x b as') s l flags lent n i con t q st fl has lin at reads =
      let p = F.source in
      let types = types_of p in
      let inner = arm_scope known_kind types c fs x s in
      let n1 = n + bound_count fs x in
      let l1 = in_arm fs x n l in
      let lines = tail p b l1 n1 i in
      lends_split p C.program C.func lent (is_that (constructor_number p c) con) (record { con = c; fields = fs; cell = x; body = b }) (arm_for p as' con) n i (bound_count fs x + tail_made p b) (arm_tail_made p as' con) lines (arm_tail p as' con l n i)
      (λ test reads_arm.
      let a = arm_for_con p t con c fs x has.0 test in
      let at_arm = subst (λ bs. At F.kinds n (bs ++ tail_kinds p F.sigs inner b)) (bound_same p con c fs x a) (subst (λ t. At F.kinds n (if t then bound_kinds p c x ++ tail_kinds p F.sigs inner b else arm_tail_kinds p F.sigs s as' con)) test at) in
      let at_bound = at_front F.kinds n (bound_of p con x) (tail_kinds p F.sigs inner b) at_arm in
      let size = bound_are p con c fs x a in
      let at_b = at_back F.kinds n n1 (bound_of p con x) (tail_kinds p F.sigs inner b) (omega (arith, size)) at_arm in
      let stands = arm_stands F C lent c fs x b l flags n i con lines (n1 + tail_made p b) a lin.0 at_bound fl (tail_inside p b l1 n1 i)
      (read_within C.func n (n + (bound_count fs x + tail_made p b)) n n1 (arm_looks (case_arm p (Some (record { con = c; fields = fs; cell = x; body = b })) n i) lines) reads_arm (omega arith) (omega arith)) in
      record {
        arm = stands.arm;
        lines_lend = tail_lends F C loans calls b inner l1 (arm_flags types lent c fs x flags) n1 i q (named_arm F s l n con c fs x st a at_bound) stands.flags_are has.1 lin.2 at_b (body_reads F C c fs b n i (tail_made p b) x lines reads_arm);
      })
      (λ test reads_arm. arm_tail_lends F C loans calls as' s l flags lent n i con t q st fl has.2 lin.3
      (subst (λ t. At F.kinds n (if t then bound_kinds p c x ++ tail_kinds p F.sigs inner b else arm_tail_kinds p F.sigs s as' con)) test at) reads_arm) reads
