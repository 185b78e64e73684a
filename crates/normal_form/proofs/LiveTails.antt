-- The same where an expression ends the function, and for whole functions.
use Rattle.std.proofs.Common.{◌≡◌, ℕ, suc, ◌+◌, ◌≤◌, Bool, true, false, List, [], ◌∷◌, ◌++◌, length, Some, refl, sym, ap, ◌∙◌, subst, arith, inl, inr}
use Rattle.std.specs.Prelude.{max, if◌then◌else◌, slice_get, ◌⊎◌, ◌&&◌, not}
use Rattle.std.specs.List.{AllByRecursion}
use Rattle.std.specs.Option.{option_map_or}
use Rattle.std.specs.Str.{bytes_eq}
use Rattle.std.proofs.lemmas.Bool.Decides.{nat_tests}
use Rattle.camelot_values.specs.Heap.{is_heap}
use Rattle.camelot_values.specs.Lists.{is_among}
use Rattle.camelot_values.specs.Names.{find}
use Rattle.camelot_values.specs.NameLaws.{same_name, name_itself}
use Rattle.camelot_values.specs.declared.kinds.Kind.{Kind}
use Rattle.camelot_values.specs.declared.kinds.Kind.TheVariants as kind
use Rattle.camelot_tree.specs.declared.tree.Param.{Param}
use Rattle.camelot_tree.specs.Tree.{Expression, Num, Truth, Var, Prim, If, Let, Match, Build, Call, Arms, NoArms, AndArm, Branch}
use Rattle.camelot_tree.specs.Meaning.{constructor_number, is_that}
use Rattle.camelot_typing.specs.Kinds as typed
use Rattle.camelot_typing.specs.Kinds.{Scope, bind, arm_scope, types_of, numbered}
use Rattle.camelot_typing.specs.Typing.{known_kind, params_scope, globals_of, ArmsHaveKind, arms_with}
use Rattle.camelot_typing.specs.NumberLaws.{number_same}
use Rattle.linear_use.specs.Uses.{lent_params, arm_flags, looks_at, IsFair, ParamsAreFair, IsLinear, ArmsAreLinear}
use Rattle.linear_use.specs.FairLaws.{fair_by_paths}
use Rattle.grail_blocks.specs.Blocks as block
use Rattle.grail_blocks.specs.Events.{taken_by, read_by}
use Rattle.grail_code.specs.WellFormed.{looked_by}
use Rattle.normal_form.specs.Normal.{Line, Close, fun_of, cons_of, arm_for, bound_count, in_arm, case_arm, case_arms, total, in_turn, made, ends, all_ends, local_of, locals_of, value, values, bound_kinds, kind_in, all_of, kinds, tail_made, arm_tail_made, tail_ends, arm_tail_ends, tail, arm_tail, tail_kinds, arm_tail_kinds}
use Rattle.normal_form.specs.Live.{bit, times}
use Rattle.normal_form.proofs.Lines.{ends_is_closed}
use Rattle.normal_form.proofs.Ends.{closes_tail, tail_closed, closes_arm_tail, closed_arm_tail}
use Rattle.normal_form.proofs.Values.{two, cons_are, fewer, number_found}
use Rattle.normal_form.proofs.UsedNames.{without, call_reads, all_taken, seen, all_seen, arms_seen, Fair, unseen_fair, none_seen, no_arm_seen, none_read, AreOne, AreSome, fewer_fair, one_fair}
use Rattle.normal_form.proofs.KindsAt.{Frame, At, at_front, at_back, at_head, at_rest, Named, named_kept, named_bind, kind_is, kind_same, in_let, kinds_made, local_is, arm_for_con, bound_of, bound_same, bound_are, named_arm}
use Rattle.normal_form.proofs.Frames.{Typed, tail_kinds_made, arm_tail_kinds_made}
use Rattle.normal_form.proofs.NamedUses.{named, one, one_most, same_or_not, above_none, above_seen, local_once}
use Rattle.normal_form.proofs.LiveLines.{live_here, later_lines, live_in, AllOnce, AreLent, Looks, looks_front, looks_back, looks_end, looks_behind}
use Rattle.normal_form.proofs.LiveParts.{Ruled, bit_max, among_one, Lives, lives_more, close_lives}
use Rattle.normal_form.proofs.LiveArms.{ArmLives, arm_lives, arm_once, arm_split, arm_more}
use Rattle.normal_form.proofs.LiveTurns.{Turning, case_lives}
use Rattle.normal_form.proofs.LiveValues.{Linear, linear_scrutinee, Fairly, ArmsFairly, let_once, let_live, without_above, value_times, call_once, call_live, value_lives, values_lives}

-- ---- tails

-- the value is handed on
returned_lives : (F : Frame) (R : Ruled F) (e : Expression) (s : Scope Kind) (flags : Scope Bool) (l : Scope ℕ) (next number : ℕ) (q : Kind) (rest : List Line) → Named F s l next
    → Typed F s e q → Linear F R s flags e → At F.kinds next (kinds F.source F.sigs s e)
    → Looks R.own (value F.source e l next number ++ (Close (block.Ret (local_of F.source e l next)) ∷ []))
    → Fairly F R l e (λ y. 0) → AllOnce R.own (number + suc (ends F.source e)) rest
    → Lives R.own number ((value F.source e l next number ++ (Close (block.Ret (local_of F.source e l next)) ∷ [])) ++ rest) (λ y. seen R.loans (named l y) e)
returned_lives F R e s flags l next number q rest st has lin at looks once behind =
    let p = F.source in
    let x = local_of p e l next in
    let m = number + ends p e in
    let up : number + suc (ends p e) ≡ suc m = omega arith in
    let end = close_lives R.own m (block.Ret x) rest (λ y. 0) (λ y. omega arith) (λ y own. (let k = one_most x y in omega (arith, k))) (subst (λ i. AllOnce R.own i rest) up behind) in
    let run = value_lives F R e s flags l next number m q (Close (block.Ret x) ∷ rest) (λ y. 0) refl st has lin at (looks_front R.own (value p e l next number) (Close (block.Ret x) ∷ []) looks) (λ y h. refl) once
    (lives_more R.own m (Close (block.Ret x) ∷ rest) (λ y. max (bit (is_among (x ∷ []) y)) 0) (λ y. one x y + 0) (λ y. (let k = among_one x y in omega (arith, k))) end) in
    subst (λ lines. Lives R.own number lines (λ y. seen R.loans (named l y) e)) (sym (two (value p e l next number) (Close (block.Ret x) ∷ []) rest))
    (lives_more R.own number (value p e l next number ++ (Close (block.Ret x) ∷ rest)) (λ y. max (seen R.loans (named l y) e) 0) (λ y. seen R.loans (named l y) e) (λ y. omega arith) run)

mutual
  pub tail_lives : (F : Frame) (R : Ruled F) (e : Expression) (s : Scope Kind) (flags : Scope Bool) (l : Scope ℕ) (next number : ℕ) (q : Kind) (rest : List Line) → Named F s l next
      → Typed F s e q → Linear F R s flags e → At F.kinds next (tail_kinds F.source F.sigs s e) → Looks R.own (tail F.source e l next number)
      → Fairly F R l e (λ y. 0) → AllOnce R.own (number + tail_ends F.source e) rest → Lives R.own number (tail F.source e l next number ++ rest) (λ y. seen R.loans (named l y) e)
  tail_lives F R (Var n) s flags l next number q rest st has lin at looks once behind = returned_lives F R (Var n) s flags l next number q rest st has lin at looks once behind
  tail_lives F R (Num z l0) s flags l next number q rest st has lin at looks once behind = returned_lives F R (Num z l0) s flags l next number q rest st has lin at looks once behind
  tail_lives F R (Truth t l0) s flags l next number q rest st has lin at looks once behind = returned_lives F R (Truth t l0) s flags l next number q rest st has lin at looks once behind
  tail_lives F R (Prim op a b l0) s flags l next number q rest st has lin at looks once behind = returned_lives F R (Prim op a b l0) s flags l next number q rest st has lin at looks once behind
  tail_lives F R (Build c es place) s flags l next number q rest st has lin at looks once behind = returned_lives F R (Build c es place) s flags l next number q rest st has lin at looks once behind
  tail_lives F R (Call f es) s flags l next number q rest st has lin at looks once behind =
      let p = F.source in
      let ms = R.loans f.word in
      let xs = locals_of p es l next in
      let m = number + all_ends p es in
      let up : number + suc (all_ends p es) ≡ suc m = omega arith in
      let marks : R.own.reads (fun_of p f) ≡ ms = R.marks f has.0 has.1 in
      let few_of = λ (y : ℕ) (own : R.own.owned y ≡ true). (let k = once y own in let apart = k.0.1 in
      let z : all_taken R.loans (named l y) ms es + max (call_reads (named l y) ms es) 0 ≤ 1 = omega (arith, apart) in z) in
      let end = close_lives R.own m (block.Tail (fun_of p f) xs) rest (λ y. 0) (λ y. omega arith)
      (λ y own. subst (λ k. times y (taken_by k xs) + max (bit (is_among (read_by k xs) y)) 0 ≤ 1) (sym marks) (call_once F R s l next ms es has.0.params y 0 st has.3 at (few_of y own) (λ h. refl))) (subst (λ i. AllOnce R.own i rest) up behind) in
      let run = values_lives F R es s flags l next number m ms has.0.params (Close (block.Tail (fun_of p f) xs) ∷ rest) (λ y. max (call_reads (named l y) ms es) 0) refl st has.3 (lin refl) at
      (looks_front R.own (values p es l next number) (Close (block.Tail (fun_of p f) xs) ∷ []) looks)
      (λ y h. (let u = none_read (named l y) ms es (above_none F s l next y st h) in let z : max (call_reads (named l y) ms es) 0 ≡ 0 = omega (arith, u) in z))
      (λ y own. ((once y own).0.0, few_of y own))
      (lives_more R.own m (Close (block.Tail (fun_of p f) xs) ∷ rest) (λ y. max (bit (is_among xs y)) 0) (λ y. value_times p y ms es l next + max (call_reads (named l y) ms es) 0)
      (λ y. call_live F s l next ms es has.0.params y 0 st has.3) end) in
      subst (λ lines. Lives R.own number lines (λ y. max (all_seen R.loans (named l y) ms es) (call_reads (named l y) ms es))) (sym (two (values p es l next number) (Close (block.Tail (fun_of p f) xs) ∷ []) rest))
      (lives_more R.own number (values p es l next number ++ (Close (block.Tail (fun_of p f) xs) ∷ rest)) (λ y. max (all_seen R.loans (named l y) ms es) (max (call_reads (named l y) ms es) 0))
      (λ y. max (all_seen R.loans (named l y) ms es) (call_reads (named l y) ms es)) (λ y. omega arith) run)
  tail_lives F R (Let n a b) s flags l next number q rest st has lin at looks once behind =
      let p = F.source in
      let k = kind_in p F.sigs s a in
      let nb = next + made p a in
      let mb = number + ends p a in
      let xa = local_of p a l next in
      let here = value p a l next number in
      let other = tail p b (bind n.word xa l) nb mb in
      let size = kinds_made F a s has.0 has.1 in
      let has_a = subst (Typed F s a) (kind_is F a s has.0 has.1) has.1 in
      let at_a = at_front F.kinds next (kinds p F.sigs s a) (tail_kinds p F.sigs (bind n.word k s) b) at in
      let x = local_is F a s l next k st has_a at_a in
      let single = subst (λ o. IsFair R.loans (types_of p) o false n.word b) (kind_same F a s has.0 has.1) (lin refl).1 in
      let lin_b = subst (λ o. IsLinear R.loans (globals_of p F.sigs) (bind n.word o s) (bind n.word false flags) b) (kind_same F a s has.0 has.1) (lin refl).2 in
      let up : number + (ends p a + tail_ends p b) ≡ mb + tail_ends p b = omega arith in
      let once_b = let_once F R s l next n a b k (λ y. 0) st has_a at_a single (λ y h. refl) once in
      let body = tail_lives F R b (bind n.word k s) (bind n.word false flags) (bind n.word xa l) nb mb q rest (named_bind F s l nb n.word k xa (named_kept F s l next nb st (omega arith)) x.kind x.below)
      (in_let F s n a b has.0 q has.1 has.2) (λ o. lin_b) (at_back F.kinds next nb (kinds p F.sigs s a) (tail_kinds p F.sigs (bind n.word k s) b) (omega (arith, size)) at)
      (looks_back R.own here other looks) once_b (subst (λ i. AllOnce R.own i rest) up behind) in
      let named_uses = let_live F R mb (other ++ rest) l n xa b (λ y. 0)
      (lives_more R.own mb (other ++ rest) (λ y. seen R.loans (named (bind n.word xa l) y) b) (λ y. max (seen R.loans (named (bind n.word xa l) y) b) 0) (λ y. omega arith) body) in
      let hidden = λ (y : ℕ) (h : next ≤ y). without_above F R s l next y n b st h in
      let first = value_lives F R a s flags l next number mb k (other ++ rest) (λ y. max (seen R.loans (without n (named l y)) b) 0) refl st has_a (λ o. (lin refl).0) at_a (looks_front R.own here other looks)
      (λ y h. (let i = hidden y h in let z : max (seen R.loans (without n (named l y)) b) 0 ≡ 0 = omega (arith, i) in z))
      (λ y own. (let k = once y own in let apart = k.0.2 in (k.0.0, omega (arith, apart)))) named_uses in
      subst (λ lines. Lives R.own number lines (λ y. max (seen R.loans (named l y) a) (seen R.loans (without n (named l y)) b))) (sym (two here other rest))
      (lives_more R.own number (here ++ (other ++ rest)) (λ y. max (seen R.loans (named l y) a) (max (seen R.loans (without n (named l y)) b) 0))
      (λ y. max (seen R.loans (named l y) a) (seen R.loans (without n (named l y)) b)) (λ y. omega arith) first)
  tail_lives F R (If c a b l0) s flags l next number q rest st has lin at looks once behind =
      let p = F.source in
      let n1 = next + made p c in
      let b0 = number + ends p c in
      let yes = suc b0 in
      let no = yes + tail_ends p a in
      let n2 = n1 + tail_made p a in
      let xc = local_of p c l next in
      let first = tail p a l n1 yes in
      let second = tail p b l n2 no in
      let size = kinds_made F c s kind.Flag has.0 in
      let size_a = tail_kinds_made F a s q has.1 in
      let at_c = at_front F.kinds next (kinds p F.sigs s c) (tail_kinds p F.sigs s a ++ tail_kinds p F.sigs s b) at in
      let at_both = at_back F.kinds next n1 (kinds p F.sigs s c) (tail_kinds p F.sigs s a ++ tail_kinds p F.sigs s b) (omega (arith, size)) at in
      let looks_c = looks_front R.own (value p c l next number) (Close (block.If xc yes no) ∷ (first ++ second)) looks in
      let looks_both = looks_back R.own (value p c l next number) (Close (block.If xc yes no) ∷ (first ++ second)) looks in
      let up : number + suc (ends p c + (tail_ends p a + tail_ends p b)) ≡ no + tail_ends p b = omega arith in
      let on_b = tail_lives F R b s flags l n2 no q rest (named_kept F s l next n2 st (omega arith)) has.2 (λ o. (lin refl).2) (at_back F.kinds n1 n2 (tail_kinds p F.sigs s a) (tail_kinds p F.sigs s b) (omega (arith, size_a)) at_both)
      (looks_back R.own first second looks_both) (λ y own. (let k = once y own in let few = k.1 in (k.0.2, omega (arith, few)))) (subst (λ i. AllOnce R.own i rest) up behind) in
      let on_a = tail_lives F R a s flags l n1 yes q (second ++ rest) (named_kept F s l next n1 st (omega arith)) has.1 (λ o. (lin refl).1) (at_front F.kinds n1 (tail_kinds p F.sigs s a) (tail_kinds p F.sigs s b) at_both)
      (looks_front R.own first second looks_both) (λ y own. (let k = once y own in let few = k.1 in (k.0.1, omega (arith, few)))) on_b.once in
      let grouped = two first second rest in
      let whole = (first ++ second) ++ rest in
      let branches = λ (y : ℕ). max (seen R.loans (named l y) a) (seen R.loans (named l y) b) in
      let none = λ (y : ℕ) (h : next ≤ y). (let i = above_seen F R.loans s l next y a st h in let j = above_seen F R.loans s l next y b st h in
      let z : max (seen R.loans (named l y) a) (seen R.loans (named l y) b) ≡ 0 = omega (arith, i, j) in z) in
      let few_c = λ (y : ℕ) (own : R.own.owned y ≡ true). (once y own).0.3 in
      let condition = close_lives R.own b0 (block.If xc yes no) whole branches
      (λ y.
      (let at_yes : later_lines b0 whole yes y ≡ live_here yes (first ++ (second ++ rest)) y = ap (λ w. later_lines b0 w yes y) grouped ∙ live_in b0 (Close (block.Ret 0) ∷ []) (first ++ (second ++ rest)) yes y tt (omega arith) in
      let at_no : later_lines b0 whole no y ≡ live_here no (second ++ rest) y =
      ap (λ w. later_lines b0 w no y) grouped ∙ live_in b0 (Close (block.Ret 0) ∷ first) (second ++ rest) no y (ends_is_closed first (tail_closed p a l n1 yes))
      (let count = closes_tail p a l n1 yes in omega (arith, count)) in
      let i = on_a.live y in
      let j = on_b.live y in
      let u = ap bit at_yes in
      let v = ap bit at_no in
      let either = bit_max (later_lines b0 whole yes y) (later_lines b0 whole no y) in
      omega (arith, i, j, u, v, either)))
      (λ y own. (let k = local_once F R.loans c s l next kind.Flag y (branches y) st has.0 at_c (few_c y own) (none y) in omega (arith, k)))
      (subst (AllOnce R.own yes) (sym grouped) on_a.once) in
      let run = value_lives F R c s flags l next number b0 kind.Flag (Close (block.If xc yes no) ∷ whole) branches refl st has.0 (λ o. (lin refl).0) at_c looks_c none (λ y own. ((once y own).0.0, few_c y own))
      (lives_more R.own b0 (Close (block.If xc yes no) ∷ whole) (λ y. max (bit (is_among (xc ∷ []) y)) (branches y)) (λ y. one xc y + branches y) (λ y. (let k = among_one xc y in omega (arith, k))) condition) in
      subst (λ lines. Lives R.own number lines (λ y. max (seen R.loans (named l y) c) (max (seen R.loans (named l y) a) (seen R.loans (named l y) b)))) (sym (two (value p c l next number) (Close (block.If xc yes no) ∷ (first ++ second)) rest)) run
  tail_lives F R (Match e NoArms l0) s flags l next number q rest st has lin at looks once behind = absurd has
  tail_lives F R (Match e (AndArm c fs x b as') l0) s flags l next number q rest st has lin at looks once behind =
      let p = F.source in
      let types = types_of p in
      let arms = AndArm c fs x b as' in
      let n1 = next + made p e in
      let b0 = number + ends p e in
      let first = suc b0 in
      let xe = local_of p e l next in
      let part = λ (con n i : ℕ). arm_tail p arms con l n i in
      let all = in_turn (arm_tail_made p arms) (arm_tail_ends p arms) part (cons_of p arms) n1 first in
      let end = block.Case xe (case_arms p arms (arm_tail_made p arms) (arm_tail_ends p arms) n1 first) in
      let size = kinds_made F e s (kind.Of has.0) has.1 in
      let at_e = at_front F.kinds next (kinds p F.sigs s e) (all_of (arm_tail_kinds p F.sigs s arms) (cons_of p arms)) at in
      let at_arms = at_back F.kinds next n1 (kinds p F.sigs s e) (all_of (arm_tail_kinds p F.sigs s arms) (cons_of p arms)) (omega (arith, size)) at in
      let looks_e = looks_front R.own (value p e l next number) (Close end ∷ all) looks in
      let looks_arms = looks_back R.own (value p e l next number) (Close end ∷ all) looks in
      let looks_all = looks_behind R.own end all looks_arms in
      let lent_all = looks_end R.own end all looks_arms in
      let st_arms = named_kept F s l next n1 st (omega arith) in
      let uses = λ (y : ℕ). arms_seen R.loans (named l y) arms in
      let none = λ (y : ℕ) (h : next ≤ y). no_arm_seen R.loans (named l y) arms (above_none F s l next y st h) in
      let few_e = λ (y : ℕ) (own : R.own.owned y ≡ true). (once y own).0.2 in
      let T : Turning = record {
        source = p;
        own = R.own;
        all = F.kinds;
        arms_of = arm_for p arms;
        locals = arm_tail_made p arms;
        blocks = arm_tail_ends p arms;
        part = part;
        kinds = arm_tail_kinds p F.sigs s arms;
        Covered = λ con. arms_with types con arms ≡ 1;
        most = uses;
        low = n1;
        end = number + suc (ends p e + total (arm_tail_ends p arms) (cons_of p arms));
        rest = rest;
        count = λ con n i. closes_arm_tail p arms con l n i;
        closed = λ con n i. closed_arm_tail p arms con l n i;
        lengths = λ con. arm_tail_kinds_made F (AndArm c fs x b as') s has.0 con q has.3;
        each = λ con n i back covered at looks lent low closed is behind.
            arm_tail_lives F R (AndArm c fs x b as') s flags (looks_at flags e) l n i con has.0 q (back ++ rest) (named_kept F s l n1 n st_arms low) has.3 (lin refl).1 (omega (arith, covered)) at looks lent
            (λ y own. (let k = once y own in let few = k.1 in (k.0.1, omega (arith, few)))) behind;
        rest_once = behind;
      } in
      let lives = case_lives T b0 (cons_of p arms) n1 (omega arith) at_arms (subst (AllByRecursion (λ con. arms_with types con arms ≡ 1)) (sym (cons_are p has.0 c fs x b as' has.3.0)) has.2) looks_all lent_all (omega arith) in
      let taken_apart = close_lives R.own b0 end (all ++ rest) uses lives.live
      (λ y own. (let k = local_once F R.loans e s l next (kind.Of has.0) y (uses y) st has.1 at_e (few_e y own) (none y) in omega (arith, k))) lives.once in
      let run = value_lives F R e s flags l next number b0 (kind.Of has.0) (Close end ∷ (all ++ rest)) uses refl st has.1 (linear_scrutinee F R s flags e (lin refl).0) at_e looks_e none (λ y own. ((once y own).0.0, few_e y own))
      (lives_more R.own b0 (Close end ∷ (all ++ rest)) (λ y. max (bit (is_among (xe ∷ []) y)) (uses y)) (λ y. one xe y + uses y) (λ y. (let k = among_one xe y in omega (arith, k))) taken_apart) in
      subst (λ lines. Lives R.own number lines (λ y. max (seen R.loans (named l y) e) (arms_seen R.loans (named l y) arms))) (sym (two (value p e l next number) (Close end ∷ all) rest)) run

  pub arm_tail_lives : (F : Frame) (R : Ruled F) (as' : Arms) (s : Scope Kind) (flags : Scope Bool) (lent : Bool) (l : Scope ℕ) (n number con t : ℕ) (q : Kind) (follow : List Line) → Named F s l n
      → ArmsHaveKind (globals_of F.source F.sigs) s t as' q
      → ArmsAreLinear R.loans (globals_of F.source F.sigs) s flags lent as' → 1 ≤ arms_with (types_of F.source) con as' → At F.kinds n (arm_tail_kinds F.source F.sigs s as' con)
      → Looks R.own (arm_tail F.source as' con l n number)
      → AreLent R.own (looked_by (case_arm F.source (arm_for F.source as' con) n number).cell (case_arm F.source (arm_for F.source as' con) n number).fields)
      → ArmsFairly F R l as' (λ y. 0)
      → AllOnce R.own (number + arm_tail_ends F.source as' con) follow
      → ArmLives R.own (case_arm F.source (arm_for F.source as' con) n number) number (arm_tail F.source as' con l n number ++ follow) (λ y. arms_seen R.loans (named l y) as')
  arm_tail_lives F R NoArms s flags lent l n number con t q follow st has lin some at looks fields once behind = absurd (omega (arith, some))
  arm_tail_lives F R (AndArm c fs x b as') s flags lent l n number con t q follow st has lin some at looks fields once behind =
      let p = F.source in
      let types = types_of p in
      let inner = arm_scope known_kind types c fs x s in
      let n1 = n + bound_count fs x in
      let l1 = in_arm fs x n l in
      let br : Branch = record { con = c; fields = fs; cell = x; body = b } in
      let own_lines = tail p b l1 n1 number in
      let other_lines = arm_tail p as' con l n number in
      arm_split p R.own (is_that (constructor_number p c) con) br (arm_for p as' con) n number own_lines other_lines follow
      (λ y. arms_seen R.loans (named l y) (AndArm c fs x b as'))
      (λ test.
      let a = arm_for_con p t con c fs x has.0 test in
      let at_arm = subst (λ bs. At F.kinds n (bs ++ tail_kinds p F.sigs inner b)) (bound_same p con c fs x a) (subst (λ t. At F.kinds n (if t then bound_kinds p c x ++ tail_kinds p F.sigs inner b else arm_tail_kinds p F.sigs s as' con)) test at) in
      let at_bound = at_front F.kinds n (bound_of p con x) (tail_kinds p F.sigs inner b) at_arm in
      let size = bound_are p con c fs x a in
      let at_b = at_back F.kinds n n1 (bound_of p con x) (tail_kinds p F.sigs inner b) (omega (arith, size)) at_arm in
      let looks_b = subst (λ t. Looks R.own (if t then own_lines else other_lines)) test looks in
      let fields_b = subst (λ t. AreLent R.own (looked_by (case_arm p (if t then Some br else arm_for p as' con) n number).cell (case_arm p (if t then Some br else arm_for p as' con) n number).fields)) test fields in
      let once_b : Fairly F R l1 b (λ y. 0) = λ y own. arm_once F R s l n number con n c fs x b as' lent flags (λ y. 0) y st a at_bound (omega arith) (λ y h. refl) lin.0 fields_b lin.1 (once y) own in
      arm_more R.own (case_arm p (Some br) n number) number (own_lines ++ follow) (λ y. max (arms_seen R.loans (named l y) (AndArm c fs x b as')) 0)
      (λ y. arms_seen R.loans (named l y) (AndArm c fs x b as')) (λ y. omega arith)
      (arm_lives F R s l n con n number c fs x b as' c (own_lines ++ follow) (λ y. 0) st a at_bound (omega arith) (λ y h. refl)
      (lives_more R.own number (own_lines ++ follow) (λ y. seen R.loans (named l1 y) b) (λ y. max (seen R.loans (named l1 y) b) 0) (λ y. omega arith)
      (tail_lives F R b inner (arm_flags types lent c fs x flags) l1 n1 number q follow (named_arm F s l n con c fs x st a at_bound) has.1 (λ o. lin.2) at_b looks_b once_b
      (subst (λ t. AllOnce R.own (number + (if t then tail_ends p b else arm_tail_ends p as' con)) follow) test behind)))))
      (λ test.
      let typed_test : is_that (typed.constructor_number types c.word) con ≡ false = ap (λ o. is_that o con) (number_same p c) ∙ test in
      arm_more R.own (case_arm p (arm_for p as' con) n number) number (other_lines ++ follow) (λ y. arms_seen R.loans (named l y) as') (λ y. arms_seen R.loans (named l y) (AndArm c fs x b as')) (λ y. omega arith)
      (arm_tail_lives F R as' s flags lent l n number con t q follow st has.2 lin.3 (fewer (is_that (typed.constructor_number types c.word) con) (arms_with types con as') typed_test some)
      (subst (λ t. At F.kinds n (if t then bound_kinds p c x ++ tail_kinds p F.sigs inner b else arm_tail_kinds p F.sigs s as' con)) test at)
      (subst (λ t. Looks R.own (if t then own_lines else other_lines)) test looks)
      (subst (λ t. AreLent R.own (looked_by (case_arm p (if t then Some br else arm_for p as' con) n number).cell (case_arm p (if t then Some br else arm_for p as' con) n number).fields)) test fields)
      (λ y own. (let k = once y own in let few = k.1 in (k.0.1, omega (arith, few))))
      (subst (λ t. AllOnce R.own (number + (if t then tail_ends p b else arm_tail_ends p as' con)) follow) test behind)))

-- ---- parameters

params_above : (xs : List Param) (first : ℕ) (v : List ℕ) (y : ℕ) → find (params_scope xs (numbered first xs)) v ≡ Some y → first ≤ y
params_above [] first v y e = absurd cc
params_above (x ∷ xs) first v y e = by_test (λ k. params_above xs (suc first) v y k) (bytes_eq x.name.word v) e
  where
    by_test : (find (params_scope xs (numbered (suc first) xs)) v ≡ Some y → suc first ≤ y) → (b : Bool)
        → (if b then Some first else find (params_scope xs (numbered (suc first) xs)) v) ≡ Some y → first ≤ y
    by_test rest true q = let same : first ≡ y = cc in omega (arith, same)
    by_test rest false q = let k = rest q in omega (arith, k)

-- Nothing comes behind the taking of a parameter that is owned.
pub params_fair : (F : Frame) (R : Ruled F) (xs : List Param) (ks : List Kind) (first : ℕ) (e : Expression) (y : ℕ) → length xs ≡ length ks → At F.kinds first ks
    → ParamsAreFair R.loans (types_of F.source) xs ks (lent_params (types_of F.source) xs ks) e
    → ((i : ℕ) (mark : Bool) → slice_get (lent_params (types_of F.source) xs ks) i ≡ Some mark → y ≡ first + i → mark ≡ false) → R.own.owned y ≡ true
    → Fair R.loans (named (params_scope xs (numbered first xs)) y) e
params_fair F R [] ks first e y full at fair marks own = unseen_fair R.loans (named [] y) e (none_seen R.loans (named [] y) e (λ v. refl))
params_fair F R (x ∷ xs) [] first e y full at fair marks own = absurd (omega (arith, full))
params_fair F R (x ∷ xs) (k ∷ ks) first e y full at fair marks own =
    either (params_fair F R xs ks (suc first) e y (omega (arith, full)) (at_rest F.kinds first k ks at) fair.1 (λ i mark is same. marks (suc i) mark is (omega (arith, same))) own) (same_or_not first y)
  where
    alone : first ≡ y → AreOne x.name.word (named (params_scope (x ∷ xs) (numbered first (x ∷ xs))) y)
    alone same v = by_test (bytes_eq x.name.word v) refl
      where
        by_test : (b : Bool) → bytes_eq x.name.word v ≡ b
            → is_that (if b then Some first else find (params_scope xs (numbered (suc first) xs)) v) y ≡ true → bytes_eq v x.name.word ≡ true
        by_test true t q = let equal : x.name.word ≡ v = same_name x.name.word v t in ap (λ w. bytes_eq w x.name.word) (sym equal) ∙ name_itself x.name.word
        by_test false t q = let above = params_above xs (suc first) v y (number_found (find (params_scope xs (numbered (suc first) xs)) v) y q) in absurd (omega (arith, above, same))

    others : (first ≡ y → ⊥) → AreSome (named (params_scope (x ∷ xs) (numbered first (x ∷ xs))) y) (named (params_scope xs (numbered (suc first) xs)) y)
    others differ v = by_test (bytes_eq x.name.word v)
      where
        by_test : (b : Bool) → is_that (if b then Some first else find (params_scope xs (numbered (suc first) xs)) v) y ≡ true
            → is_that (find (params_scope xs (numbered (suc first) xs)) v) y ≡ true
        by_test true q = absurd (differ (grind (arith, nat_tests, q)))
        by_test false q = q

    either : Fair R.loans (named (params_scope xs (numbered (suc first) xs)) y) e → (first ≡ y) ⊎ (first ≡ y → ⊥)
        → Fair R.loans (named (params_scope (x ∷ xs) (numbered first (x ∷ xs))) y) e
    either rest (inl same) =
        let is : slice_get F.kinds y ≡ Some k = ap (slice_get F.kinds) (sym same) ∙ at_head F.kinds first k ks at in
        let of_kind : is_heap (types_of F.source) k ≡ true = sym (ap (λ o. option_map_or (is_heap (types_of F.source)) o false) is) ∙ R.heap y own in
        let mark : (x.read && is_heap (types_of F.source) k) ≡ false = marks 0 (x.read && is_heap (types_of F.source) k) refl (omega (arith, same)) in
        one_fair R.loans x.name.word (named (params_scope (x ∷ xs) (numbered first (x ∷ xs))) y) e (alone same)
        (fair_by_paths R.loans x.name.word e (fair.0 (ap (λ t. t && not (x.read && is_heap (types_of F.source) k)) of_kind ∙ ap not mark)))
    either rest (inr differ) = fewer_fair R.loans (named (params_scope (x ∷ xs) (numbered first (x ∷ xs))) y) (named (params_scope xs (numbered (suc first) xs)) y) e (others differ) rest
